-- Copies of blocks are blocks of the same entries.
use Rattle.std.proofs.Common.{◌≡◌, ◌∙◌, ℕ, zero, suc, ◌+◌, ◌<◌, ◌≤◌, ap, ap₂, List, [], ◌∷◌, ◌++◌, length, get_or, take, arith, subst, refl}
use Rattle.std.specs.Vec.{vec_capacity}
use Rattle.gcs_index.specs.declared.blocks.Block.{Block}
use Rattle.gcs_index.specs.Blocks.{entries_of, AreBlocks, AreCopies, AreSized, HaveRoom, PairsAreFull}

module _ {K V : Type 0} where
  pub copies_entries : (ms bs : List (Block K V)) → AreCopies ms bs → entries_of ms ≡ entries_of bs
  copies_entries [] [] h = refl
  copies_entries [] (b ∷ bs) h = absurd h
  copies_entries (m ∷ ms) [] h = absurd h
  copies_entries (m ∷ ms) (b ∷ bs) h = ap₂ (λ x y. x ++ y) h.0.0 (copies_entries ms bs h.1)

  pub copies_room : (ms bs : List (Block K V)) → AreCopies ms bs → HaveRoom ms
  copies_room [] [] h = tt
  copies_room [] (b ∷ bs) h = absurd h
  copies_room (m ∷ ms) [] h = absurd h
  copies_room (m ∷ ms) (b ∷ bs) h = (h.0.1, copies_room ms bs h.1)

  sizes : (ms bs : List (Block K V)) → AreCopies ms bs → AreSized bs → AreSized ms
  sizes [] [] h s = tt
  sizes [] (b ∷ bs) h s = absurd h
  sizes (m ∷ ms) [] h s = absurd h
  sizes (m ∷ ms) (b ∷ bs) h s = ((omega (arith, ap length h.0.0, s.0.0), omega (arith, ap length h.0.0, s.0.1)), sizes ms bs h.1 s.1)

  pairs : (ms bs : List (Block K V)) → AreCopies ms bs → PairsAreFull bs → PairsAreFull ms
  pairs [] bs h p = tt
  pairs (m ∷ []) bs h p = tt
  pairs (m ∷ (n ∷ ms)) [] h p = absurd h
  pairs (m ∷ (n ∷ ms)) (b ∷ []) h p = absurd h.1
  pairs (m ∷ (n ∷ ms)) (b ∷ (c ∷ bs)) h p = (omega (arith, ap length h.0.0, ap length h.1.0.0, p.0), pairs (n ∷ ms) (c ∷ bs) h.1 p.1)

  pub copies_blocks : (ms bs : List (Block K V)) → AreCopies ms bs → AreBlocks bs → AreBlocks ms
  copies_blocks ms bs h are = record { sizes = sizes ms bs h are.sizes; pairs = pairs ms bs h are.pairs }

  -- one block more
  next : (ms bs : List (Block K V)) (i : ℕ) (m c : Block K V) → AreCopies ms (take i bs) → i < length bs → c ≡ get_or bs i c → m.entries.items ≡ c.entries.items → 512 ≤ vec_capacity m.entries
      → AreCopies (ms ++ m ∷ []) (take (suc i) bs)
  next ms [] i m c h within is same room = absurd (omega (arith, within))
  next [] (b ∷ bs) zero m c h within is same room = ((same ∙ ap (λ (x : Block K V). x.entries.items) is, room), tt)
  next (n ∷ ms) (b ∷ bs) zero m c h within is same room = absurd h
  next [] (b ∷ bs) (suc i) m c h within is same room = absurd h
  next (n ∷ ms) (b ∷ bs) (suc i) m c h within is same room = (h.0, next ms bs i m c h.1 (omega arith) is same room)

  pub copies_next : (ms bs : List (Block K V)) (i n : ℕ) (m c : Block K V) → n ≡ i + 1 → AreCopies ms (take i bs) → i < length bs → c ≡ get_or bs i c → m.entries.items ≡ c.entries.items → 512 ≤ vec_capacity m.entries
      → AreCopies (ms ++ m ∷ []) (take n bs)
  copies_next ms bs i n m c e h within is same room = subst (λ k. AreCopies (ms ++ m ∷ []) (take k bs)) {x = suc i} (omega arith) (next ms bs i m c h within is same room)
