-- What a change of one block does to all entries.
use Rattle.std.proofs.Common.{◌≡◌, ℕ, zero, suc, ◌+◌, ◌-◌, ◌<◌, ◌≤◌, ◌∙◌, sym, ap, ap₂, refl, List, [], ◌∷◌, ◌++◌, length, set, get_or, arith, subst, append_assoc}
use Rattle.std.proofs.Common.{slice_get, Some}
use Rattle.std.specs.List.{AllByRecursion, insert}
use Rattle.std.specs.Vec.{vec_capacity}
use Rattle.gcs_index.specs.declared.blocks.Entry.{Entry}
use Rattle.gcs_index.specs.declared.blocks.Block.{Block}
use Rattle.gcs_index.specs.Blocks.{entries_of, entries_at, entries_before, PairsAreFull, AreBlocks, AreSized, HaveRoom, IsHalved, IsPlace}

-- an item put into the first of two lists, or into the second
insert_front : {X : Type 0} (xs ys : List X) (i : ℕ) (x : X) → i ≤ length xs → insert (xs ++ ys) i x ≡ insert xs i x ++ ys
insert_front xs ys zero x within = refl
insert_front [] ys (suc i) x within = absurd (omega arith)
insert_front (y ∷ xs) ys (suc i) x within = ap (λ l. y ∷ l) (insert_front xs ys i x (omega arith))

insert_behind : {X : Type 0} (xs ys : List X) (i : ℕ) (x : X) → insert (xs ++ ys) (length xs + i) x ≡ xs ++ insert ys i x
insert_behind [] ys i x = let e : 0 + i ≡ i = omega arith in ap (λ n. insert ys n x) e
insert_behind (y ∷ xs) ys i x =
    let e : suc (length xs) + i ≡ suc (length xs + i) = omega arith in
    ap (λ n. insert (y ∷ (xs ++ ys)) n x) e ∙ ap (λ l. y ∷ l) (insert_behind xs ys i x)

module _ {K V : Type 0} where
  pub at_is : (bs : List (Block K V)) (k : ℕ) (b : Block K V) → k < length bs → b ≡ get_or bs k b → entries_at k bs ≡ b.entries.items
  at_is [] k b within is = absurd (omega arith)
  at_is (c ∷ bs) zero b within is = ap (λ (x : Block K V). x.entries.items) (sym is)
  at_is (c ∷ bs) (suc k) b within is = at_is bs k b (omega arith) is

  pub entries_put : (bs : List (Block K V)) (k at : ℕ) (b : Block K V) (e : Entry K V) → k < length bs → at ≤ length (entries_at k bs) → b.entries.items ≡ insert (entries_at k bs) at e
      → entries_of (set bs k b) ≡ insert (entries_of bs) (entries_before k bs + at) e
  entries_put [] k at b e within inside is = absurd (omega arith)
  entries_put (c ∷ bs) zero at b e within inside is =
      let n : 0 + at ≡ at = omega arith in
      ap (λ l. l ++ entries_of bs) is ∙ sym (insert_front c.entries.items (entries_of bs) at e inside) ∙ ap (λ m. insert (c.entries.items ++ entries_of bs) m e) (sym n)
  entries_put (c ∷ bs) (suc k) at b e within inside is =
      let n : length c.entries.items + (entries_before k bs + at) ≡ length c.entries.items + entries_before k bs + at = omega arith in
      ap (λ l. c.entries.items ++ l) (entries_put bs k at b e (omega arith) inside is)
      ∙ sym (insert_behind c.entries.items (entries_of bs) (entries_before k bs + at) e) ∙ ap (λ m. insert (c.entries.items ++ entries_of bs) m e) n

  pub all_set : (P : Block K V → Type 0) (bs : List (Block K V)) (k : ℕ) (b : Block K V) → AllByRecursion P bs → P b → AllByRecursion P (set bs k b)
  all_set P [] k b all p = tt
  all_set P (c ∷ bs) zero b all p = (p, all.1)
  all_set P (c ∷ bs) (suc k) b all p = (all.0, all_set P bs k b all.1 p)

  pairs_set : (bs : List (Block K V)) (k : ℕ) (b : Block K V) → PairsAreFull bs → length (entries_at k bs) ≤ length b.entries.items → PairsAreFull (set bs k b)
  pairs_set [] k b pairs more = tt
  pairs_set (c ∷ []) zero b pairs more = tt
  pairs_set (c ∷ []) (suc k) b pairs more = tt
  pairs_set (c ∷ (d ∷ bs)) zero b pairs more = (omega (arith, pairs.0), pairs.1)
  pairs_set (c ∷ (d ∷ bs)) (suc zero) b pairs more = (omega (arith, pairs.0), pairs_set (d ∷ bs) zero b pairs.1 more)
  pairs_set (c ∷ (d ∷ bs)) (suc (suc k)) b pairs more = (pairs.0, pairs_set (d ∷ bs) (suc k) b pairs.1 more)

  pub blocks_put : (bs : List (Block K V)) (k : ℕ) (b : Block K V) → AreBlocks bs → length (entries_at k bs) ≤ length b.entries.items → 1 ≤ length b.entries.items → length b.entries.items ≤ 512 → AreBlocks (set bs k b)
  blocks_put bs k b are more some few = record {
    sizes = all_set (λ (c : Block K V). (1 ≤ length c.entries.items) × (length c.entries.items ≤ 512)) bs k b are.sizes (some, few);
    pairs = pairs_set bs k b are.pairs more;
  }

  pub room_put : (bs : List (Block K V)) (k : ℕ) (b : Block K V) → HaveRoom bs → 512 ≤ vec_capacity b.entries → HaveRoom (set bs k b)
  room_put bs k b room more = all_set (λ (c : Block K V). 512 ≤ vec_capacity c.entries) bs k b room more

  pub room_at : (bs : List (Block K V)) (k : ℕ) (b : Block K V) → HaveRoom bs → k < length bs → b ≡ get_or bs k b → 512 ≤ vec_capacity b.entries
  room_at [] k b room within is = absurd (omega arith)
  room_at (c ∷ bs) zero b room within is = subst (λ (x : Block K V). 512 ≤ vec_capacity x.entries) (sym is) room.0
  room_at (c ∷ bs) (suc k) b room within is = room_at bs k b room.1 (omega arith) is

-- ---- a block in two halves
module _ {K V : Type 0} where
  abbrev pub halves_at : List (Block K V) → ℕ → Block K V → Block K V → List (Block K V)
  halves_at [] k f h = []
  halves_at (c ∷ bs) zero f h = f ∷ (h ∷ bs)
  halves_at (c ∷ bs) (suc k) f h = c ∷ halves_at bs k f h

  inserted : (bs : List (Block K V)) (k : ℕ) (f h : Block K V) → k < length bs → insert (set bs k f) (suc k) h ≡ halves_at bs k f h
  inserted [] k f h within = absurd (omega arith)
  inserted (c ∷ bs) zero f h within = refl
  inserted (c ∷ bs) (suc k) f h within = ap (λ l. c ∷ l) (inserted bs k f h (omega arith))

  pub halves : (bs : List (Block K V)) (k n : ℕ) (f h : Block K V) → k < length bs → n ≡ k + 1 → insert (set bs k f) n h ≡ halves_at bs k f h
  halves bs k n f h within e = subst (λ m. insert (set bs k f) m h ≡ halves_at bs k f h) {x = suc k} (omega arith) (inserted bs k f h within)

  pub is_halved : (bs : List (Block K V)) (k : ℕ) (f h : Block K V) → k < length bs → f.entries.items ++ h.entries.items ≡ entries_at k bs → length f.entries.items ≡ 256 → length h.entries.items ≡ 256
      → IsHalved bs (halves_at bs k f h) k
  is_halved [] k f h within all a b = absurd (omega arith)
  is_halved (c ∷ bs) zero f h within all a b = record {
    entries = sym (append_assoc f.entries.items h.entries.items (entries_of bs)) ∙ ap (λ l. l ++ entries_of bs) all;
    first = a;
    second = b;
    before = refl;
    between = omega arith;
  }
  is_halved (c ∷ bs) (suc k) f h within all a b =
      let more = is_halved bs k f h (omega arith) all a b in
      record {
        entries = ap (λ l. c.entries.items ++ l) more.entries;
        first = more.first;
        second = more.second;
        before = ap (λ n. length c.entries.items + n) more.before;
        between = omega (arith, more.between);
      }

  all_halves : (P : Block K V → Type 0) (bs : List (Block K V)) (k : ℕ) (f h : Block K V) → AllByRecursion P bs → P f → P h → AllByRecursion P (halves_at bs k f h)
  all_halves P [] k f h all p q = tt
  all_halves P (c ∷ bs) zero f h all p q = (p, (q, all.1))
  all_halves P (c ∷ bs) (suc k) f h all p q = (all.0, all_halves P bs k f h all.1 p q)

  half_first : (h : Block K V) (bs : List (Block K V)) → AreSized bs → PairsAreFull bs → length h.entries.items ≡ 256 → PairsAreFull (h ∷ bs)
  half_first h [] sizes pairs b = tt
  half_first h (d ∷ bs) sizes pairs b = (omega (arith, sizes.0.0), pairs)

  tail_pairs : (c : Block K V) (bs : List (Block K V)) → PairsAreFull (c ∷ bs) → PairsAreFull bs
  tail_pairs c [] p = tt
  tail_pairs c (d ∷ bs) p = p.1

  pairs_halves : (bs : List (Block K V)) (k : ℕ) (f h : Block K V) → AreSized bs → PairsAreFull bs → length f.entries.items ≡ 256 → length h.entries.items ≡ 256 → PairsAreFull (halves_at bs k f h)
  pairs_halves [] k f h sizes pairs a b = tt
  pairs_halves (c ∷ bs) zero f h sizes pairs a b = (omega arith, half_first h bs sizes.1 (tail_pairs c bs pairs) b)
  pairs_halves (c ∷ []) (suc k) f h sizes pairs a b = tt
  pairs_halves (c ∷ (d ∷ bs)) (suc zero) f h sizes pairs a b = (omega (arith, sizes.0.0), pairs_halves (d ∷ bs) zero f h sizes.1 pairs.1 a b)
  pairs_halves (c ∷ (d ∷ bs)) (suc (suc k)) f h sizes pairs a b = (pairs.0, pairs_halves (d ∷ bs) (suc k) f h sizes.1 pairs.1 a b)

  pub blocks_halved : (bs : List (Block K V)) (k : ℕ) (f h : Block K V) → AreBlocks bs → length f.entries.items ≡ 256 → length h.entries.items ≡ 256 → AreBlocks (halves_at bs k f h)
  blocks_halved bs k f h are a b = record {
    sizes = all_halves (λ (c : Block K V). (1 ≤ length c.entries.items) × (length c.entries.items ≤ 512)) bs k f h are.sizes (omega arith, omega arith) (omega arith, omega arith);
    pairs = pairs_halves bs k f h are.sizes are.pairs a b;
  }

  pub room_halved : (bs : List (Block K V)) (k : ℕ) (f h : Block K V) → HaveRoom bs → 512 ≤ vec_capacity f.entries → 512 ≤ vec_capacity h.entries → HaveRoom (halves_at bs k f h)
  room_halved bs k f h room p q = all_halves (λ (c : Block K V). 512 ≤ vec_capacity c.entries) bs k f h room p q

-- ---- into a full block: in its first half, or in its second
module _ {K V : Type 0} (old split new : List (Block K V)) (k at : ℕ) (e : Entry K V) (halved : IsHalved old split k) where
  pub into_second : (j n : ℕ) → j ≡ k + 1 → n ≡ at - 256 → 256 < at → entries_of new ≡ insert (entries_of split) (entries_before j split + n) e → entries_of new ≡ insert (entries_of old) (entries_before k old + at) e
  into_second j n next m more is =
      let same : entries_before j split ≡ entries_before (suc k) split = ap (λ i. entries_before i split) {x = j} {y = suc k} (omega arith) in
      let place : entries_before j split + n ≡ entries_before k old + at = omega (arith, same, halved.between) in
      is ∙ ap₂ (λ l i. insert l i e) halved.entries place

module _ {K V : Type 0} where
  pub size_at : (bs : List (Block K V)) (k : ℕ) → AreBlocks bs → k < length bs → length (entries_at k bs) ≤ 512
  size_at bs k are within = by bs k are.sizes within
    where
      by : (bs : List (Block K V)) (k : ℕ) → AreSized bs → k < length bs → length (entries_at k bs) ≤ 512
      by [] k sizes within = absurd (omega arith)
      by (c ∷ bs) zero sizes within = sizes.0.1
      by (c ∷ bs) (suc k) sizes within = by bs k sizes.1 (omega arith)

  -- a place in blocks that are there lies in one of them
  pub place_within : (bs : List (Block K V)) (k at : ℕ) → IsPlace bs k at → 1 ≤ length bs → k < length bs
  place_within [] k at place some = absurd (omega arith)
  place_within (c ∷ bs) k at place some = place.0

-- ---- reading at a place
get_front : {X : Type 0} (xs ys : List X) (i : ℕ) → i < length xs → slice_get (xs ++ ys) i ≡ slice_get xs i
get_front [] ys i within = absurd (omega arith)
get_front (x ∷ xs) ys zero within = refl
get_front (x ∷ xs) ys (suc i) within = get_front xs ys i (omega arith)

get_behind : {X : Type 0} (xs ys : List X) (i n : ℕ) → n ≡ length xs + i → slice_get (xs ++ ys) n ≡ slice_get ys i
get_behind [] ys i n e = ap (slice_get ys) {x = n} {y = i} (omega arith)
get_behind (x ∷ xs) ys i zero e = absurd (omega arith)
get_behind (x ∷ xs) ys i (suc n) e = get_behind xs ys i n (omega arith)

pub some_at : {X : Type 0} (xs : List X) (i : ℕ) (x : X) → i < length xs → x ≡ get_or xs i x → Some x ≡ slice_get xs i
some_at [] i x within is = absurd (omega arith)
some_at (y ∷ xs) zero x within is = ap Some is
some_at (y ∷ xs) (suc i) x within is = some_at xs i x (omega arith) is

module _ {K V : Type 0} where
  pub place_of : (bs : List (Block K V)) (k at : ℕ) → k < length bs → at ≤ length (entries_at k bs) → IsPlace bs k at
  place_of [] k at within inside = absurd (omega arith)
  place_of (c ∷ bs) k at within inside = (within, inside)

  pub place_inside : (bs : List (Block K V)) (k at : ℕ) → IsPlace bs k at → 1 ≤ length bs → at ≤ length (entries_at k bs)
  place_inside [] k at place some = absurd (omega arith)
  place_inside (c ∷ bs) k at place some = place.1

  pub in_block : (bs : List (Block K V)) (k at : ℕ) → at < length (entries_at k bs) → slice_get (entries_of bs) (entries_before k bs + at) ≡ slice_get (entries_at k bs) at
  in_block [] k at within = absurd (omega arith)
  in_block (c ∷ bs) zero at within = ap (slice_get (c.entries.items ++ entries_of bs)) {x = 0 + at} {y = at} (omega arith) ∙ get_front c.entries.items (entries_of bs) at within
  in_block (c ∷ bs) (suc k) at within = get_behind c.entries.items (entries_of bs) (entries_before k bs + at) (length c.entries.items + entries_before k bs + at) (omega arith) ∙ in_block bs k at within
