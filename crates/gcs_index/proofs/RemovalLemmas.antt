-- What the removal of an entry does to blocks: one that is empty goes, and two that are small become one.
use Rattle.std.proofs.Common.{◌≡◌, ℕ, zero, suc, ◌+◌, ◌<◌, ◌≤◌, ◌∙◌, sym, ap, refl, List, [], ◌∷◌, ◌++◌, length, set, arith, subst, append_assoc, length-append, slice_get, Some}
use Rattle.std.specs.Prelude.{Bool, true, false, not, cond, unwrap_or, None}
use mathlib.Core.Bool.{true≢false}
use Rattle.std.specs.List.{AllByRecursion, find, remove}
use Rattle.std.specs.Vec.{vec_capacity}
use Rattle.std.proofs.lemmas.List.{length-set}
use Rattle.std.proofs.lemmas.List.Edits.{remove-append_left}
use Rattle.std.specs.declared.cmp.Ordering.{Ordering}
use Rattle.std.specs.declared.cmp.Ordering.TheVariants.{Less, Equal, Greater}
use Rattle.std.specs.Cmp.{IsTotalOrder}
use Rattle.std.specs.Ordering.{is_eq}
use Rattle.gcs_index.specs.declared.blocks.Entry.{Entry}
use Rattle.gcs_index.specs.declared.blocks.Block.{Block}
use Rattle.gcs_index.specs.Entries.{without_key, IsSplit, Rises}
use Rattle.gcs_index.specs.Blocks.{entries_of, entries_at, entries_before, joined_at, AreBlocks, AreSized, HaveRoom, IsShort, PairsAreFull}
use Rattle.gcs_index.proofs.EditLemmas.{all_set, room_put, size_at}
use Rattle.gcs_index.proofs.PlaceLemmas.{above_not_equal}

-- an item taken out of the second of two lists
remove_behind : {X : Type 0} (xs ys : List X) (i : ℕ) → remove (xs ++ ys) (length xs + i) ≡ xs ++ remove ys i
remove_behind [] ys i = let e : 0 + i ≡ i = omega arith in ap (λ n. remove ys n) e
remove_behind (y ∷ xs) ys i =
    let e : suc (length xs) + i ≡ suc (length xs + i) = omega arith in
    ap (λ n. remove (y ∷ (xs ++ ys)) n) e ∙ ap (λ l. y ∷ l) (remove_behind xs ys i)

module _ {K V : Type 0} where
  -- ---- an entry taken out of a block
  pub entries_taken : (bs : List (Block K V)) (k at : ℕ) (b : Block K V) → k < length bs → at < length (entries_at k bs) → b.entries.items ≡ remove (entries_at k bs) at
      → entries_of (set bs k b) ≡ remove (entries_of bs) (entries_before k bs + at)
  entries_taken [] k at b within inside is = absurd (omega (arith, within))
  entries_taken (c ∷ bs) zero at b within inside is =
      let n : 0 + at ≡ at = omega arith in
      ap (λ l. l ++ entries_of bs) is ∙ sym (remove-append_left c.entries.items (entries_of bs) at inside) ∙ ap (λ m. remove (c.entries.items ++ entries_of bs) m) (sym n)
  entries_taken (c ∷ bs) (suc k) at b within inside is =
      let n : length c.entries.items + (entries_before k bs + at) ≡ length c.entries.items + entries_before k bs + at = omega arith in
      ap (λ l. c.entries.items ++ l) (entries_taken bs k at b (omega arith) inside is)
      ∙ sym (remove_behind c.entries.items (entries_of bs) (entries_before k bs + at)) ∙ ap (λ m. remove (c.entries.items ++ entries_of bs) m) n

  pub at_set : (bs : List (Block K V)) (k : ℕ) (b : Block K V) → k < length bs → entries_at k (set bs k b) ≡ b.entries.items
  at_set [] k b within = absurd (omega (arith, within))
  at_set (c ∷ bs) zero b within = refl
  at_set (c ∷ bs) (suc k) b within = at_set bs k b (omega arith)

  pub at_after : (bs : List (Block K V)) (k : ℕ) (b : Block K V) → entries_at (suc k) (set bs k b) ≡ entries_at (suc k) bs
  at_after [] k b = refl
  at_after (c ∷ bs) zero b = refl
  at_after (c ∷ bs) (suc k) b = at_after bs k b

  pub at_before : (bs : List (Block K V)) (j : ℕ) (b : Block K V) → entries_at j (set bs (suc j) b) ≡ entries_at j bs
  at_before [] j b = refl
  at_before (c ∷ bs) zero b = refl
  at_before (c ∷ bs) (suc j) b = at_before bs j b

  -- each block still has at most 512 entries
  pub sizes_short : (k : ℕ) (now : List (Block K V)) → IsShort k now → AllByRecursion (λ (b : Block K V). length b.entries.items ≤ 512) now
  sizes_short k now short =
      let small = size_at short.whole k short.are short.within in
      subst (λ (l : List (Block K V)). AllByRecursion (λ (b : Block K V). length b.entries.items ≤ 512) l) (sym short.is)
      (all_set (λ (b : Block K V). length b.entries.items ≤ 512) short.whole k short.block (all short.whole short.are.sizes) (omega (arith, small, short.size)))
    where
      all : (bs : List (Block K V)) → AreSized bs → AllByRecursion (λ (b : Block K V). length b.entries.items ≤ 512) bs
      all [] sizes = tt
      all (c ∷ bs) sizes = (sizes.0.1, all bs sizes.1)

  -- ---- a block that is empty goes
  all_cut : (P : Block K V → Type 0) (bs : List (Block K V)) (k : ℕ) → AllByRecursion P bs → AllByRecursion P (remove bs k)
  all_cut P [] zero all = tt
  all_cut P [] (suc k) all = tt
  all_cut P (c ∷ bs) zero all = all.1
  all_cut P (c ∷ bs) (suc k) all = (all.0, all_cut P bs k all.1)

  cut_set : (bs : List (Block K V)) (k : ℕ) (b : Block K V) → k < length bs → remove (set bs k b) k ≡ remove bs k
  cut_set [] k b within = absurd (omega (arith, within))
  cut_set (c ∷ bs) zero b within = refl
  cut_set (c ∷ bs) (suc k) b within = ap (λ l. c ∷ l) (cut_set bs k b (omega arith))

  pub entries_cut : (bs : List (Block K V)) (k : ℕ) → entries_at k bs ≡ [] → k < length bs → entries_of (remove bs k) ≡ entries_of bs
  entries_cut [] k e within = absurd (omega (arith, within))
  entries_cut (c ∷ bs) zero e within = sym (ap (λ l. l ++ entries_of bs) e)
  entries_cut (c ∷ bs) (suc k) e within = ap (λ l. c.entries.items ++ l) (entries_cut bs k e (omega arith))

  -- the neighbours of a block of one entry have 256 or more
  pairs_cut : (bs : List (Block K V)) (k : ℕ) → PairsAreFull bs → length (entries_at k bs) ≡ 1 → PairsAreFull (remove bs k)
  pairs_cut [] zero p one = tt
  pairs_cut [] (suc k) p one = tt
  pairs_cut (c ∷ []) zero p one = tt
  pairs_cut (c ∷ []) (suc k) p one = absurd (omega (arith, one))
  pairs_cut (c ∷ (d ∷ bs)) zero p one = p.1
  pairs_cut (c ∷ (d ∷ [])) (suc zero) p one = tt
  pairs_cut (c ∷ (d ∷ (e ∷ bs))) (suc zero) p one = (omega (arith, p.0, p.1.0, one), p.1.1)
  pairs_cut (c ∷ (d ∷ bs)) (suc (suc k)) p one = (p.0, pairs_cut (d ∷ bs) (suc k) p.1 one)

  pub blocks_cut : (k : ℕ) (now : List (Block K V)) → IsShort k now → entries_at k now ≡ [] → AreBlocks (remove now k)
  blocks_cut k now short none =
      let bs = short.whole in
      let same : remove now k ≡ remove bs k = ap (λ (l : List (Block K V)). remove l k) short.is ∙ cut_set bs k short.block short.within in
      let one : length (entries_at k bs) ≡ 1 = omega (arith, short.size, ap length (at_set bs k short.block short.within), ap length (ap (λ (l : List (Block K V)). entries_at k l) short.is), ap length none) in
      subst (λ (l : List (Block K V)). AreBlocks l) (sym same) record {
        sizes = all_cut (λ (c : Block K V). (1 ≤ length c.entries.items) × (length c.entries.items ≤ 512)) bs k short.are.sizes;
        pairs = pairs_cut bs k short.are.pairs one;
      }

  pub room_cut : (bs : List (Block K V)) (k : ℕ) → HaveRoom bs → HaveRoom (remove bs k)
  room_cut bs k room = all_cut (λ (c : Block K V). 512 ≤ vec_capacity c.entries) bs k room

  -- ---- two blocks that are small become one
  pub at_cut : (bs : List (Block K V)) (j : ℕ) → entries_at j (remove bs (suc j)) ≡ entries_at j bs
  at_cut [] j = refl
  at_cut (c ∷ bs) zero = refl
  at_cut (c ∷ bs) (suc j) = at_cut bs j

  pub entries_joined : (bs : List (Block K V)) (j : ℕ) (m : Block K V) → j + 1 < length bs → m.entries.items ≡ entries_at j bs ++ entries_at (suc j) bs → entries_of (joined_at bs j m) ≡ entries_of bs
  entries_joined [] j m within is = absurd (omega (arith, within))
  entries_joined (c ∷ []) j m within is = absurd (omega (arith, within))
  entries_joined (c ∷ (d ∷ bs)) zero m within is = ap (λ l. l ++ entries_of bs) is ∙ append_assoc c.entries.items d.entries.items (entries_of bs)
  entries_joined (c ∷ (d ∷ bs)) (suc j) m within is = ap (λ l. c.entries.items ++ l) (entries_joined (d ∷ bs) j m (omega arith) is)

  pairs_joined : (bs : List (Block K V)) (j : ℕ) (m : Block K V) → AreSized bs → PairsAreFull bs → j + 1 < length bs → length m.entries.items ≡ 256 → PairsAreFull (joined_at bs j m)
  pairs_joined [] j m sizes p within half = absurd (omega (arith, within))
  pairs_joined (c ∷ []) j m sizes p within half = absurd (omega (arith, within))
  pairs_joined (c ∷ (d ∷ [])) zero m sizes p within half = tt
  pairs_joined (c ∷ (d ∷ (e ∷ bs))) zero m sizes p within half = (omega (arith, sizes.1.1.0.0, half), p.1.1)
  pairs_joined (c ∷ (d ∷ bs)) (suc zero) m sizes p within half = (omega (arith, sizes.0.0, half), pairs_joined (d ∷ bs) zero m sizes.1 p.1 (omega arith) half)
  pairs_joined (c ∷ (d ∷ bs)) (suc (suc j)) m sizes p within half = (p.0, pairs_joined (d ∷ bs) (suc j) m sizes.1 p.1 (omega arith) half)

  joined_blocks : (bs : List (Block K V)) (j : ℕ) (m : Block K V) → AreBlocks bs → j + 1 < length bs → length m.entries.items ≡ 256 → AreBlocks (joined_at bs j m)
  joined_blocks bs j m are within half = record {
    sizes = all_set (λ (c : Block K V). (1 ≤ length c.entries.items) × (length c.entries.items ≤ 512)) (remove bs (suc j)) j m
        (all_cut (λ (c : Block K V). (1 ≤ length c.entries.items) × (length c.entries.items ≤ 512)) bs (suc j) are.sizes) (omega (arith, half), omega (arith, half));
    pairs = pairs_joined bs j m are.sizes are.pairs within half;
  }

  -- which of the two lost an entry before makes no difference
  joined_left : (bs : List (Block K V)) (k : ℕ) (b m : Block K V) → k < length bs → joined_at (set bs k b) k m ≡ joined_at bs k m
  joined_left [] k b m within = absurd (omega (arith, within))
  joined_left (c ∷ bs) zero b m within = refl
  joined_left (c ∷ bs) (suc k) b m within = ap (λ l. c ∷ l) (joined_left bs k b m (omega arith))

  joined_right : (bs : List (Block K V)) (j : ℕ) (b m : Block K V) → suc j < length bs → joined_at (set bs (suc j) b) j m ≡ joined_at bs j m
  joined_right bs j b m within = ap (λ l. set l j m) (cut_set bs (suc j) b within)

  pair_at : (bs : List (Block K V)) (k : ℕ) → PairsAreFull bs → k + 1 < length bs → 257 ≤ length (entries_at k bs) + length (entries_at (suc k) bs)
  pair_at [] k p within = absurd (omega (arith, within))
  pair_at (c ∷ []) k p within = absurd (omega (arith, within))
  pair_at (c ∷ (d ∷ bs)) zero p within = p.0
  pair_at (c ∷ (d ∷ bs)) (suc k) p within = pair_at (d ∷ bs) k p.1 (omega arith)

  pub short_length : (k : ℕ) (now : List (Block K V)) (short : IsShort k now) → length now ≡ length short.whole
  short_length k now short = ap length short.is ∙ length-set short.whole k short.block

  pub short_size : (k : ℕ) (now : List (Block K V)) (short : IsShort k now) → entries_at k now ≡ short.block.entries.items
  short_size k now short = ap (λ (l : List (Block K V)). entries_at k l) short.is ∙ at_set short.whole k short.block short.within

  -- the short block with the next one
  pub blocks_with_next : (k : ℕ) (now : List (Block K V)) (m : Block K V) → IsShort k now → k + 1 < length now → m.entries.items ≡ entries_at k now ++ entries_at (suc k) now
      → length (entries_at k now) + length (entries_at (suc k) now) ≤ 256 → AreBlocks (joined_at now k m)
  blocks_with_next k now m short within is few =
      let bs = short.whole in
      let there : k + 1 < length bs = omega (arith, within, short_length k now short) in
      let next = ap (λ (l : List (Block K V)). entries_at (suc k) l) short.is ∙ at_after bs k short.block in
      let half : length m.entries.items ≡ 256 =
      omega (arith, ap length is, length-append (entries_at k now) (entries_at (suc k) now), few, ap length (short_size k now short), ap length next, pair_at bs k short.are.pairs there, short.size) in
      subst (λ (l : List (Block K V)). AreBlocks l) (sym (ap (λ (l : List (Block K V)). joined_at l k m) short.is ∙ joined_left bs k short.block m short.within)) (joined_blocks bs k m short.are there half)

  -- the short block with the one before it
  pub blocks_with_last : (j k : ℕ) (now : List (Block K V)) (m : Block K V) → k ≡ suc j → IsShort k now → m.entries.items ≡ entries_at j now ++ entries_at (suc j) now
      → length (entries_at j now) + length (entries_at (suc j) now) ≤ 256 → AreBlocks (joined_at now j m)
  blocks_with_last j k now m e short is few = by (subst (λ n. IsShort n now) e short)
    where
      by : IsShort (suc j) now → AreBlocks (joined_at now j m)
      by short =
          let bs = short.whole in
          let there : j + 1 < length bs = omega (arith, short.within) in
          let last = ap (λ (l : List (Block K V)). entries_at j l) short.is ∙ at_before bs j short.block in
          let half : length m.entries.items ≡ 256 =
          omega (arith, ap length is, length-append (entries_at j now) (entries_at (suc j) now), few, ap length (short_size (suc j) now short), ap length last, pair_at bs j short.are.pairs there, short.size) in
          subst (λ (l : List (Block K V)). AreBlocks l) (sym (ap (λ (l : List (Block K V)). joined_at l j m) short.is ∙ joined_right bs j short.block m short.within)) (joined_blocks bs j m short.are there half)

  pub room_joined : (bs : List (Block K V)) (j : ℕ) (m : Block K V) → HaveRoom bs → 512 ≤ vec_capacity m.entries → HaveRoom (joined_at bs j m)
  room_joined bs j m room more = room_put (remove bs (suc j)) j m (room_cut bs (suc j) room) more

  -- ---- no block goes
  pairs_back : (bs : List (Block K V)) (k : ℕ) (b : Block K V) → PairsAreFull bs → (k + 1 < length bs → 257 ≤ length b.entries.items + length (entries_at (suc k) bs))
      → ((j : ℕ) → suc j ≡ k → 257 ≤ length (entries_at j bs) + length b.entries.items) → PairsAreFull (set bs k b)
  pairs_back [] k b p right left = tt
  pairs_back (c ∷ []) zero b p right left = tt
  pairs_back (c ∷ []) (suc k) b p right left = tt
  pairs_back (c ∷ (d ∷ bs)) zero b p right left = (right (omega arith), p.1)
  pairs_back (c ∷ (d ∷ bs)) (suc zero) b p right left = (left zero refl, pairs_back (d ∷ bs) zero b p.1 (λ w. right (omega (arith, w))) (λ j e. absurd (omega (arith, e))))
  pairs_back (c ∷ (d ∷ bs)) (suc (suc k)) b p right left = (p.0, pairs_back (d ∷ bs) (suc k) b p.1 (λ w. right (omega (arith, w))) (λ j e. left (suc j) (ap suc e)))

  pub blocks_left : (k : ℕ) (now : List (Block K V)) → IsShort k now → 1 ≤ length (entries_at k now)
      → (k + 1 < length now → 257 ≤ length (entries_at k now) + length (entries_at (suc k) now))
      → ((j : ℕ) → suc j ≡ k → 257 ≤ length (entries_at j now) + length (entries_at k now)) → AreBlocks now
  blocks_left k now short some right left =
      let bs = short.whole in
      let b = short.block in
      let size = ap length (short_size k now short) in
      let next = ap length (ap (λ (l : List (Block K V)). entries_at (suc k) l) short.is ∙ at_after bs k b) in
      subst (λ (l : List (Block K V)). AreBlocks l) (sym short.is) record {
        sizes = all_set (λ (c : Block K V). (1 ≤ length c.entries.items) × (length c.entries.items ≤ 512)) bs k b short.are.sizes (omega (arith, some, size), omega (arith, short.size, size_at bs k short.are short.within));
        pairs = pairs_back bs k b short.are.pairs
            (λ within. omega (arith, right (omega (arith, within, short_length k now short)), size, next))
            (λ j e. omega (arith, left j e, size, ap length (ap (λ (l : List (Block K V)). entries_at j l) short.is ∙ before j k e)));
      }
    where
      before : (j n : ℕ) → suc j ≡ n → entries_at j (set short.whole n short.block) ≡ entries_at j short.whole
      before j n e = subst (λ i. entries_at j (set short.whole i short.block) ≡ entries_at j short.whole) e (at_before short.whole j short.block)

-- ---- rising entries without the one of a key
pub find_holds : {X : Type 0} (test : X → Bool) (xs : List X) (y : X) → find test xs ≡ Some y → test y ≡ true
find_holds test [] y e = absurd (cc)
find_holds {X = X} test (x ∷ xs) y e = by (find_holds test xs y) (test x) refl
  where
    by : (find test xs ≡ Some y → test y ≡ true) → (b : Bool) → test x ≡ b → test y ≡ true
    by rest true f =
        let same : Some x ≡ Some y = sym (ap (λ t. cond t (Some x) (find test xs)) f) ∙ e in
        let is : x ≡ y = ap (λ o. unwrap_or o x) same in
        subst (λ z. test z ≡ true) is f
    by rest false f = rest (sym (ap (λ t. cond t (Some x) (find test xs)) f) ∙ e)

equal_is : (r : Ordering) → is_eq r ≡ true → r ≡ Equal
equal_is Less a = absurd (true≢false (sym a))
equal_is Equal a = refl
equal_is Greater a = absurd (true≢false (sym a))

module _ {K V : Type 0} {cmp : K → K → Ordering} (o : IsTotalOrder cmp) where
  all_less : (P : Entry K V → Type 0) (xs : List (Entry K V)) (n : ℕ) → AllByRecursion P xs → AllByRecursion P (remove xs n)
  all_less P [] zero all = tt
  all_less P [] (suc n) all = tt
  all_less P (x ∷ xs) zero all = all.1
  all_less P (x ∷ xs) (suc n) all = (all.0, all_less P xs n all.1)

  pub rises_less : (xs : List (Entry K V)) (n : ℕ) → Rises cmp xs → Rises cmp (remove xs n)
  rises_less [] zero r = tt
  rises_less [] (suc n) r = tt
  rises_less (x ∷ xs) zero r = r.1
  rises_less (x ∷ xs) (suc n) r = (all_less (λ y. cmp x.key y.key ≡ Less) xs n r.0, rises_less xs n r.1)

  stays : (key : K) (x : Entry K V) (xs : List (Entry K V)) → is_eq (cmp key x.key) ≡ false → without_key cmp key (x ∷ xs) ≡ x ∷ without_key cmp key xs
  stays key x xs other = ap (λ b. cond (not b) (x ∷ without_key cmp key xs) (without_key cmp key xs)) other

  -- keys that are greater than an equal one are others
  none_left : (key : K) (xs : List (Entry K V)) → AllByRecursion (λ x. cmp key x.key ≡ Less) xs → without_key cmp key xs ≡ xs
  none_left key [] all = refl
  none_left key (x ∷ xs) all = stays key x xs (ap is_eq all.0) ∙ ap (λ l. x ∷ l) (none_left key xs all.1)

  later : (key : K) (x : Entry K V) (xs : List (Entry K V)) → cmp key x.key ≡ Equal → AllByRecursion (λ y. cmp x.key y.key ≡ Less) xs → AllByRecursion (λ y. cmp key y.key ≡ Less) xs
  later key x [] same all = tt
  later key x (y ∷ ys) same all = (o.congr key x.key y.key same ∙ all.0, later key x ys same all.1)

  pub taken_is : (key : K) (xs : List (Entry K V)) (n : ℕ) → Rises cmp xs → IsSplit (λ (x : Entry K V). cmp key x.key) xs n → ((y : Entry K V) → slice_get xs n ≡ Some y → is_eq (cmp key y.key) ≡ true)
      → remove xs n ≡ without_key cmp key xs
  taken_is key [] zero r s hit = refl
  taken_is key [] (suc n) r s hit = refl
  taken_is key (x ∷ xs) zero r s hit =
      let same = hit x refl in
      sym (ap (λ b. cond (not b) (x ∷ without_key cmp key xs) (without_key cmp key xs)) same ∙ none_left key xs (later key x xs (equal_is (cmp key x.key) same) r.0))
  taken_is key (x ∷ xs) (suc n) r s hit =
      ap (λ l. x ∷ l) (taken_is key xs n r.1 record { within = omega (arith, s.within); below = s.below.1; from = s.from } hit)
      ∙ sym (stays key x xs (above_not_equal (cmp key x.key) s.below.0))

  -- no entry has the key: all stay
  pub none_taken : (key : K) (xs : List (Entry K V)) → find (λ (e : Entry K V). is_eq (cmp key e.key)) xs ≡ None → xs ≡ without_key cmp key xs
  none_taken key [] none = refl
  none_taken key (x ∷ xs) none = by (none_taken key xs) (is_eq (cmp key x.key)) refl
    where
      by : (find (λ (e : Entry K V). is_eq (cmp key e.key)) xs ≡ None → xs ≡ without_key cmp key xs) → (b : Bool) → is_eq (cmp key x.key) ≡ b → (x ∷ xs) ≡ without_key cmp key (x ∷ xs)
      by same true e = let wrong = sym (ap (λ t. cond t (Some x) (find (λ (y : Entry K V). is_eq (cmp key y.key)) xs)) e) ∙ none in absurd (cc)
      by same false e =
          let rest = sym (ap (λ t. cond t (Some x) (find (λ (y : Entry K V). is_eq (cmp key y.key)) xs)) e) ∙ none in
          ap (λ l. x ∷ l) (same rest) ∙ sym (stays key x xs e)

-- the first item, and the others
pub first_taken : {X : Type 0} (xs : List X) (x : X) → slice_get xs 0 ≡ Some x → xs ≡ x ∷ remove xs 0
first_taken [] x first = absurd (cc)
first_taken (y ∷ xs) x first = ap (λ z. z ∷ xs) (cc)
