-- A search through the first entries of blocks and then in one block is a search through all entries.
use Rattle.std.proofs.Common.{◌≡◌, ℕ, zero, suc, ◌+◌, ◌-◌, ◌*◌, ◌^◌, ◌<◌, ◌≤◌, ◌∙◌, sym, refl, List, [], ◌∷◌, ◌++◌, length, get_or, arith, subst, length-append}
use Rattle.std.specs.Prelude.{Bool, true, false}
use mathlib.Core.Bool.{true≢false}
use mathlib.Core.Logic.{inl, inr}
use Rattle.std.proofs.lemmas.Bool.{cases_lt}
use Rattle.std.specs.declared.cmp.Ordering.{Ordering}
use Rattle.std.specs.declared.cmp.Ordering.TheVariants.{Less, Equal, Greater}
use Rattle.std.specs.Cmp.{IsTotalOrder}
use Rattle.std.specs.Ordering.{is_gt, is_eq, ordering_reverse}
use Rattle.std.specs.List.{AllByRecursion, find, insert}
use Rattle.std.proofs.Common.{slice_get, Some, ap}
use Rattle.std.specs.Prelude.{not, if◌then◌else◌}
use Rattle.std.proofs.lemmas.Nat.{pow-add}
use Rattle.std.proofs.Math.Nat.{pow-succ', mul-le-mul_left}
use Rattle.gcs_index.specs.declared.blocks.Entry.{Entry}
use Rattle.gcs_index.specs.declared.blocks.Block.{Block}
use Rattle.gcs_index.specs.Ranked.{IsRanked, IsRank, Ranked, head_stands}
use Rattle.gcs_index.specs.Blocks.{entries_of, entries_before, PairsAreFull, AreBlocks, AreSized}
use Rattle.gcs_index.specs.Entries.{IsSplit, Rises}
use Rattle.gcs_index.specs.Looks.{AreLooks, one_search}

module _ {X : Type 0} (P : X → Type 0) where
  pub all_join : (xs ys : List X) → AllByRecursion P xs → AllByRecursion P ys → AllByRecursion P (xs ++ ys)
  all_join [] ys a b = b
  all_join (x ∷ xs) ys a b = (a.0, all_join xs ys a.1 b)

  all_front : (xs ys : List X) → AllByRecursion P (xs ++ ys) → AllByRecursion P xs
  all_front [] ys a = tt
  all_front (x ∷ xs) ys a = (a.0, all_front xs ys a.1)

  all_back : (xs ys : List X) → AllByRecursion P (xs ++ ys) → AllByRecursion P ys
  all_back [] ys a = a
  all_back (x ∷ xs) ys a = all_back xs ys a.1

  all_at : (xs : List X) (i : ℕ) (d : X) → AllByRecursion P xs → i < length xs → P (get_or xs i d)
  all_at [] i d a within = absurd (omega arith)
  all_at (x ∷ xs) zero d a within = a.0
  all_at (x ∷ xs) (suc i) d a within = all_at xs i d a.1 (omega arith)

module _ {X : Type 0} (st : X → Ordering) where
  abbrev Below : X → Type 0
  Below x = is_gt (st x) ≡ true

  abbrev Out : X → Type 0
  Out x = is_gt (st x) ≡ false

  front_ranked : (xs ys : List X) → Ranked st (xs ++ ys) → Ranked st xs
  front_ranked [] ys r = tt
  front_ranked (x ∷ xs) ys r = (λ out. all_front Out xs ys (r.0 out), front_ranked xs ys r.1)

  back_ranked : (xs ys : List X) → Ranked st (xs ++ ys) → Ranked st ys
  back_ranked [] ys r = r
  back_ranked (x ∷ xs) ys r = back_ranked xs ys r.1

  -- what stands before an item below the probe is below it
  before_below : (xs : List X) (y : X) (ys : List X) → Ranked st (xs ++ (y ∷ ys)) → Below y → AllByRecursion Below xs
  before_below [] y ys r h = tt
  before_below (x ∷ xs) y ys r h = (by (is_gt (st x)) refl, before_below xs y ys r.1 h)
    where
      by : (b : Bool) → is_gt (st x) ≡ b → b ≡ true
      by true e = refl
      by false e = let all = all_back Out xs (y ∷ ys) (r.0 e) in absurd (true≢false (sym h ∙ all.0))

  front_out : (xs rest : List X) → 1 ≤ length xs → is_gt (head_stands st xs) ≡ false → Ranked st (xs ++ rest) → AllByRecursion Out (xs ++ rest)
  front_out [] rest some h r = absurd (omega arith)
  front_out (x ∷ xs) rest some h r = (h, r.0 h)

  pub is_ranked : (xs : List X) → Ranked st xs → IsRanked st xs
  is_ranked [] r i j d le within h = absurd (omega arith)
  is_ranked (x ∷ xs) r zero zero d le within h = h
  is_ranked (x ∷ xs) r zero (suc j) d le within h = by (is_gt (st x)) refl
    where
      by : (b : Bool) → is_gt (st x) ≡ b → b ≡ true
      by true e = refl
      by false e = absurd (true≢false (sym h ∙ all_at Out xs j d (r.0 e) (omega arith)))
  is_ranked (x ∷ xs) r (suc i) zero d le within h = absurd (omega arith)
  is_ranked (x ∷ xs) r (suc i) (suc j) d le within h = is_ranked xs r.1 i j d (omega arith) (omega arith) h

  all_out : (xs : List X) → ((i : ℕ) (d : X) → i < length xs → Out (get_or xs i d)) → AllByRecursion Out xs
  all_out [] h = tt
  all_out (x ∷ xs) h = (h 0 x (omega arith), all_out xs (λ i d within. h (suc i) d (omega arith)))

  -- a rank, with more items behind that are not below
  split_of : (xs rest : List X) (n : ℕ) → IsRank st xs n → AllByRecursion Out rest → IsSplit st (xs ++ rest) n
  split_of xs rest zero r out = record { within = omega arith; below = tt; from = all_join Out xs rest (all_out xs (λ i d within. r.from i d (omega arith) within)) out }
  split_of [] rest (suc n) r out = absurd (omega (arith, r.within))
  split_of (x ∷ xs) rest (suc n) r out =
      let more = split_of xs rest n record { within = omega (arith, r.within); below = λ i d h. r.below (suc i) d (omega arith); from = λ i d h within. r.from (suc i) d (omega arith) (omega arith) } out in
      record { within = omega (arith, more.within); below = (r.below 0 x (omega arith), more.below); from = more.from }

  split_behind : (xs ys : List X) (m : ℕ) → AllByRecursion Below xs → IsSplit st ys m → IsSplit st (xs ++ ys) (length xs + m)
  split_behind [] ys m all s = subst (IsSplit st ys) {x = m} (omega arith) s
  split_behind (x ∷ xs) ys m all s =
      let more = split_behind xs ys m all.1 s in
      subst (IsSplit st (x ∷ (xs ++ ys))) {x = suc (length xs + m)} (omega arith)
      record { within = omega (arith, more.within); below = (all.0, more.below); from = more.from }

module _ {K V : Type 0} (st : Entry K V → Ordering) where
  abbrev heads : Block K V → Ordering
  heads b = head_stands st b.entries.items

  head_out : (xs rest : List (Entry K V)) → 1 ≤ length xs → AllByRecursion (λ x. is_gt (st x) ≡ false) (xs ++ rest) → is_gt (head_stands st xs) ≡ false
  head_out [] rest some a = absurd (omega arith)
  head_out (x ∷ xs) rest some a = a.0

  heads_out : (bs : List (Block K V)) (j : ℕ) (d : Block K V) → AreSized bs → AllByRecursion (λ x. is_gt (st x) ≡ false) (entries_of bs) → j < length bs → is_gt (heads (get_or bs j d)) ≡ false
  heads_out [] j d sizes a within = absurd (omega arith)
  heads_out (b ∷ bs) zero d sizes a within = head_out b.entries.items (entries_of bs) sizes.0.0 a
  heads_out (b ∷ bs) (suc j) d sizes a within = heads_out bs j d sizes.1 (all_back (λ x. is_gt (st x) ≡ false) b.entries.items (entries_of bs) a) (omega arith)

  -- the first entries of blocks are ranked as all entries are
  pub heads_ranked : (bs : List (Block K V)) → AreSized bs → Ranked st (entries_of bs) → IsRanked heads bs
  heads_ranked [] sizes r i j d le within h = absurd (omega arith)
  heads_ranked (b ∷ bs) sizes r zero zero d le within h = h
  heads_ranked (b ∷ bs) sizes r zero (suc j) d le within h = by (is_gt (heads b)) refl
    where
      by : (t : Bool) → is_gt (heads b) ≡ t → t ≡ true
      by true e = refl
      by false e = absurd (true≢false (sym h ∙ heads_out bs j d sizes.1 (all_back (λ x. is_gt (st x) ≡ false) b.entries.items (entries_of bs) (front_out st b.entries.items (entries_of bs) sizes.0.0 e r)) (omega arith)))
  heads_ranked (b ∷ bs) sizes r (suc i) zero d le within h = absurd (omega arith)
  heads_ranked (b ∷ bs) sizes r (suc i) (suc j) d le within h = heads_ranked bs sizes.1 (back_ranked st b.entries.items (entries_of bs) r) i j d (omega arith) (omega arith) h

  -- no block begins below the probe: no entry is below it
  none_below : (bs : List (Block K V)) → AreSized bs → Ranked st (entries_of bs) → IsRank heads bs 0 → AllByRecursion (λ x. is_gt (st x) ≡ false) (entries_of bs)
  none_below [] sizes r rank = tt
  none_below (b ∷ bs) sizes r rank = front_out st b.entries.items (entries_of bs) sizes.0.0 (rank.from 0 b (omega arith) (omega arith)) r

  pub split_none : (bs : List (Block K V)) → AreSized bs → Ranked st (entries_of bs) → IsRank heads bs 0 → IsSplit st (entries_of bs) 0
  split_none bs sizes r rank = record { within = omega arith; below = tt; from = none_below bs sizes r rank }

  shifted : (b : Block K V) (bs : List (Block K V)) (n : ℕ) → IsRank heads (b ∷ bs) (suc n) → IsRank heads bs n
  shifted b bs n r = record { within = omega (arith, r.within); below = λ i d h. r.below (suc i) d (omega arith); from = λ i d h within. r.from (suc i) d (omega arith) (omega arith) }

  -- a block before one that begins below the probe lies below it
  whole_below : (xs ys rest : List (Entry K V)) → is_gt (head_stands st ys) ≡ true → Ranked st (xs ++ (ys ++ rest)) → AllByRecursion (λ x. is_gt (st x) ≡ true) xs
  whole_below xs [] rest h r = absurd (true≢false (sym h))
  whole_below xs (y ∷ ys) rest h r = before_below st xs y (ys ++ rest) r h

  next_head : (b : Block K V) (bs : List (Block K V)) (k : ℕ) → IsRank heads (b ∷ bs) (suc (suc k)) → Ranked st (entries_of (b ∷ bs)) → AllByRecursion (λ x. is_gt (st x) ≡ true) b.entries.items
  next_head b [] k rank r = absurd (omega (arith, rank.within))
  next_head b (e ∷ bs) k rank r = whole_below b.entries.items e.entries.items (entries_of bs) (rank.below 1 e (omega arith)) r

  pub split_two : (bs : List (Block K V)) (k n : ℕ) (b : Block K V) → AreSized bs → Ranked st (entries_of bs) → IsRank heads bs (suc k) → b ≡ get_or bs k b → IsRank st b.entries.items n
      → IsSplit st (entries_of bs) (entries_before k bs + n)
  split_two [] k n b sizes r rank is at = absurd (omega (arith, rank.within))
  split_two (c ∷ bs) zero n b sizes r rank is at =
      let same : IsRank st c.entries.items n = subst (λ (x : Block K V). IsRank st x.entries.items n) is at in
      let out = none_below bs sizes.1 (back_ranked st c.entries.items (entries_of bs) r) (shifted c bs 0 rank) in
      subst (IsSplit st (entries_of (c ∷ bs))) {x = n} (omega arith) (split_of st c.entries.items (entries_of bs) n same out)
  split_two (c ∷ bs) (suc k) n b sizes r rank is at =
      let more = split_two bs k n b sizes.1 (back_ranked st c.entries.items (entries_of bs) r) (shifted c bs (suc k) rank) is at in
      subst (IsSplit st (entries_of (c ∷ bs))) {x = length c.entries.items + (entries_before k bs + n)} (omega arith)
      (split_behind st c.entries.items (entries_of bs) (entries_before k bs + n) (next_head c bs k rank r) more)

  pub block_ranked : (bs : List (Block K V)) (k : ℕ) (b : Block K V) → Ranked st (entries_of bs) → k < length bs → b ≡ get_or bs k b → Ranked st b.entries.items
  block_ranked [] k b r within is = absurd (omega arith)
  block_ranked (c ∷ bs) zero b r within is = subst (λ (x : Block K V). Ranked st x.entries.items) (sym is) (front_ranked st c.entries.items (entries_of bs) r)
  block_ranked (c ∷ bs) (suc k) b r within is = block_ranked bs k b (back_ranked st c.entries.items (entries_of bs) r) (omega arith) is

-- ---- how many entries blocks have at least
module _ {K V : Type 0} where
  -- blocks, against their entries
  many : (bs : List (Block K V)) → PairsAreFull bs → 257 * length bs ≤ 2 * length (entries_of bs) + 257
  many [] p = omega arith
  many (b ∷ []) p = omega arith
  many (b ∷ (c ∷ [])) p = omega (arith, p.0, length-append b.entries.items (c.entries.items ++ []), length-append c.entries.items [])
  many (b ∷ (c ∷ (e ∷ bs))) p =
      let more = many (e ∷ bs) p.1.1 in
      omega (arith, more, p.0, length-append b.entries.items (c.entries.items ++ entries_of (e ∷ bs)), length-append c.entries.items (entries_of (e ∷ bs)))

  first_pair : (bs : List (Block K V)) → PairsAreFull bs → 2 ≤ length bs → 257 ≤ length (entries_of bs)
  first_pair [] p two = absurd (omega arith)
  first_pair (b ∷ []) p two = absurd (omega arith)
  first_pair (b ∷ (c ∷ bs)) p two = omega (arith, p.0, length-append b.entries.items (c.entries.items ++ entries_of bs), length-append c.entries.items (entries_of bs))

  block_within : (bs : List (Block K V)) (k : ℕ) (b : Block K V) → k < length bs → b ≡ get_or bs k b → length b.entries.items ≤ length (entries_of bs)
  block_within [] k b within is = absurd (omega arith)
  block_within (c ∷ bs) zero b within is = subst (λ (x : Block K V). length x.entries.items ≤ length (c.entries.items ++ entries_of bs)) (sym is) (omega (arith, length-append c.entries.items (entries_of bs)))
  block_within (c ∷ bs) (suc k) b within is = omega (arith, block_within bs k b (omega arith) is, length-append c.entries.items (entries_of bs))

  block_size : (bs : List (Block K V)) (k : ℕ) (b : Block K V) → AreSized bs → k < length bs → b ≡ get_or bs k b → length b.entries.items ≤ 512
  block_size [] k b sizes within is = absurd (omega arith)
  block_size (c ∷ bs) zero b sizes within is = subst (λ (x : Block K V). length x.entries.items ≤ 512) (sym is) sizes.0.1
  block_size (c ∷ bs) (suc k) b sizes within is = block_size bs k b sizes.1 (omega arith) is

  pub cost_none : (bs : List (Block K V)) (t s : ℕ) → AreBlocks bs → s ≡ t + 1 → 2 ^ t ≤ 2 * length bs + 1 → 2 ^ s ≤ 64 * length (entries_of bs) + 64
  cost_none bs t s are e h =
      let p : 2 ^ s ≡ 2 * 2 ^ t = subst (λ m. 2 ^ m ≡ 2 * 2 ^ t) {x = suc t} (omega arith) (pow-succ' 2 t) in
      omega (arith, many bs are.pairs)

  pub cost_two : (bs : List (Block K V)) (k : ℕ) (b : Block K V) (t u s : ℕ) → AreBlocks bs → k < length bs → b ≡ get_or bs k b → s ≡ t + u + 1 → 2 ^ t ≤ 2 * length bs + 1 → 2 ^ u ≤ 2 * length b.entries.items + 1
      → 2 ^ s ≤ 64 * length (entries_of bs) + 64
  cost_two bs k b t u s are within is e h g =
      let p : 2 ^ s ≡ 2 * 2 ^ (t + u) = subst (λ m. 2 ^ m ≡ 2 * 2 ^ (t + u)) {x = suc (t + u)} (omega arith) (pow-succ' 2 (t + u)) in
      let q : 2 ^ (t + u) ≡ 2 ^ t * 2 ^ u = pow-add 2 t u in
      bound (2 ^ t) (2 ^ u) (2 ^ (t + u)) (2 ^ s) p q h g
    where
      bound : (a c w x : ℕ) → x ≡ 2 * w → w ≡ a * c → a ≤ 2 * length bs + 1 → c ≤ 2 * length b.entries.items + 1 → x ≤ 64 * length (entries_of bs) + 64
      bound a c w x p q h g =
          let m = length bs in
          let size : length b.entries.items ≤ 512 = block_size bs k b are.sizes within is in
          let part : length b.entries.items ≤ length (entries_of bs) = block_within bs k b within is in
          let all : 257 * m ≤ 2 * length (entries_of bs) + 257 = many bs are.pairs in
          elim (cases_lt 1 m) [
            | inl two ↦ (
                let pair : 257 ≤ length (entries_of bs) = first_pair bs are.pairs (omega arith) in
                let most : a * c ≤ a * 1025 = mul-le-mul_left a (omega arith) in
                elim (cases_lt 2 m) [ inl three ↦ omega arith | inr few ↦ omega arith ])
            | inr one ↦ (
                let most : c * a ≤ c * 3 = mul-le-mul_left c (omega arith) in
                let same : a * c ≡ c * a = grind arith in
                omega arith)
          ]

-- the looks of a search of blocks are those of one search of the entries that are seen of them
pub looks_seen : {K V : Type 0} (seen entries : List (Entry K V)) (old new : ℕ) → entries ≡ seen → 2 ^ (new - old) ≤ 64 * length entries + 64 → AreLooks 1 (length seen) old new
looks_seen seen entries old new same cost = one_search (length seen) old new (subst (λ es. 2 ^ (new - old) ≤ 64 * length es + 64) same cost)

-- ---- rising keys and a probe
pub ranked_from : {K V : Type 0} (cmp : K → K → Ordering) (st : K → Ordering) → ((k l : K) → cmp k l ≡ Less → is_gt (st k) ≡ false → is_gt (st l) ≡ false) → (es : List (Entry K V)) → Rises cmp es → Ranked (λ (e : Entry K V). st e.key) es
ranked_from cmp st falls [] r = tt
ranked_from {K = K} {V = V} cmp st falls (e ∷ es) r = (λ out. later out es r.0, ranked_from cmp st falls es r.1)
  where
    later : is_gt (st e.key) ≡ false → (xs : List (Entry K V)) → AllByRecursion (λ x. cmp e.key x.key ≡ Less) xs → AllByRecursion (λ x. is_gt (st x.key) ≡ false) xs
    later out [] all = tt
    later out (x ∷ xs) all = (falls e.key x.key all.0 out, later out xs all.1)

-- the first item that is not below the probe stands behind those that are
pub find_split : {X : Type 0} (st : X → Ordering) (xs : List X) (n : ℕ) → IsSplit st xs n → slice_get xs n ≡ find (λ x. not (is_gt (st x))) xs
find_split st [] n s = refl
find_split st (x ∷ xs) zero s = sym (ap (λ b. if not b then Some x else find (λ y. not (is_gt (st y))) xs) s.from.0)
find_split st (x ∷ xs) (suc n) s =
    find_split st xs n record { within = omega (arith, s.within); below = s.below.1; from = s.from }
    ∙ sym (ap (λ b. if not b then Some x else find (λ y. not (is_gt (st y))) xs) s.below.0)

-- ---- a new key among rising ones
module _ {K V : Type 0} {cmp : K → K → Ordering} (o : IsTotalOrder cmp) (e : Entry K V) where
  above : (k : K) → is_gt (cmp e.key k) ≡ false → is_eq (cmp e.key k) ≡ false → cmp e.key k ≡ Less
  above k a b = by (cmp e.key k) refl a b
    where
      by : (r : Ordering) → cmp e.key k ≡ r → is_gt r ≡ false → is_eq r ≡ false → cmp e.key k ≡ Less
      by Less f a b = f
      by Equal f a b = absurd (true≢false b)
      by Greater f a b = absurd (true≢false a)

  under : (k : K) → is_gt (cmp e.key k) ≡ true → cmp k e.key ≡ Less
  under k a = by (cmp e.key k) refl a
    where
      by : (r : Ordering) → cmp e.key k ≡ r → is_gt r ≡ true → cmp k e.key ≡ Less
      by Less f a = absurd (true≢false (sym a))
      by Equal f a = absurd (true≢false (sym a))
      by Greater f a = o.antisymm k e.key ∙ ap ordering_reverse f

  all_above : (xs : List (Entry K V)) → AllByRecursion (λ x. is_gt (cmp e.key x.key) ≡ false) xs → AllByRecursion (λ x. is_eq (cmp e.key x.key) ≡ false) xs → AllByRecursion (λ x. cmp e.key x.key ≡ Less) xs
  all_above [] a b = tt
  all_above (x ∷ xs) a b = (above x.key a.0 b.0, all_above xs a.1 b.1)

  all_put : (P : Entry K V → Type 0) (xs : List (Entry K V)) (n : ℕ) → P e → AllByRecursion P xs → AllByRecursion P (insert xs n e)
  all_put P xs zero p all = (p, all)
  all_put P [] (suc n) p all = (p, tt)
  all_put P (x ∷ xs) (suc n) p all = (all.0, all_put P xs n p all.1)

  pub rises_put : (xs : List (Entry K V)) (n : ℕ) → Rises cmp xs → IsSplit (λ (x : Entry K V). cmp e.key x.key) xs n → AllByRecursion (λ x. is_eq (cmp e.key x.key) ≡ false) xs → Rises cmp (insert xs n e)
  rises_put xs zero r s absent = (all_above xs s.from absent, r)
  rises_put [] (suc n) r s absent = (tt, tt)
  rises_put (x ∷ xs) (suc n) r s absent = (
    all_put (λ y. cmp x.key y.key ≡ Less) xs n (under x.key s.below.0) r.0,
    rises_put xs n r.1 record { within = omega (arith, s.within); below = s.below.1; from = s.from } absent.1,
  )
