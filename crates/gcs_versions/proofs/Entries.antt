-- Entries that rise by key: one more, one less, and both in either order.
use Rattle.std.proofs.Common.{◌≡◌, ◌∙◌, sym, ap, refl, subst, Bool, true, false, List, [], ◌∷◌, Some, None}
use Rattle.std.specs.Prelude.{not, if◌then◌else◌}
use mathlib.Core.Bool.{true≢false}
use Rattle.std.specs.Cmp.{IsTotalOrder}
use Rattle.std.specs.List.{AllByRecursion, find}
use Rattle.std.specs.declared.cmp.Ordering.{Ordering}
use Rattle.std.specs.declared.cmp.Ordering.TheVariants.{Less, Equal, Greater}
use Rattle.std.specs.Ordering.{is_eq, is_gt, ordering_reverse}
use Rattle.std.proofs.lemmas.Cmp.{tied_itself}
use Rattle.gcs_index.specs.declared.blocks.Entry.{Entry}
use Rattle.gcs_index.specs.Entries.{entry_of, with_entry, without_key, Rises}
use Rattle.gcs_index.proofs.RemovalLemmas.{none_taken}
use Rattle.gcs_meaning.proofs.Chosen.{all-find, finds_none}
use Rattle.gcs_meaning.proofs.Listed.{all-filter, all-weaker}

-- ---- answers of an order
-- neither above nor equal is below
less_from : (r : Ordering) → is_gt r ≡ false → is_eq r ≡ false → r ≡ Less
less_from Less out other = refl
less_from Equal out other = absurd (true≢false other)
less_from Greater out other = absurd (true≢false out)

-- above is greater
greater_from : (r : Ordering) → is_gt r ≡ true → r ≡ Greater
greater_from Less above = absurd (true≢false (sym above))
greater_from Equal above = absurd (true≢false (sym above))
greater_from Greater above = refl

module _ {K : Type 0} {cmp : K → K → Ordering} (total : IsTotalOrder cmp) where
  -- the same answer, from the other side
  less_back : (x y : K) → cmp x y ≡ Greater → cmp y x ≡ Less
  less_back x y greater = total.antisymm y x ∙ ap ordering_reverse greater

  above_back : (x y : K) → cmp x y ≡ Less → is_gt (cmp y x) ≡ true
  above_back x y less = ap is_gt (total.antisymm y x ∙ ap ordering_reverse less)

-- ---- the first entry of a list, where one is added or taken away
module _ {K V : Type 0} (cmp : K → K → Ordering) (x e : Entry K V) (es : List (Entry K V)) where
  -- it goes before the first that it isn't above
  goes_before : is_gt (cmp x.key e.key) ≡ false → with_entry cmp x (e ∷ es) ≡ x ∷ e ∷ es
  goes_before out = ap (λ b. if b then e ∷ with_entry cmp x es else x ∷ e ∷ es) out

  -- and behind one that it is above
  goes_behind : is_gt (cmp x.key e.key) ≡ true → with_entry cmp x (e ∷ es) ≡ e ∷ with_entry cmp x es
  goes_behind above = ap (λ b. if b then e ∷ with_entry cmp x es else x ∷ e ∷ es) above

module _ {K V : Type 0} (cmp : K → K → Ordering) (k : K) (e : Entry K V) (es : List (Entry K V)) where
  -- the first entry stays, since it has another key
  first_stays : is_eq (cmp k e.key) ≡ false → without_key cmp k (e ∷ es) ≡ e ∷ without_key cmp k es
  first_stays other = ap (λ b. if not b then e ∷ without_key cmp k es else without_key cmp k es) other

  -- or goes, since it has the key
  first_goes : is_eq (cmp k e.key) ≡ true → without_key cmp k (e ∷ es) ≡ without_key cmp k es
  first_goes same = ap (λ b. if not b then e ∷ without_key cmp k es else without_key cmp k es) same

-- what stays has other keys
pub without_others : {K V : Type 0} (cmp : K → K → Ordering) (k : K) (es : List (Entry K V)) → AllByRecursion (λ e. is_eq (cmp k e.key) ≡ false) (without_key cmp k es)
without_others cmp k [] = tt
without_others {K = K} {V = V} cmp k (e ∷ es) = by (is_eq (cmp k e.key)) refl (without_others cmp k es)
  where
    by : (b : Bool) → is_eq (cmp k e.key) ≡ b → AllByRecursion (λ (x : Entry K V). is_eq (cmp k x.key) ≡ false) (without_key cmp k es)
        → AllByRecursion (λ (x : Entry K V). is_eq (cmp k x.key) ≡ false) (if not b then e ∷ without_key cmp k es else without_key cmp k es)
    by true same rest = rest
    by false other rest = (other, rest)

module _ {K V : Type 0} {cmp : K → K → Ordering} (total : IsTotalOrder cmp) where
  -- ---- what holds of all entries
  -- of one more, which has it too
  pub all_with : (P : Entry K V → Type 0) (x : Entry K V) (es : List (Entry K V)) → P x → AllByRecursion P es → AllByRecursion P (with_entry cmp x es)
  all_with P x [] new all = (new, tt)
  all_with P x (e ∷ es) new all = by (is_gt (cmp x.key e.key)) (all_with P x es new all.1)
    where
      by : (b : Bool) → AllByRecursion P (with_entry cmp x es) → AllByRecursion P (if b then e ∷ with_entry cmp x es else x ∷ e ∷ es)
      by true rest = (all.0, rest)
      by false rest = (new, all)

  -- of one less
  pub all_without : (P : Entry K V → Type 0) (k : K) (es : List (Entry K V)) → AllByRecursion P es → AllByRecursion P (without_key cmp k es)
  all_without P k es all = all-filter P (λ e. not (is_eq (cmp k e.key))) es all

  -- ---- no entry has the key
  pub without_absent : (k : K) (es : List (Entry K V)) → find (λ e. is_eq (cmp k e.key)) es ≡ None → without_key cmp k es ≡ es
  without_absent k es none = sym (none_taken total k es none)

  -- an entry that is added and taken away
  pub without_with : (k : K) (s : V) (es : List (Entry K V)) → AllByRecursion (λ e. is_eq (cmp k e.key) ≡ false) es → without_key cmp k (with_entry cmp (entry_of k s) es) ≡ es
  without_with k s [] absent = first_goes cmp k (entry_of k s) [] (ap is_eq (tied_itself total k))
  without_with k s (e ∷ es) absent = by (is_gt (cmp k e.key)) (without_with k s es absent.1)
    where
      x : Entry K V
      x = entry_of k s

      by : (b : Bool) → without_key cmp k (with_entry cmp x es) ≡ es → without_key cmp k (if b then e ∷ with_entry cmp x es else x ∷ e ∷ es) ≡ e ∷ es
      by true rest = first_stays cmp k e (with_entry cmp x es) absent.0 ∙ ap (λ l. e ∷ l) rest
      by false rest =
          first_goes cmp k x (e ∷ es) (ap is_eq (tied_itself total k))
          ∙ without_absent k (e ∷ es) (finds_none (λ (y : Entry K V). is_eq (cmp k y.key)) (e ∷ es) absent)

  -- ---- two entries of different keys
  -- the lower one goes before what the higher one is added to, or behind the same first entry
  lower_first : (a b : Entry K V) (es : List (Entry K V)) → cmp a.key b.key ≡ Less → with_entry cmp a (with_entry cmp b es) ≡ with_entry cmp b (with_entry cmp a es)
  lower_first a b [] less = goes_before cmp a b [] (ap is_gt less) ∙ sym (goes_behind cmp b a [] (above_back total a.key b.key less))
  lower_first a b (e ∷ es) less = by (is_gt (cmp a.key e.key)) refl (lower_first a b es less)
    where
      -- a goes before e, and so before b
      before : (t : Bool) → is_gt (cmp a.key e.key) ≡ false → with_entry cmp a (if t then e ∷ with_entry cmp b es else b ∷ e ∷ es) ≡ a ∷ (if t then e ∷ with_entry cmp b es else b ∷ e ∷ es)
      before true out = goes_before cmp a e (with_entry cmp b es) out
      before false out = goes_before cmp a b (e ∷ es) (ap is_gt less)

      by : (t : Bool) → is_gt (cmp a.key e.key) ≡ t → with_entry cmp a (with_entry cmp b es) ≡ with_entry cmp b (with_entry cmp a es)
          → with_entry cmp a (with_entry cmp b (e ∷ es)) ≡ with_entry cmp b (with_entry cmp a (e ∷ es))
      by true above rest =
          let higher : is_gt (cmp b.key e.key) ≡ true = above_back total e.key b.key (total.trans e.key a.key b.key (less_back total a.key e.key (greater_from (cmp a.key e.key) above)) less) in
          ap (with_entry cmp a) (goes_behind cmp b e es higher)
          ∙ goes_behind cmp a e (with_entry cmp b es) above
          ∙ ap (λ l. e ∷ l) rest
          ∙ sym (ap (with_entry cmp b) (goes_behind cmp a e es above) ∙ goes_behind cmp b e (with_entry cmp a es) higher)
      by false out rest =
          before (is_gt (cmp b.key e.key)) out
          ∙ sym (ap (with_entry cmp b) (goes_before cmp a e es out) ∙ goes_behind cmp b a (e ∷ es) (above_back total a.key b.key less))

  -- two entries can be added in either order
  pub with_with : (a b : Entry K V) (es : List (Entry K V)) → is_eq (cmp a.key b.key) ≡ false → with_entry cmp a (with_entry cmp b es) ≡ with_entry cmp b (with_entry cmp a es)
  with_with a b es other = by (cmp a.key b.key) refl other
    where
      by : (r : Ordering) → cmp a.key b.key ≡ r → is_eq r ≡ false → with_entry cmp a (with_entry cmp b es) ≡ with_entry cmp b (with_entry cmp a es)
      by Less f other = lower_first a b es f
      by Equal f other = absurd (true≢false other)
      by Greater f other = sym (lower_first b a es (less_back total a.key b.key f))

  -- ---- entries that rise
  -- one more, of a new key
  pub rises_with : (x : Entry K V) (es : List (Entry K V)) → Rises cmp es → AllByRecursion (λ e. is_eq (cmp x.key e.key) ≡ false) es → Rises cmp (with_entry cmp x es)
  rises_with x [] rise absent = (tt, tt)
  rises_with x (e ∷ es) rise absent = by (is_gt (cmp x.key e.key)) refl (rises_with x es rise.1 absent.1)
    where
      by : (b : Bool) → is_gt (cmp x.key e.key) ≡ b → Rises cmp (with_entry cmp x es) → Rises cmp (if b then e ∷ with_entry cmp x es else x ∷ e ∷ es)
      by true above rest = (all_with (λ y. cmp e.key y.key ≡ Less) x es (less_back total x.key e.key (greater_from (cmp x.key e.key) above)) rise.0, rest)
      by false out rest =
          let less : cmp x.key e.key ≡ Less = less_from (cmp x.key e.key) out absent.0 in
          ((less, all-weaker (λ (y : Entry K V). cmp e.key y.key ≡ Less) (λ (y : Entry K V). cmp x.key y.key ≡ Less) (λ y. total.trans x.key e.key y.key less) es rise.0), rise)

  -- one less
  pub rises_without : (k : K) (es : List (Entry K V)) → Rises cmp es → Rises cmp (without_key cmp k es)
  rises_without k [] rise = tt
  rises_without k (e ∷ es) rise = by (is_eq (cmp k e.key)) (rises_without k es rise.1)
    where
      by : (b : Bool) → Rises cmp (without_key cmp k es) → Rises cmp (if not b then e ∷ without_key cmp k es else without_key cmp k es)
      by true rest = rest
      by false rest = (all_without (λ y. cmp e.key y.key ≡ Less) k es rise.0, rest)

  -- without the first key, the others
  pub without_first : (e : Entry K V) (es : List (Entry K V)) → Rises cmp (e ∷ es) → without_key cmp e.key (e ∷ es) ≡ es
  without_first e es rise =
      first_goes cmp e.key e es (ap is_eq (tied_itself total e.key))
      ∙ without_absent e.key es (finds_none (λ (y : Entry K V). is_eq (cmp e.key y.key)) es
      (all-weaker (λ (y : Entry K V). cmp e.key y.key ≡ Less) (λ (y : Entry K V). is_eq (cmp e.key y.key) ≡ false) (λ y less. ap is_eq less) es rise.0))

  -- an entry goes before entries that it isn't above
  pub with_first : (x : Entry K V) (es : List (Entry K V)) → AllByRecursion (λ e. is_gt (cmp x.key e.key) ≡ false) es → with_entry cmp x es ≡ x ∷ es
  with_first x [] out = refl
  with_first x (e ∷ es) out = goes_before cmp x e es out.0

  -- an entry that is taken away and added again
  pub put_back : (k : K) (s : V) (es : List (Entry K V)) → Rises cmp es → find (λ e. is_eq (cmp k e.key)) es ≡ Some (entry_of k s)
      → with_entry cmp (entry_of k s) (without_key cmp k es) ≡ es
  put_back k s [] rise found = absurd (cc)
  put_back k s (e ∷ es) rise found = by (is_eq (cmp k e.key)) refl found (put_back k s es rise.1)
    where
      x : Entry K V
      x = entry_of k s

      inside : Some e ≡ Some x → e ≡ x
      inside same = cc

      by : (b : Bool) → is_eq (cmp k e.key) ≡ b → (if b then Some e else find (λ (y : Entry K V). is_eq (cmp k y.key)) es) ≡ Some x
          → (find (λ (y : Entry K V). is_eq (cmp k y.key)) es ≡ Some x → with_entry cmp x (without_key cmp k es) ≡ es)
          → with_entry cmp x (without_key cmp k (e ∷ es)) ≡ e ∷ es
      by true same found rest = subst (λ (y : Entry K V). with_entry cmp y (without_key cmp y.key (e ∷ es)) ≡ e ∷ es) (inside found)
          (ap (with_entry cmp e) (without_first e es rise)
          ∙ with_first e es (all-weaker (λ (y : Entry K V). cmp e.key y.key ≡ Less) (λ (y : Entry K V). is_gt (cmp e.key y.key) ≡ false) (λ y less. ap is_gt less) es rise.0))
      by false other found rest =
          ap (with_entry cmp x) (first_stays cmp k e es other)
          ∙ goes_behind cmp x e (without_key cmp k es)
          (above_back total e.key k (all-find (λ (y : Entry K V). cmp e.key y.key ≡ Less) (λ (y : Entry K V). is_eq (cmp k y.key)) x es found rise.0))
          ∙ ap (λ l. e ∷ l) (rest found)
