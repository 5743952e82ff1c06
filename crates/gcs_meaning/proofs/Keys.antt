-- Where a key is among pairs whose keys rise, and that they still rise where a pair is set or goes.
use Rattle.std.proofs.Common.{◌≡◌, ℕ, zero, suc, ◌+◌, ◌<◌, Bool, true, false, cond, List, [], ◌∷◌, ◌++◌, length, get_or, take, drop, Result, Ok, Err, refl, ap, sym, ◌∙◌, subst, drop-cons, arith}
use Rattle.std.specs.Prelude.{not, insert, remove, OnOk, OnErr}
use Rattle.std.specs.Str.{bytes_eq}
use Rattle.std.specs.List.{AllByRecursion}
use Rattle.std.specs.Ordering.{nat_cmp, is_eq, ordering_reverse}
use Rattle.std.specs.Cmp.Lexicographic.{slice_cmp}
use Rattle.std.specs.declared.cmp.Ordering.{Ordering}
use Rattle.std.specs.declared.cmp.Ordering.TheVariants.{Less, Equal, Greater}
use Rattle.std.proofs.lemmas.Cmp.{nat_list_cmp_total}
use Rattle.std.proofs.lemmas.Map.Text.{is_eq-slice_cmp}
use Rattle.gcs_meaning.specs.Pairs.{PairList, AreRising, pair_by, with_pair, without_key}
use Rattle.gcs_meaning.specs.Places.{IsKeyAt, IsGapAt}

-- all of the keys are greater
abbrev AreAbove : List ℕ → PairList → Type 0
AreAbove key pairs = AllByRecursion (λ q. slice_cmp nat_cmp key q.0 ≡ Less) pairs

-- what the order tells apart are other bytes
other_when : (key k : List ℕ) (o : Ordering) → slice_cmp nat_cmp key k ≡ o → bytes_eq key k ≡ is_eq o
other_when key k o is = sym (is_eq-slice_cmp key k) ∙ ap is_eq is

above_trans : (key k : List ℕ) → slice_cmp nat_cmp key k ≡ Less → (ps : PairList) → AreAbove k ps → AreAbove key ps
above_trans key k less [] h = tt
above_trans key k less (q ∷ qs) h = (nat_list_cmp_total.trans key k q.0 less h.0, above_trans key k less qs h.1)

above_same : (key k : List ℕ) → slice_cmp nat_cmp key k ≡ Equal → (ps : PairList) → AreAbove k ps → AreAbove key ps
above_same key k same [] h = tt
above_same key k same (q ∷ qs) h = (nat_list_cmp_total.congr key k q.0 same ∙ h.0, above_same key k same qs h.1)

-- a key that is smaller than all isn't there
none_equal : (key : List ℕ) (ps : PairList) → AreAbove key ps → without_key key ps ≡ ps
none_equal key [] h = refl
none_equal key (q ∷ qs) h = rw (other_when key q.0 Less h.0) (ap (λ r. q ∷ r) (none_equal key qs h.1))

rising_drop : (ps : PairList) (i : ℕ) → AreRising ps → AreRising (drop i ps)
rising_drop [] zero h = h
rising_drop [] (suc i) h = h
rising_drop (p ∷ ps) zero h = h
rising_drop (p ∷ ps) (suc i) h = rising_drop ps i h.1

-- an element that comes in before one that goes out
insert_remove : {X : Type 0} (xs : List X) (i : ℕ) (x : X) → i < length xs → take i xs ++ x ∷ drop (suc i) xs ≡ remove (insert xs i x) (suc i)
insert_remove [] i x within = absurd (omega arith)
insert_remove (y ∷ ys) zero x within = refl
insert_remove (y ∷ ys) (suc i) x within = ap (λ r. y ∷ r) (insert_remove ys i x (omega arith))

set_greater : (key value : List ℕ) (p : List ℕ × List ℕ) (ps : PairList) → slice_cmp nat_cmp key p.0 ≡ Greater → with_pair key value (p ∷ ps) ≡ p ∷ with_pair key value ps
set_greater key value p ps after = rw after refl

set_equal : (key value : List ℕ) (p : List ℕ × List ℕ) (ps : PairList) → slice_cmp nat_cmp key p.0 ≡ Equal → with_pair key value (p ∷ ps) ≡ (key, value) ∷ ps
set_equal key value p ps same = rw same refl

set_less : (key value : List ℕ) (p : List ℕ × List ℕ) (ps : PairList) → slice_cmp nat_cmp key p.0 ≡ Less → with_pair key value (p ∷ ps) ≡ (key, value) ∷ p ∷ ps
set_less key value p ps before = rw before refl

removed_greater : (key : List ℕ) (p : List ℕ × List ℕ) (ps : PairList) → slice_cmp nat_cmp key p.0 ≡ Greater → without_key key (p ∷ ps) ≡ p ∷ without_key key ps
removed_greater key p ps after = rw (other_when key p.0 Greater after) refl

removed_equal : (key : List ℕ) (p : List ℕ × List ℕ) (ps : PairList) → slice_cmp nat_cmp key p.0 ≡ Equal → AreRising (p ∷ ps) → without_key key (p ∷ ps) ≡ ps
removed_equal key p ps same rising =
    rw (other_when key p.0 Equal same) (none_equal key ps (above_same key p.0 same ps rising.0))

-- a search from the front: what is known of the pairs that were seen
pub record IsAfter (key : List ℕ) (pairs : PairList) (i : ℕ) : Type 0 where
  pub set : (value : List ℕ) → with_pair key value pairs ≡ take i pairs ++ with_pair key value (drop i pairs)
  pub removed : without_key key pairs ≡ take i pairs ++ without_key key (drop i pairs)

front : (pairs : PairList) (i : ℕ) (p : List ℕ × List ℕ) → i < length pairs → p ≡ get_or pairs i p → drop i pairs ≡ p ∷ drop (suc i) pairs
front pairs i p within is = drop-cons pairs i p within ∙ ap (λ q. q ∷ drop (suc i) pairs) (sym is)

pub gap_at : (key : List ℕ) (pairs : PairList) (i : ℕ) (p : List ℕ × List ℕ) → AreRising pairs → i < length pairs → p ≡ get_or pairs i p → slice_cmp nat_cmp key p.0 ≡ Less → IsAfter key pairs i → IsGapAt key pairs i
gap_at key pairs i p rising within is before after =
    let rest = front pairs i p within is in
    let up : AreRising (p ∷ drop (suc i) pairs) = subst AreRising rest (rising_drop pairs i rising) in
    record {
      within = omega arith;
      set_is = λ value. after.set value ∙ ap (λ r. take i pairs ++ r) (ap (with_pair key value) rest ∙ set_less key value p (drop (suc i) pairs) before ∙ ap (λ r. (key, value) ∷ r) (sym rest));
      none = after.removed
          ∙ ap (λ r. take i pairs ++ r) (none_equal key (drop i pairs) (subst (AreAbove key) (sym rest) (before, above_trans key p.0 before (drop (suc i) pairs) up.0)))
          ∙ take-drop pairs i;
    }
  where
    take-drop : (ps : PairList) (i : ℕ) → take i ps ++ drop i ps ≡ ps
    take-drop [] zero = refl
    take-drop [] (suc i) = refl
    take-drop (p ∷ ps) zero = refl
    take-drop (p ∷ ps) (suc i) = ap (λ r. p ∷ r) (take-drop ps i)

pub key_at : (key : List ℕ) (pairs : PairList) (i : ℕ) (p : List ℕ × List ℕ) → AreRising pairs → i < length pairs → p ≡ get_or pairs i p → slice_cmp nat_cmp key p.0 ≡ Equal → IsAfter key pairs i → IsKeyAt key pairs i
key_at key pairs i p rising within is same after =
    let rest = front pairs i p within is in
    record {
      within = within;
      set_is = λ value. after.set value
          ∙ ap (λ r. take i pairs ++ r) (ap (with_pair key value) rest ∙ set_equal key value p (drop (suc i) pairs) same)
          ∙ insert_remove pairs i (key, value) within;
      removed_is = after.removed
          ∙ ap (λ r. take i pairs ++ r) (ap (without_key key) rest ∙ removed_equal key p (drop (suc i) pairs) same (subst AreRising rest (rising_drop pairs i rising)));
    }

-- one pair more was seen
next_split : (pairs : PairList) (i : ℕ) (p : List ℕ × List ℕ) (rest : PairList) → i < length pairs → p ≡ get_or pairs i p → take i pairs ++ p ∷ rest ≡ take (suc i) pairs ++ rest
next_split [] i p rest within is = absurd (omega arith)
next_split (q ∷ qs) zero p rest within is = ap (λ x. x ∷ rest) is
next_split (q ∷ qs) (suc i) p rest within is = ap (λ r. q ∷ r) (next_split qs i p rest (omega arith) is)

after_suc : (key : List ℕ) (pairs : PairList) (i : ℕ) (p : List ℕ × List ℕ) → i < length pairs → p ≡ get_or pairs i p → slice_cmp nat_cmp key p.0 ≡ Greater → IsAfter key pairs i → IsAfter key pairs (suc i)
after_suc key pairs i p within is above after =
    let rest = front pairs i p within is in
    record {
      set = λ value. after.set value
          ∙ ap (λ r. take i pairs ++ r) (ap (with_pair key value) rest ∙ set_greater key value p (drop (suc i) pairs) above)
          ∙ next_split pairs i p (with_pair key value (drop (suc i) pairs)) within is;
      removed = after.removed
          ∙ ap (λ r. take i pairs ++ r) (ap (without_key key) rest ∙ removed_greater key p (drop (suc i) pairs) above)
          ∙ next_split pairs i p (without_key key (drop (suc i) pairs)) within is;
    }

pub after_next : (key : List ℕ) (pairs : PairList) (i : ℕ) (p : List ℕ × List ℕ) → i < length pairs → p ≡ get_or pairs i p → slice_cmp nat_cmp key p.0 ≡ Greater → IsAfter key pairs i → IsAfter key pairs (i + 1)
after_next key pairs i p within is above after =
    let next : suc i ≡ i + 1 = omega arith in
    subst (IsAfter key pairs) next (after_suc key pairs i p within is above after)

-- keys above k stay above it where a pair of a greater key is set, or a pair goes
above_filter : (k key : List ℕ) (ps : PairList) → AreAbove k ps → AreAbove k (without_key key ps)
above_filter k key [] h = tt
above_filter k key (q ∷ qs) h = kept (not (bytes_eq key q.0)) q (without_key key qs) h.0 (above_filter k key qs h.1)
  where
    kept : (b : Bool) (q : List ℕ × List ℕ) (qs : PairList) → slice_cmp nat_cmp k q.0 ≡ Less → AreAbove k qs → AreAbove k (cond b (q ∷ qs) qs)
    kept true q qs first more = (first, more)
    kept false q qs first more = more

above_set : (k key value : List ℕ) (ps : PairList) → slice_cmp nat_cmp k key ≡ Less → AreAbove k ps → AreAbove k (with_pair key value ps)
above_set k key value [] less h = (less, tt)
above_set k key value (q ∷ qs) less h = by_order (slice_cmp nat_cmp key q.0) q qs (with_pair key value qs) h.0 h.1 (above_set k key value qs less h.1)
  where
    by_order : (o : Ordering) (q : List ℕ × List ℕ) (qs rest : PairList) → slice_cmp nat_cmp k q.0 ≡ Less → AreAbove k qs → AreAbove k rest → AreAbove k (pair_by o key value q qs rest)
    by_order Less q qs rest first more deeper = (less, (first, more))
    by_order Equal q qs rest first more deeper = (less, more)
    by_order Greater q qs rest first more deeper = (first, deeper)

rising_filter : (key : List ℕ) (ps : PairList) → AreRising ps → AreRising (without_key key ps)
rising_filter key [] h = tt
rising_filter key (q ∷ qs) h = kept (not (bytes_eq key q.0)) q (without_key key qs) (above_filter q.0 key qs h.0) (rising_filter key qs h.1)
  where
    kept : (b : Bool) (q : List ℕ × List ℕ) (qs : PairList) → AreAbove q.0 qs → AreRising qs → AreRising (cond b (q ∷ qs) qs)
    kept true q qs first more = (first, more)
    kept false q qs first more = more

rising_set : (key value : List ℕ) (ps : PairList) → AreRising ps → AreRising (with_pair key value ps)
rising_set key value [] h = (tt, tt)
rising_set key value (q ∷ qs) h = by_order (slice_cmp nat_cmp key q.0) q qs refl h.0 h.1 (rising_set key value qs h.1)
  where
    by_order : (o : Ordering) (q : List ℕ × List ℕ) (qs : PairList) → slice_cmp nat_cmp key q.0 ≡ o → AreAbove q.0 qs → AreRising qs → AreRising (with_pair key value qs) → AreRising (pair_by o key value q qs (with_pair key value qs))
    by_order Less q qs is first more deeper = ((is, above_trans key q.0 is qs first), (first, more))
    by_order Equal q qs is first more deeper = (above_same key q.0 is qs first, more)
    by_order Greater q qs is first more deeper =
        (above_set q.0 key value qs (nat_list_cmp_total.antisymm q.0 key ∙ ap ordering_reverse is) first, deeper)

-- the pairs after a value was to be set, which was done or failed for memory
pub rising_after : {T E : Type 0} (result : Result T E) (key value : List ℕ) (old new : PairList) → AreRising old → OnOk result (new ≡ with_pair key value old) → OnErr result (new ≡ old) → AreRising new
rising_after (Ok done) key value old new h ok err = subst AreRising (sym ok) (rising_set key value old h)
rising_after (Err e) key value old new h ok err = subst AreRising (sym err) h

pub rising_removed : (key : List ℕ) (old new : PairList) → AreRising old → new ≡ without_key key old → AreRising new
rising_removed key old new h is = subst AreRising (sym is) (rising_filter key old h)
