-- Lists that are read by their places, and the entries of a history by their callers.
use Rattle.std.proofs.Common.{◌≡◌, ◌≢◌, ℕ, zero, suc, ◌+◌, ◌%◌, ◌^◌, ◌<◌, ◌≤◌, min, Bool, true, false, cond, eqb, List, [], ◌∷◌, ◌++◌, length, set, sym, refl, ap, ◌∙◌, subst, ⊎_elim, inl, inr, ◌⊎◌, arith, length-append, eq-eqb, ne_eqb, append_assoc, append-nil}
use mathlib.Core.Logic.{dite}
use mathlib.Core.Option.{some, some-injective, some-ne-none}
use native.Mathlib.Decide.{ℕ_discrete}
use lib.ListN.{get_elem?}
use Rattle.atomic_table.proofs.Lists.{at_set, one_turn}
use Rattle.gcs_turn.specs.declared.object.Entry.{Entry}
use Rattle.gcs_turn.specs.declared.view.View.{View}
use Rattle.gcs_turn.specs.Turning.{Begins, calls_by, Numbered, AllNumbered, Made, waiting}

-- two tickets at different places of the queue differ
pub tickets_differ : (a k m : ℕ) → k < m → m < 2 ^ 64 → (a + m) % 2 ^ 64 ≡ (a + k) % 2 ^ 64 → ⊥
tickets_differ a k m less small e = let same : a + k ≡ a + m = one_turn (a + k) (a + m) (2 ^ 64) (omega arith) (omega arith) (sym e) in omega arith

module _ {C H : Type 0} where
  -- where one view changes, the count of those with a ticket changes by its own part
  pub waiting-set : (vs : List (View C H)) (i : ℕ) (v w : View C H) → get_elem? vs i ≡ some v → waiting (set vs i w) + min v.stage 1 ≡ waiting vs + min w.stage 1
  waiting-set [] i v w e = absurd (some-ne-none v (sym e))
  waiting-set (x ∷ xs) zero v w e = let is : min x.stage 1 ≡ min v.stage 1 = ap (λ (m : View C H). min m.stage 1) (some-injective x v e) in omega arith
  waiting-set (x ∷ xs) (suc i) v w e = let r = waiting-set xs i v w e in omega arith

  -- no more views have a ticket than there are
  pub waiting_few : (vs : List (View C H)) → waiting vs ≤ length vs
  waiting_few [] = omega arith
  waiting_few (x ∷ xs) = let r = waiting_few xs in omega arith

module _ {A : Type 0} where
  -- a place that has an element is below the length
  pub at_below : (l : List A) (i : ℕ) (a : A) → get_elem? l i ≡ some a → i < length l
  at_below [] i a e = absurd (some-ne-none a (sym e))
  at_below (x ∷ xs) zero a e = omega arith
  at_below (x ∷ xs) (suc i) a e = let r = at_below xs i a e in omega arith

  -- a list begins with all of itself
  pub begins_all : (xs : List A) → Begins xs xs
  begins_all xs = ([], sym (append-nil xs))

  -- what begins a list begins each longer one
  pub begins_more : (xs ys zs : List A) → Begins xs ys → Begins (xs ++ zs) ys
  begins_more xs ys zs b = (b.0 ++ zs, ap (λ (l : List A). l ++ zs) b.1 ∙ append_assoc ys b.0 zs)

  -- a place of a list with one more at its end is one of before, or the end
  pub at_end : (l : List A) (a b : A) (j : ℕ) → get_elem? (l ++ a ∷ []) j ≡ some b → (get_elem? l j ≡ some b) ⊎ ((j ≡ length l) × (a ≡ b))
  at_end [] a b zero e = inr (refl, some-injective a b e)
  at_end [] a b (suc j) e = absurd (some-ne-none b (sym e))
  at_end (x ∷ xs) a b zero e = inl e
  at_end (x ∷ xs) a b (suc j) e = ⊎_elim (λ t. inl t) (λ (t : (j ≡ length xs) × (a ≡ b)). inr (ap suc t.0, t.1)) (at_end xs a b j e)

  -- a place of a list with one more at its front is the front, or one of before
  pub at_cons : (x : A) (l : List A) (i : ℕ) (y : A) → get_elem? (x ∷ l) i ≡ some y → ((i ≡ 0) × (x ≡ y)) ⊎ ((k : ℕ) × (i ≡ k + 1) × (get_elem? l k ≡ some y))
  at_cons x l zero y e = inl (refl, some-injective x y e)
  at_cons x l (suc i) y e = inr (i, omega arith, e)

  -- each place below the length has an element
  pub there_is : (l : List A) (i : ℕ) → i < length l → (a : A) × (get_elem? l i ≡ some a)
  there_is [] i h = absurd (omega arith)
  there_is (x ∷ xs) zero h = (x, refl)
  there_is (x ∷ xs) (suc i) h = there_is xs i (omega arith)

-- false is not true
pub clash : false ≡ true → ⊥
clash e = cc

module _ {C : Type 0} where
  -- a caller's entries in two histories, one behind the other
  pub calls-append : (c : ℕ) (xs ys : List (Entry C)) → calls_by c (xs ++ ys) ≡ calls_by c xs ++ calls_by c ys
  calls-append c [] ys = refl
  calls-append c (x ∷ xs) ys = let rest = calls-append c xs ys in
      elim (eqb x.caller c) as (λ b. cond b (x ∷ calls_by c (xs ++ ys)) (calls_by c (xs ++ ys)) ≡ cond b (x ∷ calls_by c xs) (calls_by c xs) ++ calls_by c ys)
      [ true ↦ ap (λ (l : List (Entry C)). x ∷ l) rest | false ↦ rest ]

  -- one's own entry is among one's entries
  pub calls_own : (c : ℕ) (e : Entry C) → e.caller ≡ c → calls_by c (e ∷ []) ≡ e ∷ []
  calls_own c e is = ap (λ (b : Bool). cond b (e ∷ []) []) (eq-eqb e.caller c is)

  -- the entry of another isn't
  pub calls_other : (c : ℕ) (e : Entry C) → e.caller ≢ c → calls_by c (e ∷ []) ≡ []
  calls_other c e ne = ap (λ (b : Bool). cond b (e ∷ []) []) (ne_eqb e.caller c ne)

  -- a caller has no more entries than there are
  pub calls_fewer : (c : ℕ) (xs : List (Entry C)) → length (calls_by c xs) ≤ length xs
  calls_fewer c [] = omega arith
  calls_fewer c (x ∷ xs) = let rest = calls_fewer c xs in
      elim (eqb x.caller c) as (λ b. length (cond b (x ∷ calls_by c xs) (calls_by c xs)) ≤ suc (length xs)) [ true ↦ omega arith | false ↦ omega arith ]

  -- an entry with the next number goes on with the numbers
  pub numbered_snoc : (n : ℕ) (xs : List (Entry C)) (e : Entry C) → Numbered n xs → e.number ≡ n + length xs → Numbered n (xs ++ e ∷ [])
  numbered_snoc n [] e h is = (omega arith, tt)
  numbered_snoc n (x ∷ xs) e h is = (h.0, numbered_snoc (n + 1) xs e h.1 (omega arith))

  -- the numbers go on, where an entry has the next number of its caller
  pub numbered_more : (log : List (Entry C)) (e : Entry C) → AllNumbered log → e.number ≡ length (calls_by e.caller log) → AllNumbered (log ++ e ∷ [])
  numbered_more log e all next c = subst (Numbered 0) (sym (calls-append c log (e ∷ []))) (dite (ℕ_discrete e.caller c)
      (λ is. subst (λ (l : List (Entry C)). Numbered 0 (calls_by c log ++ l)) (sym (calls_own c e is)) (numbered_snoc 0 (calls_by c log) e (all c) (let f = next ∙ ap (λ (k : ℕ). length (calls_by k log)) is in omega arith)))
      (λ ne. subst (λ (l : List (Entry C)). Numbered 0 (calls_by c log ++ l)) (sym (calls_other c e ne)) (subst (Numbered 0) (sym (append-nil (calls_by c log))) (all c))))

  -- what was seen since the last own call is others'
  pub others_none : (c : ℕ) (seen others mine : List (Entry C)) → calls_by c seen ≡ mine → calls_by c (seen ++ others) ≡ mine → calls_by c others ≡ []
  others_none c seen others mine was now = none_left (calls_by c others) (let a = ap (λ (l : List (Entry C)). length l) was in let b = ap (λ (l : List (Entry C)). length l) (sym (calls-append c seen others) ∙ now) in let d = length-append (calls_by c seen) (calls_by c others) in omega arith)
    where
      none_left : (l : List (Entry C)) → length l ≡ 0 → l ≡ []
      none_left [] z = refl
      none_left (x ∷ xs) z = absurd (omega arith)

  -- an entry of another caller leaves what was made
  pub made_more : (log : List (Entry C)) (e : Entry C) (c : ℕ) (seen mine : List (Entry C)) → Made log c seen mine → e.caller ≢ c → Made (log ++ e ∷ []) c seen mine
  made_more log e c seen mine m ne = record {
    prefix = begins_more log seen (e ∷ []) m.prefix;
    calls = calls-append c log (e ∷ []) ∙ (ap (λ (l : List (Entry C)). calls_by c log ++ l) (calls_other c e ne) ∙ (append-nil (calls_by c log) ∙ m.calls));
    numbers = m.numbers;
  }

  -- an entry of one's own
  pub made_own : (log : List (Entry C)) (e : Entry C) (c : ℕ) (seen mine : List (Entry C)) → Made log c seen mine → e.caller ≡ c → e.number ≡ length mine → Made (log ++ e ∷ []) c (log ++ e ∷ []) (mine ++ e ∷ [])
  made_own log e c seen mine m is number = record {
    prefix = begins_all (log ++ e ∷ []);
    calls = calls-append c log (e ∷ []) ∙ (ap (λ (l : List (Entry C)). calls_by c log ++ l) (calls_own c e is) ∙ ap (λ (l : List (Entry C)). l ++ e ∷ []) m.calls);
    numbers = numbered_snoc 0 mine e m.numbers (omega arith);
  }

module _ {A : Type 0} where
  -- what holds of the element that was put in, and of each other, holds of all
  pub each_after : (vs : List A) (id : ℕ) (w : A) (P : ℕ → A → Type 0) → P id w → ((j : ℕ) (u : A) → j ≢ id → get_elem? vs j ≡ some u → P j u) → (j : ℕ) (u : A) → get_elem? (set vs id w) j ≡ some u → P j u
  each_after vs id w P mine others j u e = ⊎_elim (λ (t : (j ≡ id) × (w ≡ u)). subst (λ (x : ℕ × A). P x.0 x.1) (λ i. (sym t.0 i, t.1 i)) mine)
      (λ (t : (j ≢ id) × (get_elem? vs j ≡ some u)). others j u t.0 t.1) (at_set vs id j w u e)
