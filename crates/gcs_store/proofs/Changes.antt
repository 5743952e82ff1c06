-- A list each of whose places is changed by the partner that it has in another list, from the last place to the first.
use Rattle.std.proofs.Common.{◌≡◌, ℕ, ◌+◌, ◌<◌, ◌≤◌, List, [], ◌∷◌, ◌++◌, length, set, refl, ap, sym, ◌∙◌, subst, ⊎_elim, arith, length-set, append_assoc}
use mathlib.Core.Option.{some}
use lib.ListN.{get_elem?}
use Rattle.atomic_table.proofs.Lists.{at_set}
use Rattle.gcs_turn.proofs.Histories.{at_below}

module _ {A B : Type 0} (P : ℕ → A → B → A → Type 0) (olds : List A) (partners : List B) where
  -- the places from n on are changed, and those before are as they were
  pub record AreChanged (n : ℕ) (news : List A) : Type 0 where
    pub count : length news ≡ length olds
    pub before : (i : ℕ) (a : A) → i < n → get_elem? news i ≡ some a → get_elem? olds i ≡ some a
    pub from : (i : ℕ) (a : A) → n ≤ i → get_elem? news i ≡ some a → (o : A) × (b : B) × (get_elem? olds i ≡ some o) × (get_elem? partners i ≡ some b) × P i o b a

  -- at first none is
  pub none_changed : (n : ℕ) → length olds ≤ n → AreChanged n olds
  none_changed n all = record {
    count = refl;
    before = λ i a less at. at;
    from = λ i a more at. let below = at_below olds i a at in absurd (omega arith);
  }

  -- one more is
  pub one_changed : (n m : ℕ) (news : List A) (o new : A) (b : B) → m ≡ n + 1 → AreChanged m news → get_elem? news n ≡ some o → get_elem? partners n ≡ some b → P n o b new → AreChanged n (set news n new)
  one_changed n m news o new b next was at partner changed = record {
    count = length-set news n new ∙ was.count;
    before = λ i a less there. ⊎_elim (λ (e : (i ≡ n) × (new ≡ a)). let same = e.0 in absurd (omega arith)) (λ e. was.before i a (omega arith) e.1) (at_set news n i new a there);
    from = λ i a more there. ⊎_elim
        (λ (e : (i ≡ n) × (new ≡ a)). subst (λ (k : ℕ). (o : A) × (b : B) × (get_elem? olds k ≡ some o) × (get_elem? partners k ≡ some b) × P k o b a) (sym e.0)
        (o, b, was.before n o (omega arith) at, partner, subst (P n o b) e.1 changed))
        (λ e. let other = e.0 in was.from i a (let differ : n < i = omega arith in omega arith) e.1)
        (at_set news n i new a there);
  }

  -- the same, where its place is another number's
  pub one_changed_at : (place n m : ℕ) (news : List A) (o new : A) (b : B) → place ≡ n → m ≡ n + 1 → AreChanged m news → get_elem? news place ≡ some o → get_elem? partners n ≡ some b → P n o b new → AreChanged n (set news place new)
  one_changed_at place n m news o new b is next was at partner changed =
      subst (λ (k : ℕ). AreChanged n (set news k new)) (sym is) (one_changed n m news o new b next was (subst (λ (k : ℕ). get_elem? news k ≡ some o) is at) partner changed)

-- the element behind the first ones
pub at_middle : {A : Type 0} (xs ys : List A) (a : A) → get_elem? (xs ++ a ∷ ys) (length xs) ≡ some a
at_middle [] ys a = refl
at_middle (x ∷ xs) ys a = at_middle xs ys a

-- where the last of the first ones goes to the others
pub at_last_of : {A : Type 0} (all was now rest : List A) (a : A) → all ≡ was ++ rest → was ≡ now ++ a ∷ [] → (all ≡ now ++ a ∷ rest) × (get_elem? all (length now) ≡ some a)
at_last_of all was now rest a is last =
    let whole : all ≡ now ++ a ∷ rest = is ∙ (ap (λ l. l ++ rest) last ∙ append_assoc now (a ∷ []) rest) in
    (whole, ap (λ l. get_elem? l (length now)) whole ∙ at_middle now rest a)
