-- What a call that went through leaves.
use Rattle.std.proofs.Common.{◌≡◌, ℕ, List, [], ◌∷◌, ◌++◌, length, sym, refl, ap, ◌∙◌, subst, Option, Some, cond, eqb}
use Rattle.atomic_table.specs.Seated.{TableId}
use Rattle.atomic_table.specs.declared.shared.Seat.{Seat}
use Rattle.gcs_turn.specs.declared.object.Entry.{Entry}
use Rattle.gcs_turn.specs.declared.view.View.{View}
use Rattle.gcs_turn.specs.Turning.{Begins, calls_by, AllNumbered, Made, Called}
use Rattle.gcs_turn.specs.Seating.{OfTurn}
use Rattle.gcs_turn.proofs.Histories.{made_own, numbered_more, others_none}

module _ {C H : Type 0} (v : View C H) (log : List (Entry C)) (e : Entry C) (t : ℕ) where
  -- a seat that has added an entry, and has given up its turn
  abbrev pub after : View C H
  after = record v { stage = 0; ticket = t; base = log; seen = log ++ e ∷ []; own = log ++ e ∷ []; mine = v.mine ++ e ∷ [] }

module _ {C H O : Type 0} (s s' : Seat (Option O) (View C H)) (log : List (Entry C)) (e : Entry C) (t : ℕ) (now : s'.me.0 ≡ after s.me.0 log e t) (made : Made log s.me.0.caller s.me.0.seen s.me.0.mine)
    (mine : e.caller ≡ s.me.0.caller) (number : e.number ≡ length s.me.0.mine) where
  -- it is still a caller's seat at the table
  pub still_of : (z : TableId) (h : H) (callers : ℕ) → OfTurn z h callers s → s'.table_id ≡ s.table_id → AllNumbered log → OfTurn z h callers s'
  still_of z h callers was table all = record {
    table = table ∙ was.table;
    home_is = ap (λ (m : View C H). m.home) now ∙ was.home_is;
    made = subst (λ (m : View C H). m.made ≡ cond (eqb m.caller 0) callers 0) (sym now) was.made;
    joined = ap (λ (m : View C H). m.joined) now ∙ was.joined;
    own = subst (λ (m : View C H). m.own ≡ m.seen) (sym now) refl;
    calls = subst (λ (m : View C H). calls_by m.caller m.seen ≡ m.mine) (sym now) (made_own log e s.me.0.caller s.me.0.seen s.me.0.mine made mine number).calls;
    numbers = λ c. subst (λ (m : View C H). Rattle.gcs_turn.specs.Turning.Numbered 0 (calls_by c m.seen)) (sym now) (numbered_more log e all (number ∙ sym (ap (λ (k : ℕ). length (calls_by k log)) mine ∙ ap (λ (l : List (Entry C)). length l) made.calls)) c);
  }

  -- the entry stands behind those of others alone
  pub was_called : {A : Type 0} (answer : List (Entry C) → Entry C → A → Type 0) (caller : ℕ) (e' : Entry C) (a : A) → caller ≡ s.me.0.caller → calls_by s.me.0.caller s.me.0.seen ≡ s.me.0.mine → e ≡ e' → answer log e' a → Called answer caller s.me.0.seen s.me.0.mine s'.me.0.seen s'.me.0.mine e' a
  was_called answer caller e' a who own same right = let rest = made.prefix.0 in let is = made.prefix.1 in record {
    others = rest;
    foreign = ap (λ (k : ℕ). calls_by k rest) who ∙ others_none s.me.0.caller s.me.0.seen rest s.me.0.mine own (ap (calls_by s.me.0.caller) (sym is) ∙ made.calls);
    now_seen = ap (λ (m : View C H). m.seen) now ∙ (ap (λ (l : List (Entry C)). l ++ e ∷ []) is ∙ ap (λ (x : Entry C). (s.me.0.seen ++ rest) ++ x ∷ []) same);
    now_mine = ap (λ (m : View C H). m.mine) now ∙ ap (λ (x : Entry C). s.me.0.mine ++ x ∷ []) same;
    answered = subst (λ (l : List (Entry C)). answer l e' a) is right;
  }

pub some_is : {A : Type 0} (a b : A) → Some a ≡ Some b → a ≡ b
some_is a b e = cc
