-- The passes of a turn, one of them changed, or each of them.
use Rattle.std.proofs.Common.{◌≡◌, ℕ, zero, suc, ◌<◌, List, [], ◌∷◌, length, get_or, set, sym, ap, ◌∙◌, subst, ⊎_elim, arith, length-set}
use mathlib.Core.Option.{some, some-injective, some-ne-none}
use lib.ListN.{get_elem?}
use Rattle.atomic_table.proofs.Lists.{at_index, at_set}
use Rattle.gcs_turn.specs.declared.object.Object.{Ghosts}
use Rattle.gcs_turn.specs.declared.seats.Pass.{Pass}
use Rattle.gcs_turn.specs.declared.turn.Turn.{Turn}
use Rattle.gcs_turn.specs.Passes.{caller_of, IsPassOf, AreAllOf}
use Rattle.gcs_turn.proofs.Histories.{at_below, there_is}

-- an element that is there is what is read at its place, whatever is read past the end
get_or_at : {A : Type 0} (l : List A) (i : ℕ) (a d : A) → get_elem? l i ≡ some a → get_or l i d ≡ a
get_or_at [] i a d e = absurd (some-ne-none a (sym e))
get_or_at (x ∷ xs) zero a d e = some-injective x a e
get_or_at (x ∷ xs) (suc i) a d e = get_or_at xs i a d e

module _ {O C A H : Type 0} {g : Ghosts O C A H} (home : O → H) (turn : Turn O C A H) where
  -- the pass at a place is that caller's
  pub pass_at : (passes : List (Pass O C A H g)) (i : ℕ) (p : Pass O C A H g) → AreAllOf home turn passes → i < length passes → p ≡ get_or passes i p → IsPassOf home turn p × (caller_of p ≡ i)
  pass_at passes i p all below is = all.each i p (at_index passes i p below is)

  -- they are all passes still after one made a call
  pub all_with : (passes : List (Pass O C A H g)) (i : ℕ) (p : Pass O C A H g) → AreAllOf home turn passes → IsPassOf home turn p → caller_of p ≡ i → AreAllOf home turn (set passes i p)
  all_with passes i p all of caller_is = record {
    count = length-set passes i p ∙ all.count;
    each = λ j q at. ⊎_elim
        (λ (e : (j ≡ i) × (p ≡ q)). subst (λ (x : Pass O C A H g). IsPassOf home turn x × (caller_of x ≡ j)) e.1 (of, caller_is ∙ sym e.0))
        (λ e. all.each j q e.1)
        (at_set passes i j p q at);
  }

  -- they are all passes still after each made its calls
  pub all_changed : (old new : List (Pass O C A H g)) → AreAllOf home turn old → length new ≡ length old
      → ((i : ℕ) (p : Pass O C A H g) → i < length old → IsPassOf home turn (get_or new i p) × (caller_of (get_or new i p) ≡ caller_of (get_or old i p))) → AreAllOf home turn new
  all_changed old new all as_many changed = record {
    count = as_many ∙ all.count;
    each = λ i q at. let below : i < length old = (let n = at_below new i q at in omega (arith, as_many)) in
        let was = there_is old i below in let now = changed i q below in let is = get_or_at new i q q at in
        (subst (IsPassOf home turn) is now.0, ap (λ (x : Pass O C A H g). caller_of x) (sym is) ∙ (now.1 ∙ (ap (λ (x : Pass O C A H g). caller_of x) (get_or_at old i was.0 q was.1) ∙ (all.each i was.0 was.1).1)));
  }
