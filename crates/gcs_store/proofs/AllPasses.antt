-- The passes of all callers of a store, one of them changed, or each of them.
use Rattle.std.proofs.Common.{◌≡◌, ℕ, ◌<◌, List, length, get_or, set, sym, ap, ◌∙◌, subst, ⊎_elim, arith, length-set}
use mathlib.Core.Option.{some}
use lib.ListN.{get_elem?}
use Rattle.atomic_table.proofs.Lists.{at_index, at_set}
use Rattle.gcs_turn.proofs.Histories.{at_below, there_is}
use Rattle.gcs_store.specs.declared.passes.Passes.{Passes}
use Rattle.gcs_store.specs.Passes.{AreAllPassesOf, IsPassesOf, caller_of}
use Rattle.gcs_store.specs.Store.{StoreValue}
use Rattle.gcs_store.proofs.Calls.{get_or_at}

module _ (store : StoreValue) where
  -- the passes at a place are that caller's
  pub passes_at : (all : List Passes) (i : ℕ) (p : Passes) → AreAllPassesOf store all → i < length all → p ≡ get_or all i p → IsPassesOf store p × (caller_of p ≡ i)
  passes_at all i p are below is = are.each i p (at_index all i p below is)

  -- they are those of all callers still after one called
  pub all_with : (all : List Passes) (i : ℕ) (p : Passes) → AreAllPassesOf store all → IsPassesOf store p → caller_of p ≡ i → AreAllPassesOf store (set all i p)
  all_with all i p are of caller_is = record {
    count = length-set all i p ∙ are.count;
    each = λ j q at. ⊎_elim
        (λ (e : (j ≡ i) × (p ≡ q)). subst (λ (x : Passes). IsPassesOf store x × (caller_of x ≡ j)) e.1 (of, caller_is ∙ sym e.0))
        (λ e. are.each j q e.1)
        (at_set all i j p q at);
  }

  -- they are those of all callers still after each called
  pub all_changed : (old new : List Passes) → AreAllPassesOf store old → length new ≡ length old
      → ((i : ℕ) (p : Passes) → i < length old → IsPassesOf store (get_or new i p) × (caller_of (get_or new i p) ≡ caller_of (get_or old i p))) → AreAllPassesOf store new
  all_changed old new are as_many changed = record {
    count = as_many ∙ are.count;
    each = λ i q at. let below : i < length old = (let n = at_below new i q at in omega (arith, as_many)) in
        let was = there_is old i below in let now = changed i q below in let is = get_or_at new i q q at in
        (subst (IsPassesOf store) is now.0, ap (λ (x : Passes). caller_of x) (sym is) ∙ (now.1 ∙ (ap (λ (x : Passes). caller_of x) (get_or_at old i was.0 q was.1) ∙ (are.each i was.0 was.1).1)));
  }
