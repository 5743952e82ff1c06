-- Callers who have worked, and work on.
use Rattle.std.proofs.Common.{◌≡◌, ℕ, zero, suc, List, [], ◌∷◌, ◌++◌, length, refl, ap, sym, subst, ◌∙◌}
use mathlib.Core.Option.{some}
use lib.ListN.{get_elem?}
use Rattle.gcs_http_in.specs.declared.limits.Limits.{Limits}
use Rattle.gcs_session.specs.Running.{Grows}
use Rattle.gcs_session.proofs.Steps.{grows_same, grows_trans}
use Rattle.gcs_store.specs.declared.passes.Passes.{Passes}
use Rattle.gcs_store.specs.Passes.{AreAllPassesOf, IsPassesOf, caller_of, rows_of}
use Rattle.gcs_store.specs.Store.{Row, SharedDeskValue, StoreValue, mine_in, seen_in}
use Rattle.gcs_workers.specs.Serving.{AreServed, Served}
use Rattle.gcs_workers.specs.Working.{HasWorked, HaveWorked}
use Rattle.gcs_workers.proofs.ServingLemmas.{served-append}

module _ (limits : Limits) (store : StoreValue) where
  -- a caller who had a desk of the store, and gave it back
  pub worked_at : (old new : Passes) (a b : SharedDeskValue) → a ≡ record { home = store; caller = caller_of old; rows = rows_of old }
      → b.home ≡ a.home → b.caller ≡ a.caller → Grows (seen_in a.rows) (seen_in b.rows)
      → (connections : List Served) × AreServed limits a.caller connections (seen_in a.rows) (mine_in a.rows) (seen_in b.rows) (mine_in b.rows)
      → IsPassesOf b.home new → caller_of new ≡ b.caller → rows_of new ≡ b.rows → HasWorked limits store old new
  worked_at old new a b start home caller seen served own callers rows =
      let begun : AreServed limits (caller_of old) served.0 (seen_in (rows_of old)) (mine_in (rows_of old)) (seen_in b.rows) (mine_in b.rows) =
      subst (λ (x : SharedDeskValue). AreServed limits x.caller served.0 (seen_in x.rows) (mine_in x.rows) (seen_in b.rows) (mine_in b.rows)) start served.1 in
      let grows : Grows (seen_in (rows_of old)) (seen_in b.rows) = subst (λ (x : SharedDeskValue). Grows (seen_in x.rows) (seen_in b.rows)) start seen in
      record {
        own = subst (λ (s : StoreValue). IsPassesOf s new) (home ∙ ap (λ (x : SharedDeskValue). x.home) start) own;
        caller = callers ∙ (caller ∙ ap (λ (x : SharedDeskValue). x.caller) start);
        seen = subst (λ (r : List Row). Grows (seen_in (rows_of old)) (seen_in r)) (sym rows) grows;
        connections = served.0;
        served = subst (λ (r : List Row). AreServed limits (caller_of old) served.0 (seen_in (rows_of old)) (mine_in (rows_of old)) (seen_in r) (mine_in r)) (sym rows) begun;
      }

  -- a caller who has served nobody
  pub worked_none : (p : Passes) → IsPassesOf store p → HasWorked limits store p p
  worked_none p own = record {
    own = own;
    caller = refl;
    seen = grows_same (seen_in (rows_of p)) (seen_in (rows_of p)) (λ s. refl);
    connections = [];
    served = (refl, refl);
  }

  -- a caller who worked and then worked on
  pub worked_on : (a b c : Passes) → HasWorked limits store a b → HasWorked limits store b c → HasWorked limits store a c
  worked_on a b c x y =
      let P : ℕ → Type 0 = λ n. AreServed limits n y.connections (seen_in (rows_of b)) (mine_in (rows_of b)) (seen_in (rows_of c)) (mine_in (rows_of c)) in
      record {
        own = y.own;
        caller = y.caller ∙ x.caller;
        seen = grows_trans (seen_in (rows_of a)) (seen_in (rows_of b)) (seen_in (rows_of c)) x.seen y.seen;
        connections = x.connections ++ y.connections;
        served = served-append limits (caller_of a) x.connections y.connections (seen_in (rows_of a)) (mine_in (rows_of a)) (seen_in (rows_of b)) (mine_in (rows_of b)) (seen_in (rows_of c)) (mine_in (rows_of c))
            x.served (subst P x.caller y.served);
      }

  pub all_none : (ps : List Passes) → ((i : ℕ) (p : Passes) → get_elem? ps i ≡ some p → IsPassesOf store p) → HaveWorked limits store ps ps
  all_none [] own = tt
  all_none (p ∷ ps) own = (worked_none p (own 0 p refl), all_none ps (λ i q at. own (suc i) q at))

  pub all_on : (olds bs cs : List Passes) → HaveWorked limits store olds bs → HaveWorked limits store bs cs → HaveWorked limits store olds cs
  all_on [] [] [] x y = tt
  all_on [] [] (c ∷ cs) x y = absurd y
  all_on [] (b ∷ bs) cs x y = absurd x
  all_on (a ∷ olds) [] cs x y = absurd x
  all_on (a ∷ olds) (b ∷ bs) [] x y = absurd y
  all_on (a ∷ olds) (b ∷ bs) (c ∷ cs) x y = (worked_on a b c x.0 y.0, all_on olds bs cs x.1 y.1)

  -- all but the last, and the last
  pub worked_append : (olds bs : List Passes) (a b : Passes) → HaveWorked limits store olds bs → HasWorked limits store a b → HaveWorked limits store (olds ++ a ∷ []) (bs ++ b ∷ [])
  worked_append [] [] a b x y = (y, tt)
  worked_append [] (c ∷ cs) a b x y = absurd x
  worked_append (c ∷ cs) [] a b x y = absurd x
  worked_append (c ∷ cs) (d ∷ ds) a b x y = (x.0, worked_append cs ds a b x.1 y)

  pub as_many : (olds bs : List Passes) → HaveWorked limits store olds bs → length bs ≡ length olds
  as_many [] [] x = refl
  as_many [] (b ∷ bs) x = absurd x
  as_many (a ∷ olds) [] x = absurd x
  as_many (a ∷ olds) (b ∷ bs) x = ap suc (as_many olds bs x.1)

  -- the caller who stands at a place now stood there before
  pub was_there : (olds bs : List Passes) (i : ℕ) (b : Passes) → HaveWorked limits store olds bs → get_elem? bs i ≡ some b → (a : Passes) × (get_elem? olds i ≡ some a) × HasWorked limits store a b
  was_there [] [] i b x at = absurd (cc)
  was_there [] (c ∷ cs) i b x at = absurd x
  was_there (a ∷ olds) [] i b x at = absurd x
  was_there (a ∷ olds) (c ∷ cs) zero b x at = (a, refl, subst (HasWorked limits store a) (some-injective c b at) x.0)
    where
      some-injective : (u v : Passes) → some u ≡ some v → u ≡ v
      some-injective u v e = cc
  was_there (a ∷ olds) (c ∷ cs) (suc i) b x at = was_there olds cs i b x.1 at

  pub worked_own : (olds bs : List Passes) → HaveWorked limits store olds bs → (i : ℕ) (b : Passes) → get_elem? bs i ≡ some b → IsPassesOf store b
  worked_own olds bs x i b at = (was_there olds bs i b x at).2.own

  pub worked_all : (olds bs : List Passes) → HaveWorked limits store olds bs → AreAllPassesOf store olds → AreAllPassesOf store bs
  worked_all olds bs x are = record {
    count = as_many olds bs x ∙ are.count;
    each = λ i b at. let was = was_there olds bs i b x at in (was.2.own, was.2.caller ∙ (are.each i was.0 was.1).1);
  }
