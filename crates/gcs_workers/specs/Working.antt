-- What workers do between two moments of their callers' passes.
use Rattle.std.specs.Prelude.{◌≡◌, List, [], ◌∷◌}
use Rattle.gcs_http_in.specs.declared.limits.Limits.{Limits}
use Rattle.gcs_session.specs.Running.{Grows}
use Rattle.gcs_store.specs.declared.passes.Passes.{Passes}
use Rattle.gcs_store.specs.Passes.{IsPassesOf, caller_of, rows_of}
use Rattle.gcs_store.specs.Store.{StoreValue, mine_in, seen_in}
use Rattle.gcs_workers.specs.Serving.{AreServed, Served}

-- the passes are of the same caller of the store still; what it had seen is a prefix of what it has seen now; and it served
-- connections one after another, each as the headline says, over what it had seen at the end of the one before
pub record HasWorked (limits : Limits) (store : StoreValue) (old new : Passes) : Type 0 where
  pub own : IsPassesOf store new
  pub caller : caller_of new ≡ caller_of old
  pub seen : Grows (seen_in (rows_of old)) (seen_in (rows_of new))
  pub connections : List Served
  pub served : AreServed limits (caller_of old) connections
      (seen_in (rows_of old)) (mine_in (rows_of old)) (seen_in (rows_of new)) (mine_in (rows_of new))

-- each of the callers, in order, has worked
abbrev pub HaveWorked : Limits → StoreValue → List Passes → List Passes → Type 0
HaveWorked limits store [] [] = Unit {0}
HaveWorked limits store (old ∷ olds) (new ∷ news) = HasWorked limits store old new × HaveWorked limits store olds news
HaveWorked limits store olds news = ⊥
