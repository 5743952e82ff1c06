-- A store that is to be closed.
use Rattle.std.specs.Prelude.{List}
use Rattle.gcs_store.specs.declared.passes.Passes.{Passes}
use Rattle.gcs_store.specs.Store.{StoreValue}

-- the value of such a store: the store, whose turns are all open, and the passes of all its callers
pub record ClosingValue : Type 0 where
  pub store : StoreValue
  pub passes : List Passes
