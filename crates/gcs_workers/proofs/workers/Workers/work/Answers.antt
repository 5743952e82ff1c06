-- A worker's passes, lent to a desk and given back.
use Rattle.std.proofs.Common.{◌∙◌, ap}
use Rattle.gcs_store.specs.declared.passes.Passes.{Passes}
use Rattle.gcs_store.specs.Passes.{caller_of, rows_of}
use Rattle.gcs_store.specs.Store.{SharedDeskValue}
use Rattle.gcs_workers.proofs.WorkedLemmas.{worked_at}
use Rattle.gcs_workers.proofs.workers.Workers.work.Goals as goal

pub returns : goal.returns
returns g c =
    let store = c.args.self.now.store.now in
    let desk : Passes → SharedDeskValue = λ p. record { home = store; caller = caller_of p; rows = rows_of p } in
    worked_at c.args.self.now.limits.now store c.args.passes.now c.leave.result c.desk-desk.result c.serve.new.desk
    (c.desk-desk.ensures ∙ ap desk c.replace-own.ensures.value) c.serve.ensures.home c.serve.ensures.caller c.serve.ensures.seen c.serve.ensures.served
    c.leave.ensures.own c.leave.ensures.caller c.leave.ensures.rows
