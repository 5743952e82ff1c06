use Rattle.std.proofs.Common.{◌≡◌, ◌∙◌, rules, sym, subst}
use Rattle.gcs_bucket.specs.Alive.{state_of}
use Rattle.gcs_bucket.specs.Slot.{value_of}
use Rattle.gcs_meaning.specs.declared.command.Answer.TheVariants.{Bucket as Shown}
use Rattle.gcs_meaning.specs.Aging.{aged}
use Rattle.gcs_meaning.specs.Insertion.{insert_step}
use Rattle.gcs_bucket.proofs.Inserted.{alive_some, inserted, with_made}
use Rattle.gcs_bucket.proofs.slot.Slot.insert.Goals as goal

pub returns-clause-done : goal.returns-clause-done
returns-clause-done c =
    subst (λ t. insert_step (aged (value_of c.args.self.now) t) t c.args.bucket.now c.args.settings.now ≡ (Shown c.in_ok-row.row, with_made (value_of c.age-2.new.self) (state_of c.in_ok-state.state) c.max-generation.result)) c.effective-moment.ensures
    (inserted (value_of c.args.self.now) c.effective-moment.result c.args.bucket.now c.args.settings.now c.max-generation.result (state_of c.in_ok-state.state) c.in_ok-row.row
    (value_of c.age-2.new.self) (alive_some c.args.self.now.alive ∙ sym c.if-is_some.ensures) (search rules) c.in_ok-state.ensures c.in_ok-row.ensures c.age-2.ensures.value)
