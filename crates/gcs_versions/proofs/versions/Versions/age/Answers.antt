use Rattle.std.proofs.Common.{◌∙◌, sym}
use Rattle.gcs_versions.proofs.Due.{aged_still}
use Rattle.gcs_versions.proofs.versions.Versions.age.Goals as goal

pub returns-clause-rows : goal.returns-clause-rows
returns-clause-rows c =
    sym (aged_still c.args.moment c.loop-self.self.rows (sym c.has_due.ensures ∙ c.loop-self-test.false)) ∙ c.loop-self.invariant.rows
