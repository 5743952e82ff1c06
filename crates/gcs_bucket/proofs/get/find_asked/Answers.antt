use Rattle.std.proofs.Common.{◌∙◌, sym}
use Rattle.gcs_meaning.proofs.Chosen.{chosen_row-aged}
use Rattle.gcs_meaning.specs.Aging.{aged_rows}
use Rattle.gcs_bucket.proofs.Removed.{none_asked}
use Rattle.gcs_bucket.proofs.get.find_asked.Goals as goal

pub returns-else-soft-clause-found : goal.returns-else-soft-clause-found
returns-else-soft-clause-found g c =
    rw c.if-soft.false (c.chosen.ensures.found ∙ sym (chosen_row-aged c.args.moment c.args.name.now c.args.generation c.args.rows.now.rows))

pub returns-in-None-clause-found : goal.returns-in-None-clause-found
returns-in-None-clause-found g c = rw (c.if-soft.true, c.in-None.is) (sym (none_asked c.args.name.now (aged_rows c.args.moment c.args.rows.now.rows)))
