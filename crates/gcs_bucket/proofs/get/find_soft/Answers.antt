use Rattle.std.proofs.Common.{◌∙◌, ap, sym, Some, None}
use Rattle.std.specs.Prelude.{not, ◌&&◌, if◌then◌else◌}
use Rattle.gcs_meaning.specs.declared.version.Row.{Row}
use Rattle.gcs_meaning.specs.Aging.{kind_stays}
use Rattle.gcs_meaning.specs.Choosing.{is_readable}
use Rattle.gcs_versions.proofs.Choices.{soft_aged}
use Rattle.gcs_versions.proofs.Finding.{first_if}
use Rattle.gcs_bucket.proofs.get.find_soft.Goals as goal

pub returns-in_err-row-clause-found : goal.returns-in_err-row-clause-found
returns-in_err-row-clause-found g c =
    rw c.from_residual.ensures
    (sym (soft_aged c.args.moment c.args.name.now c.args.generation c.args.rows.now.rows c.known.ensures.rise
    ∙ ap (first_if (λ (row : Row). kind_stays c.args.moment row.kind && not (is_readable row.kind))) (sym c.in_err-row.ensures.found)))

pub returns-then-is_soft_at-clause-found : goal.returns-then-is_soft_at-clause-found
returns-then-is_soft_at-clause-found g c =
    sym (soft_aged c.args.moment c.args.name.now c.args.generation c.args.rows.now.rows c.known.ensures.rise
    ∙ ap (first_if (λ (row : Row). kind_stays c.args.moment row.kind && not (is_readable row.kind))) (sym c.in_ok-row.ensures.found)
    ∙ ap (λ t. if t then Some c.in_ok-row.row.now else None) (sym c.if-is_soft_at.ensures))

pub returns-else-is_soft_at-clause-found : goal.returns-else-is_soft_at-clause-found
returns-else-is_soft_at-clause-found g c =
    sym (soft_aged c.args.moment c.args.name.now c.args.generation c.args.rows.now.rows c.known.ensures.rise
    ∙ ap (first_if (λ (row : Row). kind_stays c.args.moment row.kind && not (is_readable row.kind))) (sym c.in_ok-row.ensures.found)
    ∙ ap (λ t. if t then Some c.in_ok-row.row.now else None) (sym c.if-is_soft_at.ensures))
