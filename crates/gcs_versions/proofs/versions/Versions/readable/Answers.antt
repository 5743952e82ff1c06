use Rattle.std.proofs.Common.{◌∙◌, ap, sym, Some, None}
use Rattle.std.specs.Prelude.{if◌then◌else◌}
use Rattle.gcs_meaning.specs.declared.version.Row.{Row}
use Rattle.gcs_meaning.specs.Choosing.{is_readable}
use Rattle.gcs_versions.proofs.Choices.{chosen_version}
use Rattle.gcs_versions.proofs.Finding.{first_if}
use Rattle.gcs_versions.proofs.versions.Versions.readable.Goals as goal

pub returns-in_err-row-clause-found : goal.returns-in_err-row-clause-found
returns-in_err-row-clause-found g c =
    rw c.from_residual.ensures
    (sym (chosen_version c.args.name.now c.args.generation c.args.self.now.rows c.known.ensures.rise ∙ ap (first_if (λ (row : Row). is_readable row.kind)) (sym c.in_err-row.ensures.found)))

pub returns-then-is_readable-clause-found : goal.returns-then-is_readable-clause-found
returns-then-is_readable-clause-found g c =
    sym (chosen_version c.args.name.now c.args.generation c.args.self.now.rows c.known.ensures.rise
    ∙ ap (first_if (λ (row : Row). is_readable row.kind)) (sym c.in_ok-row.ensures.found)
    ∙ ap (λ t. if t then Some c.in_ok-row.row.now else None) (sym c.if-is_readable.ensures))

pub returns-else-is_readable-clause-found : goal.returns-else-is_readable-clause-found
returns-else-is_readable-clause-found g c =
    sym (chosen_version c.args.name.now c.args.generation c.args.self.now.rows c.known.ensures.rise
    ∙ ap (first_if (λ (row : Row). is_readable row.kind)) (sym c.in_ok-row.ensures.found)
    ∙ ap (λ t. if t then Some c.in_ok-row.row.now else None) (sym c.if-is_readable.ensures))
