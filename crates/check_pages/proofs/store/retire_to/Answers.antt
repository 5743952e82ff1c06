use Rattle.std.proofs.Common.{◌∙◌, ap, sym, Some, None}
use Rattle.std.specs.Prelude.{if◌then◌else◌}
use Rattle.gcs_meaning.specs.declared.version.Row.{Row}
use Rattle.gcs_meaning.specs.Choosing.{is_readable}
use Rattle.gcs_versions.proofs.Choices.{chosen_version}
use Rattle.gcs_versions.proofs.Finding.{first_if}
use Rattle.check_pages.proofs.store.retire_to.Goals as goal

pub retire-requires-clause-there : goal.retire-requires-clause-there
retire-requires-clause-there g c =
    let is = chosen_version c.args.name.now c.args.generation _ c.known.ensures.rise
    ∙ ap (first_if (λ (row : Row). is_readable row.kind)) (sym c.in-Some.ensures.found)
    ∙ ap (λ t. if t then Some c.in-Some.row.now else None) (sym c.if-is_readable.ensures) in
    λ none. absurd (cc)
