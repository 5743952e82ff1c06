use Rattle.std.proofs.Common.{◌∙◌, ap, sym, ◌∷◌, []}
use Rattle.gcs_meaning.specs.declared.version.Row.{Row}
use Rattle.gcs_versions.specs.Rows.{changed_version, is_version}
use Rattle.gcs_bucket.specs.Alive.{state_of}
use Rattle.gcs_meaning.proofs.Ordered.{same_becomes}
use Rattle.gcs_bucket.proofs.alive.State.replace.Goals as goal

pub returns : goal.returns
returns c =
    ap (λ rows. record (state_of c.args.self.now) { rows = rows })
    (c.change.ensures
    ∙ same_becomes (is_version c.args.name.now c.args.shown.now.generation) (λ row. changed_version c.args.meta c.args.shown.now.retention_start c.args.moment row ∷ []) (λ (had : Row). c.args.shown.now ∷ [])
    c.requires.row c.args.self.now.rows.rows c.requires.found (ap (λ (row : Row). row ∷ []) (sym c.requires.shown_is)))
