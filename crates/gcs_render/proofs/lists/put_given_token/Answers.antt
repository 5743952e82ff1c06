use Rattle.std.proofs.Common.{◌∙◌, ℕ, List, ap, codes}
use Rattle.gcs_render.specs.Fields.{text}
use Rattle.gcs_render.specs.Shown.{show_where}
use Rattle.gcs_render.proofs.lists.put_given_token.Goals as goal

pub returns-in_ok-text : goal.returns-in_ok-text
returns-in_ok-text g c =
    let before = g.S.FieldSink.shown c.args.fields.now in
    rw c.in-Some.is (c.in_ok-text.ensures ∙ ap (λ (token : List ℕ). show_where (codes "nextPageToken") (text token) before) c.as_str.ensures)
