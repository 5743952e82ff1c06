use Rattle.std.proofs.Common.{◌∙◌, ◌++◌, ℕ, List, ap, codes, option_map}
use Rattle.gcs_reply.specs.Replies.{line_text, unmet_text}
use Rattle.gcs_reply.proofs.json.push_json_lines.Goals as goal

pub returns : goal.returns
returns c =
    let range = line_text (codes "Content-Range") (option_map unmet_text c.args.unmet) in
    c.in_ok-push_unmet.ensures ∙ ap (λ (text : List ℕ). text ++ range) c.in_ok-push_field.ensures
