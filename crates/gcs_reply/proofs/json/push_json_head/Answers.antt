use Rattle.std.proofs.Common.{◌∙◌, ◌++◌, ℕ, List, Some, ap}
use Rattle.gcs_http_out.specs.Head.{length_line, ending_line, line_end}
use Rattle.gcs_reply.specs.Replies.{json_lines, lines_behind}
use Rattle.gcs_reply.proofs.Heads.{head-written}
use Rattle.gcs_reply.proofs.json.push_json_head.Goals as goal

pub returns : goal.returns
returns c =
    let lines = json_lines c.args.unmet in
    let end : List ℕ = length_line (Some c.args.size) ++ (ending_line c.args.ending ++ line_end) in
    c.in_ok-push_end.ensures ∙ ap (λ (text : List ℕ). text ++ end) (c.in_ok-push_json_lines.ensures ∙ ap (lines_behind lines) c.in_ok-push_status.ensures)
    ∙ head-written c.args.status lines (Some c.args.size) c.args.ending c.args.text.now.items
