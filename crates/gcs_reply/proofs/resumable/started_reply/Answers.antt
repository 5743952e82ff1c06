use Rattle.std.proofs.Common.{◌≡◌, ◌∙◌, ◌++◌, ℕ, List, [], Some, ap, rules}
use Rattle.gcs_http_out.specs.Head.{status_line, length_line, ending_line, line_end}
use Rattle.gcs_reply.specs.Replies.{started_lines, lines_behind}
use Rattle.gcs_reply.proofs.Heads.{alone-written}
use Rattle.gcs_reply.proofs.resumable.started_reply.Goals as goal

pub returns-clause-text : goal.returns-clause-text
returns-clause-text c =
    let end : List ℕ = length_line (Some 0) ++ (ending_line c.args.form.ending ++ line_end) in
    let empty : c.in_ok-head.head.items ≡ [] = search rules in
    let begun = c.in_ok-push_status.ensures ∙ ap (λ (text : List ℕ). text ++ status_line 200) empty in
    c.in_ok-push_end.ensures ∙ ap (λ (text : List ℕ). text ++ end) (c.in_ok-push_location.ensures ∙ ap (lines_behind (started_lines c.args.request.now c.args.upload)) begun)
    ∙ alone-written c.args.form 200 (started_lines c.args.request.now c.args.upload)
