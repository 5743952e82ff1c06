use Rattle.std.proofs.Common.{◌≡◌, ◌∙◌, ◌++◌, ℕ, List, [], Some, ap, rules}
use Rattle.gcs_http_out.specs.Head.{status_line, length_line, ending_line, line_end, head_text}
use Rattle.gcs_reply.specs.Replies.{lines_behind, media_lines, standing}
use Rattle.gcs_reply.proofs.Heads.{head-written}
use Rattle.gcs_reply.proofs.media.media_head.Goals as goal

pub returns : goal.returns
returns c =
    let status : ℕ = c.media_status.result in
    let lines = media_lines c.args.row.now c.args.part in
    let end : List ℕ = length_line (Some c.args.size) ++ (ending_line c.args.ending ++ line_end) in
    let empty : c.in_ok-head.head.items ≡ [] = search rules in
    let begun = c.in_ok-push_status.ensures ∙ ap (λ (text : List ℕ). text ++ status_line status) empty in
    c.in_ok-push_end.ensures ∙ ap (λ (text : List ℕ). text ++ end) (c.in_ok-push_media_lines.ensures ∙ ap (lines_behind lines) begun)
    ∙ head-written status lines (Some c.args.size) c.args.ending []
    ∙ ap (λ (s : ℕ). head_text s (standing lines) (Some c.args.size) c.args.ending) c.media_status.ensures.status
