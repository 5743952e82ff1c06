use Rattle.std.proofs.Common.{◌≡◌, ◌∙◌, ◌++◌, ℕ, List, [], None, ap, rules}
use Rattle.gcs_http_out.specs.Head.{status_line, length_line, ending_line, line_end}
use Rattle.gcs_reply.proofs.Heads.{head-written}
use Rattle.gcs_reply.proofs.writing.bare_reply.Goals as goal

pub returns-clause-text : goal.returns-clause-text
returns-clause-text c =
    let status : ℕ = c.args.status in
    let ending = c.args.form.ending in
    let end : List ℕ = length_line None ++ (ending_line ending ++ line_end) in
    let empty : c.in_ok-head.head.items ≡ [] = search rules in
    let begun = c.in_ok-push_status.ensures ∙ ap (λ (text : List ℕ). text ++ status_line status) empty in
    c.in_ok-push_end.ensures ∙ ap (λ (text : List ℕ). text ++ end) begun ∙ head-written status [] None ending []
