use Rattle.std.proofs.Common.{◌∙◌, ◌++◌, ℕ, List, ap, codes, length, option_map}
use Rattle.gcs_http_out.specs.Head.{field_line}
use Rattle.gcs_meaning.specs.Content.{bytes_in}
use Rattle.gcs_reply.specs.Replies.{line_text, part_text}
use Rattle.gcs_reply.proofs.media.push_content.Goals as goal

pub returns : goal.returns
returns c =
    let old : List ℕ = c.args.head.now.items in
    let part = line_text (codes "Content-Range") (option_map (part_text (length (bytes_in c.args.row.now.hashed))) c.args.part) in
    c.in_ok-push_part.ensures
    ∙ ap (λ (text : List ℕ). text ++ part) (c.in_ok-push_field.ensures ∙ ap (λ (value : List ℕ). old ++ field_line (codes "Content-Type", value)) c.as_str.ensures)
