use Rattle.std.proofs.Common.{◌≡◌, ◌∙◌, ◌++◌, ℕ, List, [], ap, rules}
use Rattle.serde_json.specs.Data.{Data}
use Rattle.serde_json.specs.Written.{compact_text}
use Rattle.gcs_meaning.specs.Refusals.{message_of, status_of}
use Rattle.gcs_render.specs.Refusals.{error_of, error_data}
use Rattle.gcs_render.specs.Shown.{with_value}
use Rattle.gcs_render.specs.Writing.{sent}
use Rattle.gcs_render.proofs.Written.{text-written}
use Rattle.gcs_render.proofs.refusal.error_text.Goals as goal

pub returns : goal.returns
returns c =
    let code = c.status.result in
    let message = c.as_str.result.now in
    let word = c.word.result.now in
    let value = error_of code message word in
    let start : sent c.new-fields.result ≡ (c.args.text.items, []) = search rules in
    let reason = c.args.reason.now in
    let same : value ≡ error_data reason =
    ap (λ (n : ℕ). error_of n message word) c.status.ensures ∙ ap (λ (m : List ℕ). error_of (status_of reason) m word) (c.as_str.ensures ∙ c.in_ok-message.ensures)
    ∙ ap (λ (w : List ℕ). error_of (status_of reason) (message_of reason) w) c.word.ensures in
    text-written value c.args.text.items c.into_text.result.items (sent c.write_error.new.fields) (c.in_ok-write_error.ensures ∙ ap (with_value value) start) c.into_text.ensures
    ∙ ap (λ (d : Data). c.args.text.items ++ compact_text d) same
