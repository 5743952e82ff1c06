use Rattle.std.proofs.Common.{◌≡◌, ◌∙◌, ℕ, List, ap, string_bytes, subst, sym}
use Rattle.json.specs.Lex.{tokens}
use Rattle.json.specs.Token.{Token, key}
use Rattle.json.specs.Tree.{json_tokens}
use Rattle.serde_json.specs.View.{view}
use Rattle.serde_json.specs.Written.{outline}
use Rattle.serde_json.proofs.Texts.{tokens_from_order}
use Rattle.gcs_render.specs.Shown.{AreGood, in_text, show_where, with_token, with_tokens}
use Rattle.gcs_render.specs.Writing.{sent}
use Rattle.gcs_render.proofs.Tokens.{text-good}
use Rattle.gcs_render.proofs.writing.FieldWriter.value.Goals as goal

pub copy_tokens-requires : goal.copy_tokens-requires
copy_tokens-requires c =
    subst (λ (s : List ℕ). AreGood (tokens s)) (sym c.as_str.ensures.value) (text-good (string_bytes c.in_ok-text.text) (view c.args.value.now) c.in_ok-text.ensures.order c.requires)

-- the tokens of its text are those of the value
pub returns : goal.returns
unfolding show_where
returns c =
    let shown = view c.args.value.now in
    let same : tokens c.as_str.result.now ≡ json_tokens (outline shown) =
    ap tokens c.as_str.ensures.value ∙ tokens_from_order (string_bytes c.in_ok-text.text) shown c.in_ok-text.ensures.order c.requires in
    ap in_text
    (c.in_ok-copy_tokens.ensures ∙ ap (with_tokens (tokens c.as_str.result.now)) c.in_ok-key.ensures
    ∙ ap (λ (ts : List Token). with_tokens ts (with_token (key c.args.key.now) (sent c.args.self.now))) same)
