use Rattle.std.proofs.Common.{◌≡◌, ◌∙◌, ap, sym, map}
use Rattle.std.proofs.lemmas.Result.{err_from_is_err_and}
use Rattle.gcs_listing.proofs.OrderLemmas.{apart}
use Rattle.gcs_listing.proofs.SeekLemmas.{bytes_eq_from}
use Rattle.gcs_listing.proofs.UnitLemmas.{bytes_same}
use Rattle.gcs_rewrite.specs.Tokens.{lines_of, rewrite_token}
use Rattle.gcs_rewrite.proofs.RewriteTokens.{decoded_not, lines_are, read_is, tells_none}
use Rattle.gcs_rewrite.proofs.tokens.read_rewrite.Goals as goal

pub returns-in_err-bytes-clause-none : goal.returns-in_err-bytes-clause-none
returns-in_err-bytes-clause-none c = λ e.
    let p = err_from_is_err_and c.from_residual.result c.from_residual.ensures.1 in
    decoded_not c.args.text.now (c.in_err-bytes.ensures.none cc)

pub returns-in_err-token-clause-none : goal.returns-in_err-token-clause-none
returns-in_err-token-clause-none c = λ e.
    let p = err_from_is_err_and c.from_residual-in_err-token.result c.from_residual-in_err-token.ensures.1 in
    tells_none c.args.text.now
    (λ k own has. c.in_err-token.ensures.none (cc) k has
    (ap (map (λ line. line.now)) c.deref-2.ensures.value ∙ c.in_ok-lines.ensures ∙ ap lines_of c.deref.ensures.value
    ∙ lines_are c.args.text.now c.in_ok-bytes.bytes.items k c.in_ok-bytes.ensures.found own has))

pub returns-then-is_same-clause-found : goal.returns-then-is_same-clause-found
returns-then-is_same-clause-found c =
    read_is c.args.text.now c.in_ok-token.token c.in_ok-token.ensures.right
    (sym c.in_ok-written.ensures ∙ sym c.as_bytes.ensures ∙ bytes_same c.as_bytes.result.now c.args.text.now (sym c.if-is_same.ensures))

pub returns-clause-none : goal.returns-clause-none
returns-clause-none c = λ _.
    tells_none c.args.text.now
    (λ k own has.
    let same : c.in_ok-token.token ≡ k = c.in_ok-token.ensures.same k has
    (ap (map (λ line. line.now)) c.deref-2.ensures.value ∙ c.in_ok-lines.ensures ∙ ap lines_of c.deref.ensures.value
    ∙ lines_are c.args.text.now c.in_ok-bytes.bytes.items k c.in_ok-bytes.ensures.found own has) in
    let written : c.as_bytes.result.now ≡ c.args.text.now = c.as_bytes.ensures ∙ c.in_ok-written.ensures ∙ ap rewrite_token same ∙ own in
    apart (bytes_eq_from c.as_bytes.result.now c.args.text.now written) (sym c.if-is_same.ensures))
