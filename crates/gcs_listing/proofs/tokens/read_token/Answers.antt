use Rattle.std.proofs.Common.{◌≡◌, ◌∙◌, ap, sym, subst, length, IsUtf8}
use Rattle.std.specs.Prelude.{◌&&◌, nat_le, true}
use Rattle.std.proofs.lemmas.Result.{err_from_is_err_and}
use Rattle.gcs_meaning.specs.declared.listing.Unit as unit
use Rattle.gcs_meaning.specs.Order.{unit_at}
use Rattle.gcs_meaning.specs.Tokens.{page_token}
use Rattle.gcs_listing.specs.Tokens.{HasToken}
use Rattle.gcs_listing.proofs.OrderLemmas.{apart}
use Rattle.gcs_listing.proofs.SeekLemmas.{bytes_eq_from}
use Rattle.gcs_listing.proofs.TokenLemmas.{decoded_is, decoded_not, fits_has, has_of, names_none, read_is}
use Rattle.gcs_listing.proofs.UnitLemmas.{bytes_same}
use Rattle.gcs_listing.proofs.tokens.read_token.Goals as goal

pub returns-in_err-bytes-clause-none : goal.returns-in_err-bytes-clause-none
returns-in_err-bytes-clause-none c = λ e.
    let p = err_from_is_err_and c.from_residual.result c.from_residual.ensures.1 in
    decoded_not c.args.token.now (c.in_err-bytes.ensures.none cc)

pub returns-in_default-clause-none : goal.returns-in_default-clause-none
returns-in_default-clause-none c = λ _.
    names_none c.args.token.now
    (λ u own has. c.in_default.ensures.found u.number u.text has.number has.text (c.deref.ensures.value ∙ decoded_is c.args.token.now c.in_ok-bytes.bytes.items u c.in_ok-bytes.ensures.found own has))

pub returns-then-not-fits-clause-none : goal.returns-then-not-fits-clause-none
returns-then-not-fits-clause-none c = λ _.
    names_none c.args.token.now
    (λ u own has.
    let got = c.in-Some.ensures.found u.number u.text has.number has.text (c.deref.ensures.value ∙ decoded_is c.args.token.now c.in_ok-bytes.bytes.items u c.in_ok-bytes.ensures.found own has) in
    apart (ap (λ t. nat_le 1 (length t) && nat_le (length t) 1024) got.1 ∙ fits_has u has) (sym c.if-not-fits.ensures))

pub returns-then-is_same-clause-found : goal.returns-then-is_same-clause-found
returns-then-is_same-clause-found c =
    let made : unit.Unit = unit_at c.in_ok-from_str.field-0 c.in-Some.number in
    let text : c.in_ok-from_str.field-0 ≡ c.in-Some.text.now = c.in_ok-from_str.ensures in
    let size : (nat_le 1 (length c.in-Some.text.now) && nat_le (length c.in-Some.text.now) 1024) ≡ true = sym c.if-not-fits.ensures in
    let has : HasToken made =
    has_of made (ap (λ t. nat_le 1 (length t) && nat_le (length t) 1024) text ∙ size) (subst IsUtf8 (sym text) c.in-Some.ensures.sound.1) c.in-Some.ensures.sound.0 in
    read_is c.args.token.now made has (sym c.in_ok-written.ensures ∙ sym c.as_bytes.ensures ∙ bytes_same c.as_bytes.result.now c.args.token.now (sym c.if-is_same.ensures))

pub returns-clause-none : goal.returns-clause-none
returns-clause-none c = λ _.
    names_none c.args.token.now
    (λ u own has.
    let got = c.in-Some.ensures.found u.number u.text has.number has.text (c.deref.ensures.value ∙ decoded_is c.args.token.now c.in_ok-bytes.bytes.items u c.in_ok-bytes.ensures.found own has) in
    let text : c.in_ok-from_str.field-0 ≡ u.text = c.in_ok-from_str.ensures ∙ got.1 in
    let number : c.in-Some.number ≡ u.number = got.0 in
    let same : unit_at c.in_ok-from_str.field-0 c.in-Some.number ≡ u = λ i. unit_at (text i) (number i) in
    let written : c.as_bytes.result.now ≡ c.args.token.now = c.as_bytes.ensures ∙ c.in_ok-written.ensures ∙ ap page_token same ∙ own in
    apart (bytes_eq_from c.as_bytes.result.now c.args.token.now written) (sym c.if-is_same.ensures))
