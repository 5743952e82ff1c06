use Rattle.std.proofs.Common.{◌≡◌, ◌∙◌, ap, sym, subst, Err}
use Rattle.std.proofs.lemmas.Result.{err_from_is_err_and}
use Rattle.base64.specs.Engines.{url_safe_no_pad}
use Rattle.base64.specs.GeneralPurpose.{encode_of}
use Rattle.gcs_names.specs.Name.{IsBucketName}
use Rattle.gcs_listing.proofs.TokenLemmas.{bucket_is, bucket_no_name, bucket_not}
use Rattle.gcs_listing.proofs.tokens.read_bucket_token.Goals as goal

pub returns-in_err-bytes-clause-none : goal.returns-in_err-bytes-clause-none
returns-in_err-bytes-clause-none c = λ e.
    let p = err_from_is_err_and c.from_residual.result c.from_residual.ensures.1 in
    bucket_not c.args.token.now (c.in_err-bytes.ensures.none cc)

pub returns-in-Ok-clause-found : goal.returns-in-Ok-clause-found
returns-in-Ok-clause-found c =
    let name : c.in-Ok.name ≡ c.in_ok-bytes.bytes.items = c.in-Ok.ensures.name ∙ c.deref.ensures.value in
    bucket_is c.args.token.now c.in-Ok.name (subst IsBucketName (sym c.in-Ok.ensures.name) c.in-Ok.ensures.rule) (ap (encode_of url_safe_no_pad) name ∙ sym c.in_ok-bytes.ensures.exact)

pub returns-in-Err-Form-clause-none : goal.returns-in-Err-Form-clause-none
returns-in-Err-Form-clause-none c = λ _.
    bucket_no_name c.args.token.now c.in_ok-bytes.bytes.items c.in_ok-bytes.ensures.found
    (λ is. c.in-Err-Form.ensures.form (ap Err c.in-Err-Form.field-0-is) (subst IsBucketName (sym c.deref.ensures.value) is))
