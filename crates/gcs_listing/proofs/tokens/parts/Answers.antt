use Rattle.std.specs.declared.num.ParseIntError.{ParseIntError}
use Rattle.std.proofs.Common.{◌∙◌, sym, subst, arith, IsUtf8}
use Rattle.gcs_listing.proofs.TokenLemmas.{back_of, colon_there, front_of, not_failed, parsed, spelled_utf8}
use Rattle.gcs_listing.proofs.tokens.parts.Goals as goal

pub returns-in_default-clause-found : goal.returns-in_default-clause-found
returns-in_default-clause-found c = λ n t small is same. c.in_default.ensures.cases.0 (subst IsUtf8 (sym same) (spelled_utf8 n t small is))

pub returns-in_default-split_once-clause-found : goal.returns-in_default-split_once-clause-found
returns-in_default-split_once-clause-found c =
    λ n t small is same. colon_there c.in-Ok.text.now n t small (c.in-Ok.ensures.cases.0 ∙ same) (c.in_default-split_once.ensures.byte (omega arith) (λ w o h. h))

pub returns-in-Ok-parse-clause-found : goal.returns-in-Ok-parse-clause-found
returns-in-Ok-parse-clause-found c =
    λ n t small is same.
    let whole = c.in-Ok.ensures.cases.0 ∙ same in
    let split = c.in-Some.ensures.byte (omega arith) (λ w o h. h) in
    let digits = front_of c.in-Ok.text.now c.in-Some.digits.now n t small whole split.0 in
    (parsed ParseIntError n c.in-Ok-parse.number c.in-Some.digits.now small digits c.in-Ok-parse.ensures.value.0, back_of c.in-Ok.text.now c.in-Some.rest.now n t small whole split.1)

pub returns-in-Err-clause-found : goal.returns-in-Err-clause-found
returns-in-Err-clause-found c =
    λ n t small is same.
    let whole = c.in-Ok.ensures.cases.0 ∙ same in
    let split = c.in-Some.ensures.byte (omega arith) (λ w o h. h) in
    let digits = front_of c.in-Ok.text.now c.in-Some.digits.now n t small whole split.0 in
    not_failed ParseIntError n c.in-Some.digits.now c.in-Err.field-0 small digits c.in-Err.ensures.value.0
