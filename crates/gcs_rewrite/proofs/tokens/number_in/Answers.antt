use Rattle.std.specs.declared.num.ParseIntError.{ParseIntError}
use Rattle.std.proofs.Common.{◌∙◌, sym, subst, decimal, IsUtf8}
use Rattle.std.specs.Prelude.{Ok}
use Rattle.std.proofs.lemmas.Fmt.{IsAscii-decimal}
use Rattle.std.proofs.lemmas.Str.{IsUtf8-from_ascii}
use Rattle.gcs_listing.proofs.TokenLemmas.{not_failed, parsed}
use Rattle.gcs_rewrite.proofs.tokens.number_in.Goals as goal

pub returns-in_default : goal.returns-in_default
returns-in_default c = λ n small is. absurd (c.in_default.ensures.cases.0 (subst IsUtf8 (sym is) (IsUtf8-from_ascii (decimal n) (IsAscii-decimal n small))))

pub returns-in-Ok-parse : goal.returns-in-Ok-parse
returns-in-Ok-parse c = λ n small is.
    let number = parsed ParseIntError n c.in-Ok-parse.number c.in-Ok.text.now small (c.in-Ok.ensures.cases.0 ∙ is) c.in-Ok-parse.ensures.value.0 in
    λ i. Ok (number i)

pub returns-in-Err : goal.returns-in-Err
returns-in-Err c = λ n small is. not_failed ParseIntError n c.in-Ok.text.now c.in-Err.field-0 small (c.in-Ok.ensures.cases.0 ∙ is) c.in-Err.ensures.value.0
