use Rattle.std.proofs.Common.{◌≡◌, Option, Some, None, ap, ap₂, refl, ◌∙◌}
use Rattle.std.specs.Option.{option_or}
use Rattle.gcs_meaning.specs.declared.reason.Reason.{Reason}
use Rattle.gcs_meaning.specs.Tests.{or_else}
use Rattle.gcs_request.specs.HeadTests.{token_refusal}
use Rattle.gcs_request.proofs.head_tests.head_refusal.Goals as goal

or_is : (first second : Option Reason) → option_or first second ≡ or_else first second
or_is None second = refl
or_is (Some reason) second = refl

pub returns : goal.returns
returns c =
    let token = c.in_ok-token.ensures ∙ ap (λ kind. token_refusal kind c.args.call.now) c.kind.ensures in
    let later = c.or-later.ensures ∙ or_is c.in_ok-token.token c.mask_refusal.result ∙ ap₂ or_else token c.mask_refusal.ensures in
    c.or.ensures ∙ or_is c.name_refusal.result c.or-later.result ∙ ap₂ or_else c.name_refusal.ensures later
