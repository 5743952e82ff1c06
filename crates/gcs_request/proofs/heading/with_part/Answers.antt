-- A call that passes its own tests is refused for what its head gives.
use Rattle.std.proofs.Common.{Option, Result, ap₂, inr, subst, sym}
use Rattle.std.specs.Result.{result_err}
use Rattle.std.proofs.lemmas.Result.{IfOk-weaker}
use Rattle.gcs_meaning.specs.declared.reason.Reason.{Reason}
use Rattle.gcs_meaning.specs.Tests.{or_else}
use Rattle.gcs_request.specs.declared.heading.HeadPart.{HeadPart}
use Rattle.gcs_request.specs.Heading.{IsHeading}
use Rattle.gcs_request.proofs.heading.with_part.Goals as goal

pub returns-in-Err-clause-heading : goal.returns-in-Err-clause-heading
returns-in-Err-clause-heading c =
    IfOk-weaker c.refused_by.result _ _
    (λ heading why head read called. subst (IsHeading head) (sym why.2)
    (inr (c.args.call, called, ap₂ (λ (first : Option Reason) (gives : Result HeadPart Reason). or_else first (result_err gives)) c.requires (c.in-Err.ensures.refused why.0 why.1 head read))))
    c.refused_by.ensures
