-- The call that was read is that of the head.
use Rattle.std.proofs.Common.{◌≡◌, ap₂, subst, ◌∙◌}
use Rattle.std.proofs.lemmas.Result.{IfOk-weaker}
use Rattle.gcs_http_in.specs.Head.{Head}
use Rattle.gcs_route.specs.Calls.{IsCall}
use Rattle.gcs_request.specs.Heading.{IsCallOf}
use Rattle.gcs_request.specs.Heads.{IsReadOf, method_by, method_of}
use Rattle.gcs_request.proofs.heading.read_head.Goals as goal

pub returns-in-Ok-clause-heading : goal.returns-in-Ok-clause-heading
returns-in-Ok-clause-heading c =
    let method = c.method_by-method.result.now in
    let call = c.in-Ok.call in
    let called : (head : Head) → IsReadOf head c.args.fields.now → IsCallOf head call = λ head read.
    let same : method ≡ method_of head = c.method_by-method.ensures ∙ ap₂ method_by read.method read.method_override in
    subst (λ m. IsCall m head.target call) same (subst (λ t. IsCall method t call) read.target c.in-Ok.ensures.call) in
    IfOk-weaker c.heading_of.result _ _ (λ heading asks head read. asks head read (called head read)) c.heading_of.ensures.heading
