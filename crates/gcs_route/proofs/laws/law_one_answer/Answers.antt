use Rattle.gcs_route.proofs.OneCall.{one_call, no_fault}
use Rattle.gcs_route.proofs.OneReason.{one_reason}
use Rattle.gcs_route.proofs.laws.law_one_answer.Goals as goal

pub returns-clause-call : goal.returns-clause-call
returns-clause-call c = one_call

pub returns-clause-reason : goal.returns-clause-reason
returns-clause-reason c = one_reason

pub returns-clause-either : goal.returns-clause-either
returns-clause-either c = no_fault
