use Rattle.gcs_json.proofs.Faults.{first_compose_fault_counts}
use Rattle.gcs_json.proofs.laws.law_first_compose_fault.Goals as goal

pub returns : goal.returns
returns c = first_compose_fault_counts
