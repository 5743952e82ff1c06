use Rattle.gcs_json.proofs.Faults.{first_fault_counts}
use Rattle.gcs_json.proofs.laws.law_first_fault.Goals as goal

pub returns : goal.returns
returns c = first_fault_counts
