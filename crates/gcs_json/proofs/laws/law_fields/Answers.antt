use Rattle.gcs_json.proofs.Readings.{each_field_counts}
use Rattle.gcs_json.proofs.laws.law_fields.Goals as goal

pub returns : goal.returns
returns c = each_field_counts
