use Rattle.gcs_json.proofs.Readings.{each_object_field_counts}
use Rattle.gcs_json.proofs.laws.law_object_fields.Goals as goal

pub returns : goal.returns
returns c = each_object_field_counts
