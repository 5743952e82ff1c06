use Rattle.gcs_json.proofs.Readings.{each_compose_field_counts}
use Rattle.gcs_json.proofs.laws.law_compose_fields.Goals as goal

pub returns : goal.returns
returns c = each_compose_field_counts
