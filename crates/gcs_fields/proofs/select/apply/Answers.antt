use Rattle.serde_json.specs.View.{view}
use Rattle.gcs_fields.specs.Rests.{rests_of}
use Rattle.gcs_fields.proofs.Floats.{left_whole}
use Rattle.gcs_fields.proofs.select.apply.Goals as goal

pub returns-clause-whole : goal.returns-clause-whole
returns-clause-whole c = left_whole (rests_of c.deref.result.now) (view c.args.value) c.in_ok-kept.kept c.unwrap_or.result c.unwrap_or.ensures c.in_ok-kept.ensures
