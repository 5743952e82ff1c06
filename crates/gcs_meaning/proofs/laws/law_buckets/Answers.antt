use Rattle.gcs_meaning.proofs.Apart.{buckets_stand_apart}
use Rattle.gcs_meaning.proofs.laws.law_buckets.Goals as goal

pub returns : goal.returns
returns c = buckets_stand_apart
