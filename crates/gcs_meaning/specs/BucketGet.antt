-- The read of a bucket (Cloud Storage JSON API, "Buckets: get").
use Rattle.std.specs.Prelude.{ℕ, List}
use Rattle.gcs_meaning.specs.declared.settings.Pre.{Pre}
use Rattle.gcs_meaning.specs.declared.command.Answer.{Answer}
use Rattle.gcs_meaning.specs.declared.command.Answer.TheVariants.{Bucket}
use Rattle.gcs_meaning.specs.Slot.{Slot, bucket_row}
use Rattle.gcs_meaning.specs.Policy.{bucket_pre_refusal}
use Rattle.gcs_meaning.specs.Outcomes.{on_alive, unless}

-- the read of a bucket, on an aged slot
unfoldable pub bucket_get_step : Slot → List ℕ → Pre → Answer × Slot
bucket_get_step slot name pre =
    on_alive slot.alive slot (λ s. unless (bucket_pre_refusal pre s.metageneration) slot (Bucket (bucket_row name s), slot))
