-- What a call keeps of the versions that are covered.
use Rattle.std.specs.Prelude.{ℕ}
use Rattle.gcs_meaning.specs.declared.version.Row.{Row}
use Rattle.gcs_meaning.specs.Content.{bytes_in}
use Rattle.gcs_meaning.specs.Keeping.{buckets_of, IsCovered, IsKept, IsOneOf}
use Rattle.gcs_meaning.specs.Moment.{effective_moment}
use Rattle.gcs_meaning.specs.Slot.{State, Slot}

-- each version that a hold, the retention or its soft deletion covers at the moment of a reading is still there afterwards, in the
-- bucket or in a deleted one, with its bytes
abbrev pub KeepsCovered : ℕ → Slot → Slot → Type 0
KeepsCovered reading before after =
    (s : State) (row : Row) → IsOneOf (buckets_of before) s → IsOneOf s.rows row → IsCovered s (effective_moment before.last_moment reading) row
    → IsKept after row.name row.generation (bytes_in row.hashed)
