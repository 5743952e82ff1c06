-- What the fields of a slot stand for, and what every slot keeps.
use Rattle.std.specs.Prelude.{ℕ, length}
use Rattle.std.specs.Option.{IfSome}
use Rattle.gcs_meaning.specs.Bounds.{IsSmall}
use Rattle.gcs_meaning.specs.Fit.{IsFit}
use Rattle.gcs_meaning.specs.Slot.{Slot}
use Rattle.gcs_bucket.specs.declared.slot.Slot.{Slot as Fields}
use Rattle.gcs_bucket.specs.Alive.{alive_of, rows_of, AreCounted, AreEarly, AreLimited, AreSized, GravesAreLimited}
use Rattle.gcs_bucket.specs.Uploading.{AreBelow}

-- the slot that its fields stand for
abbrev pub value_of : Fields → Slot
value_of f = record { alive = alive_of f.alive; graves = f.graves.items; last_moment = f.last_moment; last_object = f.last_object; last_bucket = f.last_bucket; next_upload = f.next_upload }

-- how many versions the bucket that is alive has
abbrev pub row_count : Slot → ℕ
row_count slot = length (rows_of slot.alive)

-- what every slot keeps: it is fit, and the settings of its buckets, alive or deleted, are in the limits
pub record IsSound (slot : Slot) : Type 0 where
  pub fit : IsFit slot
  pub limits : AreLimited slot.alive
  pub graves : GravesAreLimited slot.graves

-- a slot on which a step can be made: its numbers leave room for it, and its settings and versions have theirs in their limits, and
-- no generation is above the last
pub record IsReady (slot : Slot) : Type 0 where
  pub small : IsSmall slot
  pub limits : AreLimited slot.alive
  pub early : IfSome slot.alive (λ s. AreEarly s.rows)
  pub counted : IfSome slot.alive (λ s. AreCounted slot.last_object s.rows)
  pub below : IfSome slot.alive (λ s. AreBelow slot.next_upload s.uploads)
  pub sized : IfSome slot.alive (λ s. AreSized s.rows)
