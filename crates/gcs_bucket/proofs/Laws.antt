-- What the laws on commands say of one call, which was made or failed for memory.
use Rattle.std.proofs.Common.{◌≡◌, ℕ, Result, Ok, Err, refl, ap, sym, subst, inl, arith}
use Rattle.std.specs.Prelude.{IfOk, OnErr}
use Rattle.gcs_meaning.specs.declared.version.Row.{Row}
use Rattle.gcs_meaning.specs.declared.command.Answer.{Answer}
use Rattle.gcs_meaning.specs.declared.command.Command.{Command}
use Rattle.gcs_meaning.specs.Content.{bytes_in}
use Rattle.gcs_meaning.specs.Fit.{IsFit}
use Rattle.gcs_meaning.specs.Keeping.{HoldsOfOne, buckets_of, IsKept, IsOneOf, IsVersion}
use Rattle.gcs_meaning.specs.Making.{NewAreAbove}
use Rattle.gcs_meaning.specs.Slot.{State, Slot}
use Rattle.gcs_meaning.specs.Step.{step}
use Rattle.gcs_meaning.proofs.Covering.{covered_is_kept, itself}
use Rattle.gcs_meaning.proofs.Members.{one-member}
use Rattle.gcs_meaning.proofs.Rising.{generations_rise}
use Rattle.gcs_bucket.specs.Covered.{KeepsCovered}

-- a version is kept where nothing is done
kept_there : (slot : Slot) (s : State) (row : Row) → IsOneOf (buckets_of slot) s → IsOneOf s.rows row → IsKept slot row.name row.generation (bytes_in row.hashed)
kept_there slot s row is here =
    one-member (λ s. HoldsOfOne (IsVersion row.name row.generation (bytes_in row.hashed)) s.rows) s (buckets_of slot) is
    (one-member (IsVersion row.name row.generation (bytes_in row.hashed)) row s.rows here (itself row))

pub covered_after : {E : Type 0} (result : Result Answer E) (old new : Slot) (moment : ℕ) (command : Command) → IsFit old
    → IfOk result (λ answer. step old moment command ≡ (answer, new)) → OnErr result (new ≡ old) → KeepsCovered moment old new
covered_after (Ok answer) old new moment command fit done err s row is here h =
    subst (λ slot. IsKept slot row.name row.generation (bytes_in row.hashed)) (ap (λ (p : Answer × Slot). p.1) done) (covered_is_kept old moment command s row fit is here h)
covered_after (Err e) old new moment command fit done err s row is here h =
    subst (λ slot. IsKept slot row.name row.generation (bytes_in row.hashed)) (sym err) (kept_there old s row is here)

-- and nothing is new
above_itself : (slot : Slot) → NewAreAbove slot slot
above_itself slot = record {
  versions = λ s row is here. inl (one-member (λ s. HoldsOfOne (λ had. (had.name ≡ row.name) × (had.generation ≡ row.generation)) s.rows) s (buckets_of slot) is
      (one-member (λ had. (had.name ≡ row.name) × (had.generation ≡ row.generation)) row s.rows here (refl, refl)));
  buckets = λ s is. inl (one-member (λ had. had.generation ≡ s.generation) s (buckets_of slot) is refl);
  object = omega arith;
  bucket = omega arith;
}

pub rises_after : {E : Type 0} (result : Result Answer E) (old new : Slot) (moment : ℕ) (command : Command)
    → IfOk result (λ answer. step old moment command ≡ (answer, new)) → OnErr result (new ≡ old) → NewAreAbove old new
rises_after (Ok answer) old new moment command done err =
    subst (NewAreAbove old) (ap (λ (p : Answer × Slot). p.1) done) (generations_rise.above old moment command)
rises_after (Err e) old new moment command done err = subst (NewAreAbove old) (sym err) (above_itself old)
