-- Where no test fails, each of them passes.
use Rattle.std.proofs.Common.{◌≡◌, ◌≤◌, ℕ, Bool, true, false, Option, Some, None, refl, arith}
use Rattle.std.specs.Prelude.{nat_le, if◌then◌else◌}
use Rattle.std.proofs.lemmas.Bool.Decides.{nat_tests}
use Rattle.gcs_meaning.specs.declared.reason.Reason.{Reason}
use Rattle.gcs_meaning.specs.declared.reason.Reason.TheVariants.{TooLarge}
use Rattle.gcs_meaning.specs.Tests.{largest_object, or_else, size_refusal}

pub first_passed : (first second : Option Reason) → or_else first second ≡ None → first ≡ None
first_passed None second h = refl
first_passed (Some reason) second h = cc

pub second_passed : (first second : Option Reason) → or_else first second ≡ None → second ≡ None
second_passed None second h = h
second_passed (Some reason) second h = cc

-- a size that passes is within the limit
size_by : (b : Bool) (size : ℕ) → nat_le size largest_object ≡ b → (if b then None else Some (TooLarge size)) ≡ None → size ≤ largest_object
size_by true size is h = grind (arith, nat_tests)
size_by false size is h = cc

pub size_passed : (size : ℕ) → size_refusal size ≡ None → size ≤ largest_object
size_passed size h = size_by (nat_le size largest_object) size refl h
