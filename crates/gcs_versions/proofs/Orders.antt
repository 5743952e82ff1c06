-- A version and its place among rows that rise.
use Rattle.std.proofs.Common.{◌≡◌, ◌∙◌, sym, ap, refl, ℕ, Bool, true, false, List, arith}
use Rattle.std.specs.Prelude.{◌==◌}
use Rattle.std.specs.Str.{bytes_eq}
use Rattle.std.proofs.lemmas.Bool.{and_parts, and_from, eqb-true}
use Rattle.std.proofs.lemmas.Bool.Decides.{nat_tests}
use Rattle.gcs_meaning.specs.declared.listing.Unit as unit
use Rattle.gcs_meaning.specs.declared.version.Row.{Row}
use Rattle.gcs_meaning.specs.Order.{comes_before, place_of, unit_at}
use Rattle.gcs_meaning.proofs.Orders.{apart, before_self, bytes_eq_from, same_text}
use Rattle.gcs_versions.specs.Rows.{is_version}

-- a version's place is its name and generation
pub version_place : (name : List ℕ) (generation : ℕ) (row : Row) → is_version name generation row ≡ true → place_of row ≡ unit_at name generation
version_place name generation row is =
    let parts = and_parts (row.generation == generation) (bytes_eq name row.name) is in
    let g = eqb-true row.generation generation parts.0 in
    let t = sym (same_text name row.name parts.1) in
    λ i. record { text = t i; number = g i }

pub place_version : (name : List ℕ) (generation : ℕ) (row : Row) → place_of row ≡ unit_at name generation → is_version name generation row ≡ true
place_version name generation row is =
    let g : row.generation ≡ generation = ap (λ (u : unit.Unit). u.number) is in
    let t : row.name ≡ name = ap (λ (u : unit.Unit). u.text) is in
    and_from (row.generation == generation) (bytes_eq name row.name) (grind (arith, nat_tests, g)) (bytes_eq_from name row.name (sym t))

-- a row before or behind a place isn't the version there
pub before_other : (name : List ℕ) (generation : ℕ) (row : Row) → comes_before (place_of row) (unit_at name generation) ≡ true → is_version name generation row ≡ false
before_other name generation row before = by (is_version name generation row) refl
  where
    by : (b : Bool) → is_version name generation row ≡ b → b ≡ false
    by false e = refl
    by true e = absurd (apart before (ap (λ u. comes_before u (unit_at name generation)) (version_place name generation row e) ∙ before_self (unit_at name generation)))

pub behind_other : (name : List ℕ) (generation : ℕ) (row : Row) → comes_before (unit_at name generation) (place_of row) ≡ true → is_version name generation row ≡ false
behind_other name generation row behind = by (is_version name generation row) refl
  where
    by : (b : Bool) → is_version name generation row ≡ b → b ≡ false
    by false e = refl
    by true e = absurd (apart behind (ap (comes_before (unit_at name generation)) (version_place name generation row e) ∙ before_self (unit_at name generation)))
