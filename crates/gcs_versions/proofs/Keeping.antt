-- Rows stay a bucket's versions where one is added, changed, retired or taken away.
use Rattle.std.proofs.Common.{◌≡◌, ◌≢◌, ◌≤◌, ◌<◌, ◌^◌, refl, subst, sym, ap, ℕ, Bool, false, List, [], ◌∷◌, None}
use Rattle.std.specs.List.{AllByRecursion, find}
use Rattle.gcs_meaning.specs.declared.listing.Unit as unit
use Rattle.gcs_meaning.specs.declared.settings.Meta.{Meta}
use Rattle.gcs_meaning.specs.declared.version.Row.{Row}
use Rattle.gcs_meaning.specs.declared.policy.Retired.{Retired}
use Rattle.gcs_meaning.specs.Choosing.{live_row}
use Rattle.gcs_meaning.specs.Order.{place_of, AreVersions, IsNumbered}
use Rattle.gcs_meaning.specs.Put.{with_row}
use Rattle.gcs_meaning.specs.Retiring.{change_first, retired_row}
use Rattle.gcs_meaning.proofs.Chosen.{none_found}
use Rattle.gcs_meaning.proofs.Listed.{all-change_first, all-weaker, all-with_row}
use Rattle.gcs_meaning.proofs.Ordered.{IsLess, changed_rise, changed_single, placed_rise, placed_single, retired_less}
use Rattle.gcs_meaning.proofs.Orders.{apart}
use Rattle.gcs_versions.specs.Rows.{changed_version, is_version}
use Rattle.gcs_versions.proofs.Orders.{place_version}

-- ---- a row that is changed in its place, or goes
less_numbered : (x : Row) (ys : List Row) → IsLess x ys → IsNumbered x → AllByRecursion IsNumbered ys
less_numbered x [] less h = tt
less_numbered x (y ∷ []) less h = (subst (λ n. (1 ≤ n) × (n < 2 ^ 64)) (sym (ap (λ (u : unit.Unit). u.number) less.0)) h, tt)
less_numbered x (y ∷ z ∷ more) less h = absurd less

changed_kept : (p : Row → Bool) (becomes : Row → List Row) → ((x : Row) → IsLess x (becomes x)) → (rows : List Row) → AreVersions rows → AreVersions (change_first p becomes rows)
changed_kept p becomes less rows kept = record {
  rise = changed_rise p becomes less rows kept.rise;
  single = changed_single p becomes less rows kept.single;
  numbered = all-change_first IsNumbered p becomes (λ x here. less_numbered x (becomes x) (less x) here) rows kept.numbered;
}

pub retired_kept : (to : Retired) (t : ℕ) (p : Row → Bool) (rows : List Row) → AreVersions rows → AreVersions (change_first p (retired_row to t) rows)
retired_kept to t p rows kept = changed_kept p (retired_row to t) (retired_less to t) rows kept

pub meta_kept : (meta : Meta) (start t : ℕ) (p : Row → Bool) (rows : List Row) → AreVersions rows → AreVersions (change_first p (λ row. changed_version meta start t row ∷ []) rows)
meta_kept meta start t p rows kept = changed_kept p (λ row. changed_version meta start t row ∷ []) (λ row. (refl, λ live. live)) rows kept

-- ---- one row more
-- where the version isn't, its place is free
free_place : (row : Row) (rows : List Row) → find (is_version row.name row.generation) rows ≡ None → AllByRecursion (λ other. place_of other ≢ place_of row) rows
free_place row rows absent =
    all-weaker (λ other. is_version row.name row.generation other ≡ false) (λ other. place_of other ≢ place_of row)
    (λ other differs same. apart (place_version row.name row.generation other same) differs) rows (none_found (is_version row.name row.generation) rows absent)

pub placed_kept : (row : Row) (rows : List Row) → find (is_version row.name row.generation) rows ≡ None → live_row row.name rows ≡ None → IsNumbered row → AreVersions rows → AreVersions (with_row row rows)
placed_kept row rows absent none numbered kept = record {
  rise = placed_rise row rows (free_place row rows absent) kept.rise;
  single = placed_single row rows none kept.single;
  numbered = all-with_row IsNumbered row rows numbered kept.numbered;
}
