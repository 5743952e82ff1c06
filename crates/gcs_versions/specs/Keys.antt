-- The keys of the indexes over a bucket's versions.
use Rattle.std.proofs.Common.{◌≡◌, ◌∙◌, refl, sym, ap}
use Rattle.std.specs.Prelude.{ℕ, List, Bool, false, if◌then◌else◌, Option, Some, None}
use mathlib.Core.Bool.{true≢false}
use Rattle.std.specs.Cmp.{IsTotalOrder}
use Rattle.std.specs.Cmp.Lexicographic.{slice_cmp}
use Rattle.std.specs.Ordering.{is_gt, is_lt, nat_cmp, on, ordering_then, then_cmp}
use Rattle.std.specs.declared.cmp.Ordering.{Ordering}
use Rattle.std.specs.declared.cmp.Ordering.TheVariants.{Less, Equal, Greater}
use Rattle.std.proofs.lemmas.Cmp.{nat_cmp_total, nat_list_cmp_total, on_total, then_total}
use Rattle.std.proofs.lemmas.Map.Lookups.{exact_bytes}
use Rattle.gcs_index.specs.Probing.{own_ends, own_stays}
use Rattle.gcs_meaning.specs.declared.listing.Unit as unit
use Rattle.gcs_meaning.specs.declared.version.Kind.{Kind}
use Rattle.gcs_meaning.specs.declared.version.Kind.TheVariants.{Live, Noncurrent, Soft}
use Rattle.gcs_meaning.specs.declared.version.Row.{Row}
use Rattle.gcs_meaning.specs.Order.{place_of, unit_cmp}
use Rattle.gcs_versions.specs.declared.keys.DueKey.{DueKey}

-- places are ordered by name, then by generation
pub place_total : IsTotalOrder unit_cmp
place_total = then_total (on_total (λ (u : unit.Unit). u.text) nat_list_cmp_total) (on_total (λ (u : unit.Unit). u.number) nat_cmp_total)

-- soft-deleted versions by hard time, then by place
abbrev pub due_cmp : DueKey → DueKey → Ordering
due_cmp = then_cmp (on (λ k. k.hard) nat_cmp) (on (λ k. k.version) unit_cmp)

pub due_total : IsTotalOrder due_cmp
due_total = then_total (on_total (λ (k : DueKey). k.hard) nat_cmp_total) (on_total (λ (k : DueKey). k.version) place_total)

-- the place of a version whose kind passes
abbrev pub place_if : (Kind → Bool) → Row → Option unit.Unit
place_if test row = if test row.kind then Some (place_of row) else None

-- the key by hard time, of a soft-deleted version
abbrev pub due_at : Kind → unit.Unit → Option DueKey
due_at Live place = None
due_at (Noncurrent at) place = None
due_at (Soft at hard) place = Some (record { hard = hard; version = place })

abbrev pub due_of : Row → Option DueKey
due_of row = due_at row.kind (place_of row)

less_not_greater : Less ≡ Greater → ⊥
less_not_greater same = true≢false (ap is_lt same)

-- a name that isn't above a place is above no greater one
pub name_stays : (name : List ℕ) (k l : unit.Unit) → unit_cmp k l ≡ Less → is_gt (slice_cmp nat_cmp name k.text) ≡ false → is_gt (slice_cmp nat_cmp name l.text) ≡ false
name_stays name k l less out = by (slice_cmp nat_cmp k.text l.text) refl
  where
    by : (o : Ordering) → slice_cmp nat_cmp k.text l.text ≡ o → is_gt (slice_cmp nat_cmp name l.text) ≡ false
    by Less f = own_stays nat_list_cmp_total name k.text l.text f out
    by Equal f = ap (λ t. is_gt (slice_cmp nat_cmp name t)) (sym (exact_bytes k.text l.text f)) ∙ out
    by Greater f = absurd (less_not_greater (sym less ∙ ap (λ o. ordering_then o (nat_cmp k.number l.number)) f))

-- a name that is below a place is below each greater one
pub name_ends : (name : List ℕ) (k l : unit.Unit) → unit_cmp k l ≡ Less → slice_cmp nat_cmp name k.text ≡ Less → slice_cmp nat_cmp name l.text ≡ Less
name_ends name k l less out = by (slice_cmp nat_cmp k.text l.text) refl
  where
    by : (o : Ordering) → slice_cmp nat_cmp k.text l.text ≡ o → slice_cmp nat_cmp name l.text ≡ Less
    by Less f = own_ends nat_list_cmp_total name k.text l.text f out
    by Equal f = ap (slice_cmp nat_cmp name) (sym (exact_bytes k.text l.text f)) ∙ out
    by Greater f = absurd (less_not_greater (sym less ∙ ap (λ o. ordering_then o (nat_cmp k.number l.number)) f))
