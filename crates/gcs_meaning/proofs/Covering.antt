-- A version that is covered is kept.
use Rattle.std.proofs.Common.{◌≡◌, inl, inr, ℕ, true, List, ◌++◌, Option, Some, None, refl, ap, sym, subst}
use Rattle.std.specs.Prelude.{filter, map, nat_lt}
use Rattle.std.specs.List.{AllByRecursion}
use Rattle.gcs_meaning.specs.declared.version.Row.{Row}
use Rattle.gcs_meaning.specs.declared.command.Command.{Command}
use Rattle.gcs_meaning.specs.Content.{bytes_in}
use Rattle.gcs_meaning.specs.Moment.{effective_moment}
use Rattle.gcs_meaning.specs.Slot.{State, Grave, Slot}
use Rattle.gcs_meaning.specs.Aging.{kind_stays, aged_state, aged_alive, aged_grave, aged_graves, aged}
use Rattle.gcs_meaning.specs.Step.{step}
use Rattle.gcs_meaning.specs.Fit.{IsFit, IsFitGrave, IsSoftUntil}
use Rattle.gcs_meaning.specs.Keeping.{HoldsOfOne, IsOneOf, living, buckets_of, IsCovered, IsVersion}
use Rattle.gcs_meaning.specs.Laws.{CoveredIsKept}
use Rattle.gcs_meaning.proofs.Members.{all-member, one-weaker, one-and-all, member-map, map-member, one-filter}
use Rattle.gcs_meaning.proofs.Staying.{Outlives, Stays, covered_stays, soft_later, command_stays}

-- ageing takes no version that is covered
rows_aged : (s : State) (t : ℕ) (row : Row) → IsOneOf s.rows row → IsCovered s t row → IsOneOf (aged_state t s).rows row
unfolding aged_state
rows_aged s t row is h =
    one-filter (λ other. other ≡ row) (λ other. kind_stays t other.kind)
    (λ other same. subst (λ r. kind_stays t r.kind ≡ true) (sym same) (covered_stays s t row row.kind refl h)) s.rows is

-- a deleted bucket with a version that is covered stays
grave_stays : (o m u t : ℕ) (g : Grave) (s : State) (row : Row) → g.state ≡ s → IsFitGrave o m u g → IsOneOf s.rows row → IsCovered s t row → nat_lt t g.hard ≡ true
grave_stays o m u t g s row same fit is h =
    let within : IsOneOf g.state.rows row = subst (λ state. IsOneOf state.rows row) (sym same) is in
    soft_later t g.hard row.kind (all-member (λ other. IsSoftUntil g.hard other.kind) row g.state.rows within fit.soft) (covered_stays s t row row.kind refl h)

graves_aged : (o m u t : ℕ) (graves : List Grave) (s : State) (row : Row) → AllByRecursion (IsFitGrave o m u) graves → IsOneOf (map (λ g. g.state) graves) s → IsOneOf s.rows row → IsCovered s t row
    → IsOneOf (map (λ g. g.state) (aged_graves t graves)) (aged_state t s)
unfolding aged_graves
graves_aged o m u t graves s row fit is within h =
    let had : HoldsOfOne (λ g. (g.state ≡ s) × IsFitGrave o m u g) graves =
    one-and-all (λ g. g.state ≡ s) (IsFitGrave o m u) graves (member-map (λ g. g.state) (λ state. state ≡ s) graves is) fit in
    let stays : HoldsOfOne (λ g. (g.state ≡ s) × IsFitGrave o m u g) (filter (λ g. nat_lt t g.hard) graves) =
    one-filter (λ g. (g.state ≡ s) × IsFitGrave o m u g) (λ g. nat_lt t g.hard) (λ g held. grave_stays o m u t g s row held.0 held.1 within h) graves had in
    map-member (λ g. g.state) (λ state. state ≡ aged_state t s) (map (aged_grave t) (filter (λ g. nat_lt t g.hard) graves))
    (map-member (aged_grave t) (λ g. g.state ≡ aged_state t s) (filter (λ g. nat_lt t g.hard) graves)
    (one-weaker (λ g. (g.state ≡ s) × IsFitGrave o m u g) (λ g. aged_state t g.state ≡ aged_state t s) (λ g held. ap (aged_state t) held.0) (filter (λ g. nat_lt t g.hard) graves) stays))

buckets_aged : (alive : Option State) (o m u t : ℕ) (graves : List Grave) (s : State) (row : Row) → AllByRecursion (IsFitGrave o m u) graves → IsOneOf (living alive ++ map (λ g. g.state) graves) s → IsOneOf s.rows row → IsCovered s t row
    → IsOneOf (living (aged_alive t alive) ++ map (λ g. g.state) (aged_graves t graves)) (aged_state t s)
buckets_aged None o m u t graves s row fit is within h = graves_aged o m u t graves s row fit is within h
buckets_aged (Some living) o m u t graves s row fit (inl same) within h = inl (ap (aged_state t) same)
buckets_aged (Some living) o m u t graves s row fit (inr later) within h = inr (graves_aged o m u t graves s row fit later within h)

covered_aged : (s : State) (t : ℕ) (row : Row) → IsCovered s t row → IsCovered (aged_state t s) t row
unfolding aged_state
covered_aged s t row h = h

-- one step
pub step_stays : (P : Row → Type 0) (slot : Slot) (moment : ℕ) (command : Command) (s : State) (row : Row) → Outlives P (effective_moment slot.last_moment moment) row → IsFit slot
    → IsOneOf (buckets_of slot) s → IsOneOf s.rows row → IsCovered s (effective_moment slot.last_moment moment) row → Stays P (step slot moment command).1
step_stays P slot moment command s row outlives fit is here h =
    let t : ℕ = effective_moment slot.last_moment moment in
    command_stays P t row outlives (aged slot t) (aged_state t s)
    (buckets_aged slot.alive slot.last_object slot.last_moment slot.next_upload t slot.graves s row fit.graves is here h)
    (rows_aged s t row here h) (covered_aged s t row h) command

-- the version that a row is
abbrev pub IsThat : Row → Row → Type 0
IsThat row other = IsVersion row.name row.generation (bytes_in row.hashed) other

pub itself : (row : Row) → IsThat row row
itself row = record { name_is = refl; generation_is = refl; bytes_are = refl }

-- whatever a command makes of it is that version
that_outlives : (t : ℕ) (row : Row) → Outlives (IsThat row) t row
that_outlives t row = record {
  itself = itself row;
  changed = λ meta readable. record { name_is = refl; generation_is = refl; bytes_are = refl };
  noncurrent = λ readable. record { name_is = refl; generation_is = refl; bytes_are = refl };
}

pub covered_is_kept : CoveredIsKept
covered_is_kept slot moment command s row fit is here h =
    step_stays (IsThat row) slot moment command s row (that_outlives (effective_moment slot.last_moment moment) row) fit is here h
