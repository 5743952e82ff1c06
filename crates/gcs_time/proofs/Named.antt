-- The function from a text to its moment agrees with the relation.
use Rattle.std.proofs.Common.{◌≡◌, ℕ, ◌≤◌, ◌+◌, ◌-◌, ◌&&◌, nat_le, Bool, true, false, if◌then◌else◌, List, length, drop, refl, ap, ap₂, ◌∙◌, subst, arith}
use Rattle.std.specs.Prelude.{Option, Some, None, ◌↔◌, pos, slice_index}
use Rattle.std.proofs.lemmas.Bool.{false≢true, le-leb, leb-true}
use Rattle.jiff_core.specs.Calendar.{IsCivilDate, days_in_month}
use Rattle.gcs_time.specs.declared.reading.Zone.{Zone}
use Rattle.gcs_time.specs.declared.reading.Zone.TheVariants.{East, West}
use Rattle.gcs_time.specs.Time.{has_date, year_of, two_at, after_fraction, zone_of, civil_micros, epoch_micros, last_moment, Shows, IsCivilText, IsTimeOf, is_civil_date, is_civil_text, when_held, moment_in, time_of}
use Rattle.jiff_core.proofs.SignedLemmas.{signed_arith}
use Rattle.gcs_time.specs.Time.{is_digit_byte, has_two}
use Rattle.gcs_time.proofs.Places.{date_digits}

both : (a b : Bool) → (a && b) ≡ true → (a ≡ true) × (b ≡ true)
both true b h = (refl, h)
both false b h = absurd (false≢true h)

every : (a b : Bool) → a ≡ true → b ≡ true → (a && b) ≡ true
every a b p q = ap₂ (λ s t. s && t) p q

-- the test of a day is what the calendar says of it
civil_date-true : (year month day : ℕ) → year ≤ 9999 → is_civil_date year month day ≡ true → IsCivilDate (pos year) month day
civil_date-true year month day small h =
    let last = both _ _ h in
    let first = both _ _ last.0 in
    let months = both _ _ first.0 in (
      (omega (arith, signed_arith), omega (arith, signed_arith)),
      (leb-true 1 month months.0, leb-true month 12 months.1),
      (leb-true 1 day first.1, leb-true day (days_in_month (pos year) month) last.1),
    )

civil_date-yes : (year month day : ℕ) → IsCivilDate (pos year) month day → is_civil_date year month day ≡ true
civil_date-yes year month day is =
    every _ _ (every _ _ (every _ _ (le-leb 1 month is.1.0) (le-leb month 12 is.1.1)) (le-leb 1 day is.2.0))
    (le-leb day (days_in_month (pos year) month) is.2.1)

two_small : (text : List ℕ) (at : ℕ) → has_two text at ≡ true → two_at text at ≤ 99
two_small text at h =
    let digits = both (is_digit_byte (slice_index text at)) (is_digit_byte (slice_index text (at + 1))) h in
    let high : slice_index text at ≤ 57 = leb-true _ _ (both _ _ digits.0).1 in
    let low : slice_index text (at + 1) ≤ 57 = leb-true _ _ (both _ _ digits.1).1 in omega (arith, high, low)

year_small : (text : List ℕ) → has_date text ≡ true → year_of text ≤ 9999
year_small text h =
    let digits = date_digits text h in
    omega (arith, two_small text 0 digits.0, two_small text 2 digits.1)

-- the test of the first nineteen bytes
civil_text-true : (text : List ℕ) → is_civil_text text ≡ true → IsCivilText text
civil_text-true text h =
    let clock = both _ _ h in
    let mark = both _ _ clock.0 in
    let day = both _ _ mark.0 in
    let date = both _ _ day.0 in record {
      long = leb-true 19 (length text) date.0;
      date = date.1;
      day = civil_date-true _ _ _ (year_small text date.1) day.1;
      mark = mark.1;
      clock = clock.1;
    }

civil_text-yes : (text : List ℕ) → IsCivilText text → is_civil_text text ≡ true
civil_text-yes text is =
    every _ _ (every _ _ (every _ _ (every _ _ (le-leb 19 (length text) is.long) is.date) (civil_date-yes _ _ _ is.day)) is.mark) is.clock

chosen : {A : Type 0} (test : Bool) (found : Option A) (value : A) → (if test then found else None) ≡ Some value → (test ≡ true) × (found ≡ Some value)
chosen true found value h = (refl, h)
chosen false found value h = cc

held-some : (n moment : ℕ) → when_held n ≡ Some moment → (n ≡ moment) × (moment ≤ last_moment)
unfolding when_held
held-some n moment h =
    let c = chosen (nat_le n last_moment) (Some n) moment h in
    let e : Some n ≡ Some moment = c.1 in
    let same : n ≡ moment = cc in
    (same, subst (λ m. m ≤ last_moment) same (leb-true n last_moment c.0))

held-yes : (moment : ℕ) → moment ≤ last_moment → when_held moment ≡ Some moment
unfolding when_held
held-yes moment h = ap (λ t. if t then Some moment else None) (le-leb moment last_moment h)

east : (start by civil moment : ℕ) → start + by ≤ civil → civil - (start + by) ≡ moment → civil ≡ start + moment + by
east start by civil moment h e = omega arith

west : (start by civil moment : ℕ) → start ≤ civil + by → civil + by - start ≡ moment → civil + by ≡ start + moment
west start by civil moment h e = omega arith

-- a moment that is found is one at which clocks of the zone show this
moment_in-some : (zone : Option Zone) (civil moment : ℕ) → moment_in zone civil ≡ Some moment
    → (z : Zone) × (zone ≡ Some z) × Shows z civil moment × (moment ≤ last_moment)
unfolding moment_in
moment_in-some None civil moment h = cc
moment_in-some (Some (East by)) civil moment h =
    let c = chosen _ (when_held (civil - (epoch_micros + by))) moment h in
    let held = held-some _ moment c.1 in
    (East by, refl, east epoch_micros by civil moment (leb-true (epoch_micros + by) civil c.0) held.0, held.1)
moment_in-some (Some (West by)) civil moment h =
    let c = chosen _ (when_held (civil + by - epoch_micros)) moment h in
    let held = held-some _ moment c.1 in
    (West by, refl, west epoch_micros by civil moment (leb-true epoch_micros (civil + by) c.0) held.0, held.1)

-- a moment at which clocks of the zone show this is found
east_within : (start by civil moment : ℕ) → civil ≡ start + moment + by → (start + by ≤ civil) × (civil - (start + by) ≡ moment)
east_within start by civil moment e = (omega arith, omega arith)

west_within : (start by civil moment : ℕ) → civil + by ≡ start + moment → (start ≤ civil + by) × (civil + by - start ≡ moment)
west_within start by civil moment e = (omega arith, omega arith)

moment_in-yes : (z : Zone) (civil moment : ℕ) → Shows z civil moment → moment ≤ last_moment → moment_in (Some z) civil ≡ Some moment
unfolding moment_in
moment_in-yes (East by) civil moment shows last =
    let within = east_within epoch_micros by civil moment shows in
    ap₂ (λ t n. if t then when_held n else None) (le-leb (epoch_micros + by) civil within.0) within.1 ∙ held-yes moment last
moment_in-yes (West by) civil moment shows last =
    let within = west_within epoch_micros by civil moment shows in
    ap₂ (λ t n. if t then when_held n else None) (le-leb epoch_micros (civil + by) within.0) within.1 ∙ held-yes moment last

-- the function gives a moment exactly where the text is one of it
pub time_of-iff : (text : List ℕ) (moment : ℕ) → (time_of text ≡ Some moment) ↔ IsTimeOf text moment
unfolding time_of
time_of-iff text moment = (
  λ e.
      let c = chosen _ (moment_in (zone_of (after_fraction (drop 19 text))) (civil_micros text)) moment e in
      let tests = both _ _ c.0 in
      let m = moment_in-some (zone_of (after_fraction (drop 19 text))) (civil_micros text) moment c.1 in record {
        civil = civil_text-true text tests.0;
        fraction = tests.1;
        zone = (m.0, m.1, m.2);
        last = m.3;
      },
  λ is.
      ap (λ t. if t then moment_in (zone_of (after_fraction (drop 19 text))) (civil_micros text) else None)
      (every _ _ (civil_text-yes text is.civil) is.fraction)
      ∙ ap (λ z. moment_in z (civil_micros text)) is.zone.1
      ∙ moment_in-yes is.zone.0 (civil_micros text) moment is.zone.2 is.last,
)

none_of : (found : Option ℕ) → ((moment : ℕ) → found ≡ Some moment → ⊥) → found ≡ None
none_of (Some moment) h = absurd (h moment refl)
none_of None h = refl

-- where the text is one of no moment, the function gives none
pub time_of-none : (text : List ℕ) → ((moment : ℕ) → IsTimeOf text moment → ⊥) → time_of text ≡ None
time_of-none text h = none_of (time_of text) (λ moment e. h moment ((time_of-iff text moment).0 e))
