-- Texts of moments, a profile of RFC 3339, 5.6. A moment is microseconds since 1970.
use Rattle.std.specs.Prelude.{◌≡◌, Option, Some, None, bytes_eq, ℕ, zero, suc, nat_lt, ◌+◌, ◌-◌, ◌*◌, ◌/◌, ◌%◌, ◌^◌, ◌≤◌, min, List, [], ◌∷◌, length, take, drop, take_while, slice_index, Bool, true, ◌&&◌, ◌||◌, ◌==◌, nat_le, if◌then◌else◌, pos, unsigned_abs, codes}
use Rattle.std.specs.Str.Parse.{digits_value}
use Rattle.jiff_core.specs.Calendar.{IsCivilDate, day_count, days_in_year, days_in_month}
use Rattle.jiff_core.specs.Date.{epoch_day}
use Rattle.jiff_core.specs.declared.civil.date.Date.{Date}
use Rattle.gcs_time.specs.declared.reading.Zone.{Zone}
use Rattle.gcs_time.specs.declared.reading.Zone.TheVariants.{East, West}

-- the microseconds of a day
abbrev pub day_micros : ℕ
day_micros = 86_400_000_000

-- the last microsecond of the year 9999
abbrev pub last_moment : ℕ
last_moment = 253_402_300_799_999_999

-- ---- writing

-- the last digit of a number
abbrev pub digit_of : ℕ → ℕ
digit_of n = 48 + n % 10

-- YYYY-MM-DDTHH:MM:SS.mmmZ, from a year, a month, a day, and the microseconds of the day
abbrev pub text_of : ℕ → ℕ → ℕ → ℕ → List ℕ
text_of year month day micros =
    let hour = micros / 3_600_000_000 in
    let minute = micros / 60_000_000 % 60 in
    let second = micros / 1_000_000 % 60 in
    digit_of (year / 1000) ∷ digit_of (year / 100) ∷ digit_of (year / 10) ∷ digit_of year
    ∷ 45 ∷ digit_of (month / 10) ∷ digit_of month ∷ 45 ∷ digit_of (day / 10) ∷ digit_of day
    ∷ 84 ∷ digit_of (hour / 10) ∷ digit_of hour ∷ 58 ∷ digit_of (minute / 10) ∷ digit_of minute ∷ 58 ∷ digit_of (second / 10) ∷ digit_of second
    ∷ 46 ∷ digit_of (micros / 100_000) ∷ digit_of (micros / 10_000) ∷ digit_of (micros / 1_000) ∷ 90 ∷ []

-- the text of a moment, by the civil date of its day; a later moment counts as the last one
abbrev pub IsTextOf : ℕ → List ℕ → Type 0
IsTextOf moment text =
    let held = min moment last_moment in
    (d : Date) × (epoch_day d ≡ pos (held / day_micros)) × (text ≡ text_of (unsigned_abs d.year) d.month d.day (held % day_micros))

-- the year of the day that lies n days after the first of a year, and the place of that day in its year, from 0
unfoldable pub year_and_rest : ℕ → ℕ → ℕ → ℕ × ℕ
year_and_rest zero year n = (year, n)
year_and_rest (suc most) year n =
    if nat_lt n (days_in_year (pos year)) then (year, n) else year_and_rest most (year + 1) (n - days_in_year (pos year))

-- the same for the months of a year
unfoldable pub month_and_rest : ℕ → ℕ → ℕ → ℕ → ℕ × ℕ
month_and_rest zero year month n = (month, n)
month_and_rest (suc most) year month n =
    if nat_lt n (days_in_month (pos year) month) then (month, n) else month_and_rest most year (month + 1) (n - days_in_month (pos year) month)

-- the same text, by going from year to year and from month to month
unfoldable pub time_text_of : ℕ → List ℕ
time_text_of moment =
    let held = min moment last_moment in
    let year = year_and_rest 8030 1970 (held / day_micros) in
    let month = month_and_rest 12 year.0 1 year.1 in
    text_of year.0 month.0 (month.1 + 1) (held % day_micros)

-- ---- reading

-- the byte is a decimal digit
abbrev pub is_digit_byte : ℕ → Bool
is_digit_byte b = nat_le 48 b && nat_le b 57

-- two digits stand at that place
abbrev pub has_two : List ℕ → ℕ → Bool
has_two text at = is_digit_byte (slice_index text at) && is_digit_byte (slice_index text (at + 1))

-- the number of the two digits at that place
abbrev pub two_at : List ℕ → ℕ → ℕ
two_at text at = (slice_index text at - 48) * 10 + (slice_index text (at + 1) - 48)

-- YYYY-MM-DD
abbrev pub has_date : List ℕ → Bool
has_date text = has_two text 0 && has_two text 2 && (slice_index text 4 == 45) && has_two text 5 && (slice_index text 7 == 45) && has_two text 8

-- HH:MM:SS, behind the date and its mark
abbrev pub has_clock : List ℕ → Bool
has_clock text =
    has_two text 11 && (slice_index text 13 == 58) && has_two text 14 && (slice_index text 16 == 58) && has_two text 17
    && nat_le (two_at text 11) 23 && nat_le (two_at text 14) 59 && nat_le (two_at text 17) 59

-- T or t
abbrev pub has_mark : List ℕ → Bool
has_mark text = (slice_index text 10 == 84) || (slice_index text 10 == 116)

-- the year that the text names
abbrev pub year_of : List ℕ → ℕ
year_of text = two_at text 0 * 100 + two_at text 2

-- the digits behind a point, where one comes first
abbrev pub fraction_of : List ℕ → List ℕ
fraction_of tail = if slice_index tail 0 == 46 then take_while is_digit_byte (drop 1 tail) else []

-- a point is followed by 1 to 9 digits
abbrev pub has_fraction : List ℕ → Bool
has_fraction tail = if slice_index tail 0 == 46 then nat_le 1 (length (fraction_of tail)) && nat_le (length (fraction_of tail)) 9 else true

-- what comes after the fraction
abbrev pub after_fraction : List ℕ → List ℕ
after_fraction tail = if slice_index tail 0 == 46 then drop (1 + length (fraction_of tail)) tail else tail

-- the microseconds of a fraction; digits past the sixth are cut
abbrev pub micros_of : List ℕ → ℕ
micros_of digits = digits_value 10 (take 6 digits) * 10 ^ (6 - length digits)

-- the text is a sign and HH:MM
abbrev pub has_offset : ℕ → List ℕ → Bool
has_offset sign zone =
    (length zone == 6) && (slice_index zone 0 == sign) && has_two zone 1 && (slice_index zone 3 == 58) && has_two zone 4
    && nat_le (two_at zone 1) 23 && nat_le (two_at zone 4) 59

-- the microseconds of an offset
abbrev pub offset_of : List ℕ → ℕ
offset_of zone = (two_at zone 1 * 60 + two_at zone 4) * 60_000_000

-- the zone that the text names, by how far its clocks are before or behind those of UTC
abbrev pub zone_of : List ℕ → Option Zone
zone_of text =
    if bytes_eq text (codes "Z") || bytes_eq text (codes "z") then Some (East 0)
    else (if has_offset 43 text then Some (East (offset_of text))
    else (if has_offset 45 text then Some (West (offset_of text)) else None))

-- the text names a civil date and a time of day, in its first nineteen bytes
pub record IsCivilText (text : List ℕ) : Type 0 where
  pub long : 19 ≤ length text
  pub date : has_date text ≡ true
  pub day : IsCivilDate (pos (year_of text)) (two_at text 5) (two_at text 8)
  pub mark : has_mark text ≡ true
  pub clock : has_clock text ≡ true

-- the seconds from 1 January of the year -10000 to the civil time that the text names
abbrev pub civil_seconds : List ℕ → ℕ
civil_seconds text =
    day_count (pos (year_of text)) (two_at text 5) (two_at text 8) * 86_400
    + ((two_at text 11 * 60 + two_at text 14) * 60 + two_at text 17)

-- the microseconds, with those of the fraction
abbrev pub civil_micros : List ℕ → ℕ
civil_micros text = civil_seconds text * 1_000_000 + micros_of (fraction_of (drop 19 text))

-- the microseconds from that day to 1970
abbrev pub epoch_micros : ℕ
epoch_micros = 377_736_739_200_000_000

-- clocks of the zone show this when it is that moment
abbrev pub Shows : Zone → ℕ → ℕ → Type 0
Shows (East by) civil moment = civil ≡ epoch_micros + moment + by
Shows (West by) civil moment = civil + by ≡ epoch_micros + moment

-- the text is one of this moment
pub record IsTimeOf (text : List ℕ) (moment : ℕ) : Type 0 where
  pub civil : IsCivilText text
  pub fraction : has_fraction (drop 19 text) ≡ true
  pub zone : (z : Zone) × (zone_of (after_fraction (drop 19 text)) ≡ Some z) × Shows z (civil_micros text) moment
  pub last : moment ≤ last_moment

-- the calendar has this day of a year from 0 to 9999
abbrev pub is_civil_date : ℕ → ℕ → ℕ → Bool
is_civil_date year month day =
    nat_le 1 month && nat_le month 12 && nat_le 1 day && nat_le day (days_in_month (pos year) month)

-- the same as `IsCivilText`, as a test
abbrev pub is_civil_text : List ℕ → Bool
is_civil_text text =
    nat_le 19 (length text) && has_date text && is_civil_date (year_of text) (two_at text 5) (two_at text 8)
    && has_mark text && has_clock text

-- a number that is a moment, from 1970 to 9999
unfoldable pub when_held : ℕ → Option ℕ
when_held moment = if nat_le moment last_moment then Some moment else None

-- the moment at which clocks of the zone show this
unfoldable pub moment_in : Option Zone → ℕ → Option ℕ
moment_in None civil = None
moment_in (Some (East by)) civil = if nat_le (epoch_micros + by) civil then when_held (civil - (epoch_micros + by)) else None
moment_in (Some (West by)) civil = if nat_le epoch_micros (civil + by) then when_held (civil + by - epoch_micros) else None

-- the moment that the text names, where it names one
unfoldable pub time_of : List ℕ → Option ℕ
time_of text =
    if is_civil_text text && has_fraction (drop 19 text)
    then moment_in (zone_of (after_fraction (drop 19 text))) (civil_micros text) else None
