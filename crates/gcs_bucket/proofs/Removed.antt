-- The version that a request names is retired by its generation, and a put finds no live one.
use Rattle.std.proofs.Common.{◌≡◌, ◌≢◌, ◌≤◌, ◌<◌, ◌^◌, ℕ, true, false, List, [], ◌∷◌, Option, Some, None, refl, ap, ap₂, sym, subst, ◌∙◌}
use Rattle.std.specs.Prelude.{is_some}
use Rattle.std.specs.List.{AllByRecursion, find}
use Rattle.std.specs.Option.{option_map}
use Rattle.gcs_meaning.specs.declared.policy.Retired.{Retired}
use Rattle.gcs_meaning.specs.declared.policy.Retired.TheVariants.{Noncurrent as ToNoncurrent, Soft as ToSoft, Out}
use Rattle.gcs_meaning.specs.declared.settings.Meta.{Meta}
use Rattle.gcs_meaning.specs.declared.settings.Settings.{Settings}
use Rattle.gcs_meaning.specs.declared.version.Row.{Row}
use Rattle.gcs_meaning.specs.Aging.{aged, aged_rows, aged_state, kind_stays}
use Rattle.gcs_meaning.specs.Choosing.{asked_row, chosen_row, is_chosen, is_live, live_row}
use Rattle.gcs_meaning.specs.ObjectDeletion.{delete_state}
use Rattle.gcs_meaning.specs.ObjectChange.{change_state, changed_row}
use Rattle.gcs_meaning.specs.Order.{AreSingle, IsNumbered, Rise}
use Rattle.gcs_meaning.specs.Policy.{retired_to}
use Rattle.gcs_meaning.specs.Retiring.{change_first, retired_row}
use Rattle.gcs_meaning.specs.Slot.{Slot, State}
use Rattle.gcs_meaning.proofs.Chosen.{chosen_row-aged}
use Rattle.gcs_meaning.proofs.Listed.{all-change_first, all-filter}
use Rattle.gcs_versions.specs.Rows.{changed_version, is_version}
use Rattle.gcs_meaning.proofs.Ordered.{filtered_rise, live_retired}
use Rattle.gcs_versions.proofs.Choices.{chosen_again, chosen_change, chosen_found, fresh_absent, same_change, unchanged}
use Rattle.gcs_bucket.specs.declared.object_change.Changed.{Changed}
use Rattle.gcs_bucket.specs.declared.put.Prepared.{Prepared}
use Rattle.gcs_bucket.specs.ObjectChange.{with_changed, AreInPlace, IsInPlace, MakesChange}
use Rattle.gcs_bucket.specs.ObjectDeletion.{IsChosenAt}
use Rattle.gcs_bucket.specs.Put.{generation_found, IsNextAlive}

-- a row of that generation was found
row_of : (found : Option Row) (generation : ℕ) → option_map (λ row. row.generation) found ≡ Some generation → (row : Row) × (found ≡ Some row) × (row.generation ≡ generation)
row_of None generation is = absurd (cc)
row_of (Some row) generation is = (row, refl, inside is)
  where
    inside : Some row.generation ≡ Some generation → row.generation ≡ generation
    inside same = cc

pub chosen_there : (name : List ℕ) (asked : Option ℕ) (found : ℕ) (rows : List Row) → Rise rows → option_map (λ row. row.generation) (chosen_row name asked rows) ≡ Some found
    → chosen_row name (Some found) rows ≢ None
chosen_there name asked found rows rise is none =
    let at = row_of (chosen_row name asked rows) found is in
    let again : chosen_row name (Some found) rows ≡ Some at.0 = subst (λ g. chosen_row name (Some g) rows ≡ Some at.0) at.2 (chosen_again name asked at.0 rows rise at.1) in
    cc

-- it is retired by its generation
pub removed : (s after : State) (t : ℕ) (name : List ℕ) (asked : Option ℕ) (found : ℕ) (to : Retired) → Rise s.rows
    → option_map (λ row. row.generation) (chosen_row name asked s.rows) ≡ Some found → to ≡ retired_to s.settings t (is_some asked)
    → after ≡ record s { rows = change_first (is_version name found) (retired_row to t) s.rows } → after ≡ delete_state s t name asked
unfolding delete_state
removed s after t name asked found to rise is to-is after-is =
    let at = row_of (chosen_row name asked s.rows) found is in
    let same : change_first (is_version name found) (retired_row to t) s.rows ≡ change_first (is_chosen name asked) (retired_row to t) s.rows
    = subst (λ g. change_first (is_version name g) (retired_row to t) s.rows ≡ change_first (is_chosen name asked) (retired_row to t) s.rows) at.2
    (chosen_change (retired_row to t) name asked at.0 s.rows rise at.1) in
    after-is
    ∙ ap (λ rows. record s { rows = rows }) same
    ∙ ap (λ to. record s { rows = change_first (is_chosen name asked) (retired_row to t) s.rows }) to-is

-- no generation was found, so no version was
pub none_found_live : (found : Option Row) → None ≡ generation_found found → found ≡ None
none_found_live None is = refl
none_found_live (Some row) is = absurd (cc)

-- where no version is live, none is retired
pub none_removed : (s : State) (t : ℕ) (name : List ℕ) → live_row name s.rows ≡ None → s ≡ delete_state s t name None
unfolding delete_state
none_removed s t name none =
    ap (λ rows. record s { rows = rows }) (sym (unchanged (is_chosen name None) (retired_row (retired_to s.settings t false) t) s.rows none))

pub none_live : (s : State) (t : ℕ) (name : List ℕ) → AreSingle s.rows → live_row name (delete_state s t name None).rows ≡ None
unfolding delete_state
none_live s t name single = live_retired (retired_to s.settings t false) t name s.rows single

-- the generations stay below the next one
retired_below : (g : ℕ) (to : Retired) (t : ℕ) (row : Row) → row.generation < g → AllByRecursion (λ other. other.generation < g) (retired_row to t row)
retired_below g ToNoncurrent t row below = (below, tt)
retired_below g (ToSoft hard) t row below = (below, tt)
retired_below g Out t row below = tt

pub absent_after : (s : State) (t g : ℕ) (name : List ℕ) → AllByRecursion (λ other. other.generation < g) s.rows → find (is_version name g) (delete_state s t name None).rows ≡ None
unfolding delete_state
absent_after s t g name below =
    fresh_absent name g _
    (all-change_first (λ other. other.generation < g) (is_chosen name None) (retired_row (retired_to s.settings t false) t)
    (λ row here. retired_below g (retired_to s.settings t false) t row here) s.rows below)

-- ---- the version that is changed is still there once the bucket is aged
aged_there : (t : ℕ) (name : List ℕ) (asked : Option ℕ) (rows : List Row) (row : Row) → Rise rows → chosen_row name asked rows ≡ Some row → find (is_version name row.generation) (aged_rows t rows) ≡ Some row
aged_there t name asked rows row rise is =
    chosen_found name asked row (aged_rows t rows) (filtered_rise (λ row. kind_stays t row.kind) rows rise) (chosen_row-aged t name asked rows ∙ is)

-- in the place of its generation is where the one that was asked for is
pub replaced : (t : ℕ) (name : List ℕ) (asked : Option ℕ) (s : State) (row changed : Row) → Rise s.rows → chosen_row name asked s.rows ≡ Some row → changed.generation ≡ row.generation
    → with_changed (aged_state t s) name changed ≡ change_state (aged_state t s) name asked changed
unfolding aged_state change_state
replaced t name asked s row changed rise is same =
    ap (λ rows. record (aged_state t s) { rows = rows })
    (same_change (is_version name changed.generation) (is_chosen name asked) (λ had. changed ∷ []) row (aged_rows t s.rows)
    (subst (λ g. find (is_version name g) (aged_rows t s.rows) ≡ Some row) (sym same) (aged_there t name asked s.rows row rise is))
    (chosen_row-aged t name asked s.rows ∙ is))

-- what was made of a row is in its place
pub in_place : (made : Changed) (settings : Settings) (t : ℕ) (name : List ℕ) (asked : Option ℕ) (meta : Meta) (row : Row) (rows : List Row) → Rise rows → chosen_row name asked rows ≡ Some row
    → MakesChange made settings (changed_row t meta row) → row.metageneration ≤ 2 ^ 62 → IsInPlace made.meta made.shown name t (aged_rows t rows)
in_place made settings t name asked meta row rows rise is makes few = record {
  row = row;
  found = subst (λ g. find (is_version name g) (aged_rows t rows) ≡ Some row) (sym (ap (λ (r : Row). r.generation) makes.shown_is)) (aged_there t name asked rows row rise is);
  shown_is = makes.shown_is ∙ ap₂ (λ m s. changed_version m s t row) (sym makes.meta_is) (sym (ap (λ (r : Row). r.retention_start) makes.shown_is));
  few = few;
}

pub in_place_alive : (made : Changed) (settings : Settings) (t : ℕ) (name : List ℕ) (asked : Option ℕ) (meta : Meta) (row : Row) (slot : Slot) (s : State) → slot.alive ≡ Some s → Rise s.rows
    → chosen_row name asked s.rows ≡ Some row → MakesChange made settings (changed_row t meta row) → row.metageneration ≤ 2 ^ 62 → AreInPlace made name t (aged slot t)
unfolding aged_state
in_place_alive made settings t name asked meta row slot s lives rise is makes few = rw lives (in_place made settings t name asked meta row s.rows rise is makes few)

-- ---- the version that is deleted, and the one that is put
pub chosen_aged : (t : ℕ) (name : List ℕ) (asked : Option ℕ) (row : Row) (slot : Slot) (s : State) → slot.alive ≡ Some s → chosen_row name asked s.rows ≡ Some row → IsChosenAt name asked row.generation (aged slot t)
unfolding aged_state
chosen_aged t name asked row slot s lives is = rw (lives, chosen_row-aged t name asked s.rows, is) refl

pub next_aged : (t : ℕ) (name : List ℕ) (live : Option ℕ) (row : Row) (made : Prepared) (slot : Slot) (s : State) → slot.alive ≡ Some s → made.row ≡ row → made.live ≡ live → row.name ≡ name
    → is_live row.kind ≡ true → IsNumbered row → AllByRecursion (λ other. other.generation < row.generation) s.rows → live ≡ generation_found (live_row name s.rows)
    → IsNextAlive made name (aged slot t)
unfolding aged_state
next_aged t name live row made slot s lives row-is made-is named kind numbered above live-is = record {
  named = ap (λ (r : Row). r.name) row-is ∙ named;
  next = rw (lives, row-is, made-is) (record {
    kind = kind;
    numbered = numbered;
    above = all-filter (λ other. other.generation < row.generation) (λ other. kind_stays t other.kind) s.rows above;
    live_is = live-is ∙ ap generation_found (sym (chosen_row-aged t name None s.rows)) ∙ ap (λ n. generation_found (live_row n (aged_rows t s.rows))) (sym named);
  });
}

-- without a generation no soft-deleted version is asked for
pub none_asked : (name : List ℕ) (rows : List Row) → asked_row true name None rows ≡ None
none_asked name [] = refl
none_asked name (x ∷ xs) = none_asked name xs
