-- The versions of a bucket stay in their chunks where one of them is put, changed or deleted, and those that are listed or composed lie there.
use Rattle.std.proofs.Common.{◌≡◌, ◌+◌, ℕ, false, List, [], ◌∷◌, Option, Some, None, refl}
use Rattle.std.specs.Prelude.{is_some}
use Rattle.std.specs.List.{AllByRecursion, cons_option, filter_map, find}
use Rattle.std.specs.Option.{IfSome}
use Rattle.gcs_chunks.specs.Content.{ChunksValue, ContentLiesIn, Whole, no_content, rest_of}
use Rattle.gcs_chunks.proofs.Words.{lies_joined, lies_nothing, lies_rest}
use Rattle.gcs_meaning.specs.declared.listing.PageQuery.{PageQuery}
use Rattle.gcs_meaning.specs.declared.listing.Unit as unit
use Rattle.gcs_meaning.specs.declared.listing.View.{View}
use Rattle.gcs_meaning.specs.declared.policy.Retired.{Retired}
use Rattle.gcs_meaning.specs.declared.policy.Retired.TheVariants.{Noncurrent as ToNoncurrent, Soft as ToSoft, Out}
use Rattle.gcs_meaning.specs.declared.reason.Reason.{Reason}
use Rattle.gcs_meaning.specs.declared.settings.Settings.{Settings}
use Rattle.gcs_meaning.specs.declared.version.Part.{Part}
use Rattle.gcs_meaning.specs.declared.version.Row.{Row}
use Rattle.gcs_meaning.specs.Slot.{State}
use Rattle.gcs_meaning.specs.Policy.{retired_to}
use Rattle.gcs_meaning.specs.Choosing.{chosen_row, is_chosen}
use Rattle.gcs_meaning.specs.Order.{is_shown, shown_rows}
use Rattle.gcs_meaning.specs.Content.{with_whole}
use Rattle.gcs_meaning.specs.Retiring.{retired_row}
use Rattle.gcs_meaning.specs.Listing.{has_item, page_of}
use Rattle.gcs_meaning.specs.ObjectChange.{change_state}
use Rattle.gcs_meaning.specs.ObjectDeletion.{delete_state}
use Rattle.gcs_meaning.specs.Put.{put_state}
use Rattle.gcs_meaning.specs.Compose.{Composed, joins, lacks, composed, composed_by, composed_from, composed_unless, components_of, source_refusal}
use Rattle.gcs_meaning.specs.Contents.{RowLiesIn, StateLiesIn}
use Rattle.gcs_meaning.proofs.Listed.{all-change_first, all-filter, all-with_row}
use Rattle.gcs_meaning.proofs.Chosen.{all-chosen, all-find}

module _ (chunks : ChunksValue) where
  retired_lies : (to : Retired) (t : ℕ) (row : Row) → RowLiesIn chunks row → AllByRecursion (RowLiesIn chunks) (retired_row to t row)
  retired_lies ToNoncurrent t row h = (h, tt)
  retired_lies (ToSoft hard) t row h = (h, tt)
  retired_lies Out t row h = tt

  pub delete_state_lies : (s : State) (t : ℕ) (name : List ℕ) (generation : Option ℕ) → StateLiesIn chunks s → StateLiesIn chunks (delete_state s t name generation)
  unfolding delete_state
  delete_state_lies s t name generation h = record {
    rows = all-change_first (RowLiesIn chunks) (is_chosen name generation) (retired_row (retired_to s.settings t (is_some generation)) t)
        (retired_lies (retired_to s.settings t (is_some generation)) t) s.rows h.rows;
    uploads = h.uploads;
  }

  pub change_state_lies : (s : State) (name : List ℕ) (generation : Option ℕ) (row : Row) → RowLiesIn chunks row → StateLiesIn chunks s → StateLiesIn chunks (change_state s name generation row)
  unfolding change_state
  change_state_lies s name generation row new h =
      record { rows = all-change_first (RowLiesIn chunks) (is_chosen name generation) (λ had. row ∷ []) (λ had lies. (new, tt)) s.rows h.rows; uploads = h.uploads }

  pub put_state_lies : (s : State) (t : ℕ) (row : Row) → RowLiesIn chunks row → StateLiesIn chunks s → StateLiesIn chunks (put_state s t row)
  unfolding put_state
  put_state_lies s t row new h = record {
    rows = all-with_row (RowLiesIn chunks) row _ new
        (all-change_first (RowLiesIn chunks) (is_chosen row.name None) (retired_row (retired_to s.settings t false) t) (retired_lies (retired_to s.settings t false) t) s.rows h.rows);
    uploads = h.uploads;
  }

  -- what is found among versions
  some_found : {X : Type 0} (P : X → Type 0) (found : Option X) → ((x : X) → found ≡ Some x → P x) → IfSome found P
  some_found P None each = tt
  some_found P (Some x) each = each x refl

  shown_lies : (found : Option Row) (rows : List Row) → IfSome found (RowLiesIn chunks) → AllByRecursion (RowLiesIn chunks) rows → AllByRecursion (RowLiesIn chunks) (cons_option found rows)
  shown_lies None rows one more = more
  shown_lies (Some row) rows one more = (one, more)

  items_lie : (view : View) (rows : List Row) (units : List unit.Unit) → AllByRecursion (RowLiesIn chunks) rows → AllByRecursion (RowLiesIn chunks) (filter_map (λ u. find (has_item view u) rows) units)
  items_lie view rows [] h = tt
  items_lie view rows (u ∷ us) h =
      shown_lies (find (has_item view u) rows) _ (some_found (RowLiesIn chunks) (find (has_item view u) rows) (λ row is. all-find (RowLiesIn chunks) (has_item view u) row rows is h))
      (items_lie view rows us h)

  pub page_lies : (settings : Settings) (q : PageQuery) (rows : List Row) → AllByRecursion (RowLiesIn chunks) rows → AllByRecursion (RowLiesIn chunks) (page_of settings q rows).items
  unfolding page_of
  page_lies settings q rows h = items_lie q.view (shown_rows q.view rows) _ (all-filter (RowLiesIn chunks) (λ row. is_shown q.view row.kind) rows h)

  -- the sources of a compose
  abbrev pub ComposedLies : Composed → Type 0
  ComposedLies (joins content count) = ContentLiesIn chunks content
  ComposedLies (lacks reason) = Unit {0}

  composed_unless_lies : (refusal : Option Reason) (made : Composed) → ComposedLies made → ComposedLies (composed_unless refusal made)
  composed_unless_lies (Some reason) made h = tt
  composed_unless_lies None made h = h

  composed_by_lies : (found : Option Row) (i : ℕ) (part : Part) (content : Whole) (count : ℕ) (more : Whole → ℕ → Composed) → IfSome found (RowLiesIn chunks) → ContentLiesIn chunks content
      → ((whole : Whole) (sum : ℕ) → ContentLiesIn chunks whole → ComposedLies (more whole sum)) → ComposedLies (composed_by found i part content count more)
  composed_by_lies None i part content count more source lies rest = tt
  composed_by_lies (Some row) i part content count more source lies rest =
      composed_unless_lies (source_refusal i part.generation_is row.generation) _
      (rest (with_whole content row.hashed.content) (count + components_of row) (lies_joined chunks content (rest_of row.hashed.content 0) lies (lies_rest chunks row.hashed.content 0 source)))

  composed_from_lies : (rows : List Row) (i : ℕ) (content : Whole) (count : ℕ) (parts : List Part) → AllByRecursion (RowLiesIn chunks) rows → ContentLiesIn chunks content
      → ComposedLies (composed_from rows i content count parts)
  composed_from_lies rows i content count [] h lies = lies
  composed_from_lies rows i content count (part ∷ parts) h lies =
      composed_by_lies (chosen_row part.name part.generation rows) i part content count (λ whole sum. composed_from rows (i + 1) whole sum parts)
      (some_found (RowLiesIn chunks) (chosen_row part.name part.generation rows) (λ row is. all-chosen (RowLiesIn chunks) part.name part.generation row rows is h)) lies
      (λ whole sum more. composed_from_lies rows (i + 1) whole sum parts h more)

  pub composed_lies : (rows : List Row) (parts : List Part) → AllByRecursion (RowLiesIn chunks) rows → ComposedLies (composed rows parts)
  unfolding composed
  composed_lies rows parts h = composed_from_lies rows 0 no_content 0 parts h (lies_nothing chunks)
