-- A compose, one source further.
use Rattle.std.proofs.Common.{◌≡◌, ◌<◌, ℕ, suc, ◌+◌, List, ◌∷◌, length, get_or, drop, Some, None, ap, sym, ◌∙◌, refl, arith, add-one, drop-cons}
use Rattle.std.proofs.lemmas.List.{length-append}
use Rattle.gcs_chunks.specs.Content.{Whole, bytes_of, rest_of}
use Rattle.gcs_chunks.proofs.Words.{bytes_of-joined}
use Rattle.gcs_index.specs.Looks.{AreLooks, fewer_searches, more_searches}
use Rattle.gcs_meaning.specs.declared.version.Part.{Part}
use Rattle.gcs_meaning.specs.declared.version.Row.{Row}
use Rattle.gcs_meaning.specs.declared.reason.Reason.{Reason}
use Rattle.gcs_meaning.specs.declared.reason.Reason.TheVariants.{NoSource}
use Rattle.gcs_meaning.specs.Choosing.{chosen_row}
use Rattle.gcs_meaning.specs.Compose.{components_of, composed_by, composed_from, lacks, source_refusal}
use Rattle.gcs_meaning.specs.Content.{with_whole}
use Rattle.gcs_meaning.proofs.Grown.{bytes_of-rest_of}

-- the source of number i and the rest
next : (rows : List Row) (i : ℕ) (content : Whole) (count : ℕ) (sources : List Part) (source : Part) → i < length sources → source ≡ get_or sources i source
    → composed_from rows i content count (drop i sources)
    ≡ composed_by (chosen_row source.name source.generation rows) i source content count (λ whole sum. composed_from rows (i + 1) whole sum (drop (i + 1) sources))
next rows i content count sources source within is =
    let split : drop i sources ≡ source ∷ drop (i + 1) sources = rw add-one (drop-cons sources i source within ∙ ap (λ (part : Part). part ∷ drop (suc i) sources) (sym is)) in
    ap (composed_from rows i content count) split

-- it isn't there
pub source_missing : (rows : List Row) (i : ℕ) (content : Whole) (count : ℕ) (sources : List Part) (source : Part) → i < length sources → source ≡ get_or sources i source
    → chosen_row source.name source.generation rows ≡ None → composed_from rows i content count (drop i sources) ≡ lacks (NoSource i)
source_missing rows i content count sources source within is none =
    next rows i content count sources source within is
    ∙ ap (λ found. composed_by found i source content count (λ whole sum. composed_from rows (i + 1) whole sum (drop (i + 1) sources))) none

-- it isn't the version that it must be
pub source_refused : (rows : List Row) (i : ℕ) (content : Whole) (count : ℕ) (sources : List Part) (source : Part) (row : Row) (reason : Reason) → i < length sources → source ≡ get_or sources i source
    → chosen_row source.name source.generation rows ≡ Some row → source_refusal i source.generation_is row.generation ≡ Some reason
    → composed_from rows i content count (drop i sources) ≡ lacks reason
source_refused rows i content count sources source row reason within is found refused =
    next rows i content count sources source within is ∙ rw (found, refused) refl

-- it is joined
pub source_joined : (rows : List Row) (i : ℕ) (content : Whole) (count : ℕ) (sources : List Part) (source : Part) (row : Row) → i < length sources → source ≡ get_or sources i source
    → chosen_row source.name source.generation rows ≡ Some row → source_refusal i source.generation_is row.generation ≡ None
    → composed_from rows i content count (drop i sources)
    ≡ composed_from rows (i + 1) (with_whole content row.hashed.content) (count + components_of row) (drop (i + 1) sources)
source_joined rows i content count sources source row within is found passed =
    next rows i content count sources source within is ∙ rw (found, passed) refl

-- a content and another has the bytes of both
pub joined_length : (content more : Whole) → length (bytes_of (with_whole content more)) ≡ length (bytes_of content) + length (bytes_of more)
joined_length content more =
    ap length (bytes_of-joined content (rest_of more 0))
    ∙ length-append (bytes_of content) (bytes_of (rest_of more 0))
    ∙ ap (λ bytes. length (bytes_of content) + length bytes) (bytes_of-rest_of more 0)

-- a search more, of at most so many
pub one_more_search : (i most n old between new : ℕ) → i < most → AreLooks i n old between → AreLooks 1 n between new → AreLooks most n old new
one_more_search i most n old between new within before one = fewer_searches (i + 1) most n old new (omega arith) (more_searches i 1 n old between new before one)
