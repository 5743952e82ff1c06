-- A refused request has one reason.
use Rattle.std.proofs.Common.{◌≡◌, ◌≢◌, ℕ, List, [], ◌∷◌, ◌⊎◌, inl, inr, Option, Some, None, sym, ap, ◌∙◌}
use Rattle.gcs_query.specs.Query.{Pair, pairs_of}
use Rattle.gcs_query.specs.Values.{IsTrueText}
use Rattle.gcs_meaning.specs.declared.reason.Key.{Key}
use Rattle.gcs_meaning.specs.declared.reason.Key.TheVariants as key
use Rattle.gcs_meaning.specs.declared.reason.Reason.{Reason}
use Rattle.gcs_meaning.specs.declared.reason.Reason.TheVariants.{Invalid, BadMask}
use Rattle.gcs_route.specs.declared.fault.RouteFault.TheVariants.{Refused}
use Rattle.gcs_route.specs.declared.table.Param.{Param}
use Rattle.gcs_route.specs.declared.table.Param.TheVariants.{Alt, SoftOfGet, GenerationOfGet, Generation, If, UploadType, Name, ContentEncoding, Prefix, Delimiter, StartOffset, EndOffset, IncludeTrailingDelimiter, Versions, SoftOfList, MaxResults, PageToken, AltOfDownload, SoftOfDownload, NeededGeneration, NeededMetageneration, SourceGeneration, IfSource, MaxBytesRewrittenPerCall, RewriteToken, UploadId}
use Rattle.gcs_route.specs.Paths.{segments, path_of, query_of}
use Rattle.gcs_route.specs.Table.{Row, routes}
use Rattle.gcs_route.specs.Finding.{find_row}
use Rattle.gcs_route.specs.Params.{text_at, IsNoNumber, IsNoCount, IsNoFlag, IsNoUpload, Lacks, Wrong, Refuses}
use Rattle.gcs_route.specs.Masks.{fields_of}
use Rattle.gcs_route.proofs.OneMask.{one_place}
use Rattle.gcs_route.specs.Refusals.{Test, bucket, object, query, param, mask, Fails, FirstFails, tests}
use Rattle.gcs_route.specs.Pieces.{row_by}
use Rattle.gcs_route.specs.Calls.{IsFault, IsFaultBy}

-- a key that is required has no text, or a wrong one
needed : (q : List Pair) (k : Key) (IsWrong : List ℕ → Type 0) (r s : Reason) → (IsWrong (text_at q k) → text_at q k ≢ [])
    → Lacks q k r ⊎ Wrong IsWrong q k r → Lacks q k s ⊎ Wrong IsWrong q k s → r ≡ s
needed q k IsWrong r s some (inl f) (inl g) = f.0 ∙ sym g.0
needed q k IsWrong r s some (inl f) (inr g) = absurd (some g.1 f.1)
needed q k IsWrong r s some (inr f) (inl g) = absurd (some f.1 g.1)
needed q k IsWrong r s some (inr f) (inr g) = f.0 ∙ sym g.0

-- a flag that is none, or is set where it may not be
unset : (q : List Pair) (k : Key) (Other : Type 0) (r : Reason) → Wrong IsNoFlag q k r ⊎ (Wrong IsTrueText q k r × Other) → r ≡ Invalid k
unset q k Other r (inl f) = f.0
unset q k Other r (inr f) = f.0.0

-- a generation that is required where a flag is set
where_set : (q : List Pair) (k : Key) (IsWrong : List ℕ → Type 0) (IsSet : Type 0) (r : Reason) → (IsSet × Lacks q k r) ⊎ Wrong IsWrong q k r → Lacks q k r ⊎ Wrong IsWrong q k r
where_set q k IsWrong IsSet r (inl f) = inl f.1
where_set q k IsWrong IsSet r (inr f) = inr f

-- a flag that is none, or is set
one_of_two : (q : List Pair) (k : Key) (r : Reason) → Wrong IsNoFlag q k r ⊎ Wrong IsTrueText q k r → r ≡ Invalid k
one_of_two q k r (inl f) = f.0
one_of_two q k r (inr f) = f.0

-- a parameter is refused for one reason
one_of_param : (q : List Pair) (p : Param) (r s : Reason) → Refuses q p r → Refuses q p s → r ≡ s
one_of_param q Alt r s f g = f.0 ∙ sym g.0
one_of_param q SoftOfGet r s f g = unset q key.SoftDeleted _ r f ∙ sym (unset q key.SoftDeleted _ s g)
one_of_param q GenerationOfGet r s f g = needed q key.Generation IsNoNumber r s (λ wrong. wrong.0) (where_set q key.Generation IsNoNumber _ r f) (where_set q key.Generation IsNoNumber _ s g)
one_of_param q Generation r s f g = f.0 ∙ sym g.0
one_of_param q (If which) r s f g = f.0 ∙ sym g.0
one_of_param q UploadType r s f g = needed q key.UploadType IsNoUpload r s (λ wrong. wrong.0) f g
one_of_param q Name r s f g = f.0 ∙ sym g.0
one_of_param q ContentEncoding r s f g = f.0 ∙ sym g.0
one_of_param q Prefix r s f g = absurd f
one_of_param q Delimiter r s f g = absurd f
one_of_param q StartOffset r s f g = absurd f
one_of_param q EndOffset r s f g = absurd f
one_of_param q IncludeTrailingDelimiter r s f g = f.0 ∙ sym g.0
one_of_param q Versions r s f g = f.0 ∙ sym g.0
one_of_param q SoftOfList r s f g = unset q key.SoftDeleted _ r f ∙ sym (unset q key.SoftDeleted _ s g)
one_of_param q MaxResults r s f g = f.0 ∙ sym g.0
one_of_param q PageToken r s f g = absurd f
one_of_param q AltOfDownload r s f g = f.0 ∙ sym g.0
one_of_param q SoftOfDownload r s f g = one_of_two q key.SoftDeleted r f ∙ sym (one_of_two q key.SoftDeleted s g)
one_of_param q NeededGeneration r s f g = needed q key.Generation IsNoNumber r s (λ wrong. wrong.0) f g
one_of_param q NeededMetageneration r s f g = needed q key.IfMetagenerationMatch IsNoNumber r s (λ wrong. wrong.0) f g
one_of_param q SourceGeneration r s f g = f.0 ∙ sym g.0
one_of_param q (IfSource which) r s f g = f.0 ∙ sym g.0
one_of_param q MaxBytesRewrittenPerCall r s f g = f.0 ∙ sym g.0
one_of_param q RewriteToken r s f g = absurd f
one_of_param q UploadId r s f g = needed q key.UploadId IsNoCount r s (λ wrong. wrong.0) f g

-- so is a test
one_of_test : (text : List ℕ) (t : Test) (r s : Reason) → Fails text t r → Fails text t s → r ≡ s
one_of_test text (bucket name) r s f g = f.0 ∙ sym g.0
one_of_test text (object name) r s f g = f.0 ∙ sym g.0
one_of_test text query r s f g = f.0 ∙ sym g.0
one_of_test text (param p) r s f g = one_of_param (pairs_of text) p r s f g
one_of_test text mask r s f g = f.1 ∙ ap BadMask (one_place (fields_of (pairs_of text)) f.0 g.0 f.2.1 g.2.1) ∙ sym g.1

-- and the first test that fails
one_of_first : (text : List ℕ) (ts : List Test) (r s : Reason) → FirstFails text ts r → FirstFails text ts s → r ≡ s
one_of_first text [] r s f g = absurd f
one_of_first text (t ∷ ts) r s (inl f) (inl g) = one_of_test text t r s f g
one_of_first text (t ∷ ts) r s (inl f) (inr g) = absurd (g.0 r f)
one_of_first text (t ∷ ts) r s (inr f) (inl g) = absurd (f.0 s g)
one_of_first text (t ∷ ts) r s (inr f) (inr g) = one_of_first text ts r s f.1 g.1

one_by : (o : Option Row) (segs : List (List ℕ)) (text : List ℕ) (r s : Reason) → IsFaultBy o segs text (Refused r) → IsFaultBy o segs text (Refused s) → r ≡ s
one_by None segs text r s f g = f ∙ sym g
one_by (Some row) segs text r s f g = one_of_first text (tests (row_by (pairs_of text) row) segs) r s f g

-- a request that is refused is so for one reason
pub one_reason : (method target : List ℕ) (reason other : Reason) → IsFault method target (Refused reason) → IsFault method target (Refused other) → reason ≡ other
one_reason method target reason other f g = one_by (find_row routes method (segments (path_of target))) (segments (path_of target)) (query_of target) reason other f g
