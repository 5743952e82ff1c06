-- Parameters of a query: when each is refused (Cloud Storage JSON API, the parameters of "Buckets" and "Objects").
use Rattle.std.specs.Prelude.{◌≡◌, ◌≢◌, ◌%◌, ℕ, ◌≤◌, List, [], ◌∷◌, ◌⊎◌, All, length, codes}
use Rattle.std.specs.Str.Parse.{digits_value}
use Rattle.gcs_names.specs.Name.{IsObjectName}
use Rattle.gcs_query.specs.Query.{Pair}
use Rattle.gcs_query.specs.Values.{value_of, IsNumber, IsTrueText, IsFalseText}
use Rattle.gcs_meaning.specs.declared.reason.Key.{Key}
use Rattle.gcs_meaning.specs.declared.reason.Key.TheVariants as key
use Rattle.gcs_meaning.specs.declared.reason.Reason.{Reason}
use Rattle.gcs_meaning.specs.declared.reason.Reason.TheVariants.{Required, Invalid}
use Rattle.gcs_meaning.specs.Refusals.{key_name}
use Rattle.gcs_route.specs.declared.fault.RouteFault.{RouteFault}
use Rattle.gcs_route.specs.declared.fault.RouteFault.TheVariants.{Refused, NoMemory}
use Rattle.gcs_route.specs.declared.table.Param.{Param}
use Rattle.gcs_route.specs.declared.table.Param.TheVariants.{Alt, SoftOfGet, GenerationOfGet, Generation, If, UploadType, Name, ContentEncoding, Prefix, Delimiter, StartOffset, EndOffset, IncludeTrailingDelimiter, Versions, SoftOfList, MaxResults, PageToken, AltOfDownload, SoftOfDownload, NeededGeneration, NeededMetageneration, SourceGeneration, IfSource, MaxBytesRewrittenPerCall, RewriteToken, UploadId}
use Rattle.gcs_route.specs.declared.table.Condition.{Condition}
use Rattle.gcs_route.specs.declared.table.Condition.TheVariants.{GenerationIs, GenerationNot, MetagenerationIs, MetagenerationNot}

-- the text of a key in the query, empty where it has none
abbrev pub text_at : List Pair → Key → List ℕ
text_at query key = value_of (key_name key) query

-- there is a text, and it is no number
abbrev pub IsNoNumber : List ℕ → Type 0
IsNoNumber text = (text ≢ []) × ¬ IsNumber text

-- there is a text, and it is no number above 0
abbrev pub IsNoCount : List ℕ → Type 0
IsNoCount text = (text ≢ []) × (IsNumber text → digits_value 10 text ≡ 0)

-- there is a text, and it is no multiple of 1,048,576 above 0
abbrev pub IsNoShare : List ℕ → Type 0
IsNoShare text = IsNoCount text ⊎ ((text ≢ []) × (digits_value 10 text % 1_048_576 ≢ 0))

-- there is a text, and it is neither `true` nor `false`
abbrev pub IsNoFlag : List ℕ → Type 0
IsNoFlag text = (text ≢ []) × (¬ IsTrueText text) × (¬ IsFalseText text)

-- there is a text, and it is neither `json` nor `media`
abbrev pub IsNoAlt : List ℕ → Type 0
IsNoAlt text = (text ≢ []) × (text ≢ codes "json") × (text ≢ codes "media")

-- there is a text, and it is no way to upload
abbrev pub IsNoUpload : List ℕ → Type 0
IsNoUpload text = (text ≢ []) × (text ≢ codes "media") × (text ≢ codes "multipart") × (text ≢ codes "resumable")

-- there is a text, and it names no object
abbrev pub IsNoName : List ℕ → Type 0
IsNoName text = (text ≢ []) × ¬ IsObjectName text

-- at most 1,024 bytes, none below 32 or equal to 127
abbrev pub IsFieldText : List ℕ → Type 0
IsFieldText text = (length text ≤ 1024) × All (λ b. (32 ≤ b) × (b ≢ 127)) text

-- the key of a precondition, and that of one on the source of a copy
abbrev pub key_of : Condition → Key
key_of GenerationIs = key.IfGenerationMatch
key_of GenerationNot = key.IfGenerationNotMatch
key_of MetagenerationIs = key.IfMetagenerationMatch
key_of MetagenerationNot = key.IfMetagenerationNotMatch

abbrev pub source_key_of : Condition → Key
source_key_of GenerationIs = key.IfSourceGenerationMatch
source_key_of GenerationNot = key.IfSourceGenerationNotMatch
source_key_of MetagenerationIs = key.IfSourceMetagenerationMatch
source_key_of MetagenerationNot = key.IfSourceMetagenerationNotMatch

-- the key is required and there is no text
abbrev pub Lacks : List Pair → Key → Reason → Type 0
Lacks query key reason = (reason ≡ Required key) × (text_at query key ≡ [])

-- the key's text is wrong
abbrev pub Wrong : (List ℕ → Type 0) → List Pair → Key → Reason → Type 0
Wrong IsWrong query key reason = (reason ≡ Invalid key) × IsWrong (text_at query key)

-- the parameter is refused for that reason
abbrev pub Refuses : List Pair → Param → Reason → Type 0
Refuses q Alt r = Wrong IsNoAlt q key.Alt r
Refuses q SoftOfGet r = Wrong IsNoFlag q key.SoftDeleted r ⊎ (Wrong IsTrueText q key.SoftDeleted r × (text_at q key.Alt ≡ codes "media"))
Refuses q GenerationOfGet r = (IsTrueText (text_at q key.SoftDeleted) × Lacks q key.Generation r) ⊎ Wrong IsNoNumber q key.Generation r
Refuses q Generation r = Wrong IsNoNumber q key.Generation r
Refuses q (If which) r = Wrong IsNoNumber q (key_of which) r
Refuses q UploadType r = Lacks q key.UploadType r ⊎ Wrong IsNoUpload q key.UploadType r
Refuses q Name r = Wrong IsNoName q key.Name r
Refuses q ContentEncoding r = Wrong (λ text. ¬ IsFieldText text) q key.ContentEncoding r
Refuses q Prefix r = ⊥
Refuses q Delimiter r = ⊥
Refuses q StartOffset r = ⊥
Refuses q EndOffset r = ⊥
Refuses q IncludeTrailingDelimiter r = Wrong IsNoFlag q key.IncludeTrailingDelimiter r
Refuses q Versions r = Wrong IsNoFlag q key.Versions r
Refuses q SoftOfList r = Wrong IsNoFlag q key.SoftDeleted r ⊎ (Wrong IsTrueText q key.SoftDeleted r × IsTrueText (text_at q key.Versions))
Refuses q MaxResults r = Wrong IsNoCount q key.MaxResults r
Refuses q PageToken r = ⊥
Refuses q AltOfDownload r = Wrong IsNoAlt q key.Alt r
Refuses q SoftOfDownload r = Wrong IsNoFlag q key.SoftDeleted r ⊎ Wrong IsTrueText q key.SoftDeleted r
Refuses q NeededGeneration r = Lacks q key.Generation r ⊎ Wrong IsNoNumber q key.Generation r
Refuses q NeededMetageneration r = Lacks q key.IfMetagenerationMatch r ⊎ Wrong IsNoNumber q key.IfMetagenerationMatch r
Refuses q SourceGeneration r = Wrong IsNoNumber q key.SourceGeneration r
Refuses q (IfSource which) r = Wrong IsNoNumber q (source_key_of which) r
Refuses q MaxBytesRewrittenPerCall r = Wrong IsNoShare q key.MaxBytesRewrittenPerCall r
Refuses q RewriteToken r = ⊥
Refuses q UploadId r = Lacks q key.UploadId r ⊎ Wrong IsNoCount q key.UploadId r

-- the parameter passes
abbrev pub Accepts : List Pair → Param → Type 0
Accepts q p = (r : Reason) → Refuses q p r → ⊥

-- a fault of that parameter: its refusal, or want of memory
abbrev pub IsFaultOf : List Pair → Param → RouteFault → Type 0
IsFaultOf q p (Refused r) = Refuses q p r
IsFaultOf q p NoMemory = Unit {0}

-- a fault of a key whose text is wrong
abbrev pub IsWrongAt : (List ℕ → Type 0) → List Pair → Key → RouteFault → Type 0
IsWrongAt IsWrong q key (Refused r) = Wrong IsWrong q key r
IsWrongAt IsWrong q key NoMemory = Unit {0}

-- no parameter is refused
abbrev pub AllAccepted : List Pair → List Param → Type 0
AllAccepted q [] = Unit {0}
AllAccepted q (p ∷ ps) = Accepts q p × AllAccepted q ps

-- the first parameter that is refused is so for that reason
abbrev pub FirstRefuses : List Pair → List Param → Reason → Type 0
FirstRefuses q [] r = ⊥
FirstRefuses q (p ∷ ps) r = Refuses q p r ⊎ (Accepts q p × FirstRefuses q ps r)

-- a fault of the first parameter that is refused
abbrev pub IsFirstFaultOf : List Pair → List Param → RouteFault → Type 0
IsFirstFaultOf q ps NoMemory = Unit {0}
IsFirstFaultOf q ps (Refused r) = FirstRefuses q ps r

-- a fault of a key that is required: it has no text, or a wrong one
abbrev pub IsNeededFault : (List ℕ → Type 0) → List Pair → Key → RouteFault → Type 0
IsNeededFault IsWrong q key (Refused r) = Lacks q key r ⊎ Wrong IsWrong q key r
IsNeededFault IsWrong q key NoMemory = Unit {0}
