-- Uploads whose body has two parts: JSON, and then the content (Cloud Storage, "JSON API multipart uploads"; RFC 2046, 5.1).
use Rattle.std.specs.Prelude.{◌≡◌, ◌⊎◌, ◌<◌, ℕ, Bool, true, false, List, [], ◌∷◌, length, Option}
use Rattle.gcs_meaning.specs.Content.{Digested, bytes_in}
use Rattle.gcs_meaning.specs.declared.reason.Key.TheVariants.{Body, HeadContentEncoding}
use Rattle.gcs_meaning.specs.declared.reason.Reason.{Reason}
use Rattle.gcs_meaning.specs.declared.reason.Reason.TheVariants.{Invalid, TooLong}
use Rattle.gcs_multipart.specs.Fields.{type_of}
use Rattle.gcs_multipart.specs.FirstContent.{IsFirstContent}
use Rattle.gcs_multipart.specs.Grammar.{IsBody, Part}
use Rattle.gcs_json.specs.declared.object.ObjectBody.{ObjectBody}
use Rattle.gcs_route.specs.declared.call.Call.{Call}
use Rattle.gcs_request.specs.Heads.{text_of_field}
use Rattle.gcs_request.specs.UploadJson.{IsJsonFault, IsSaidOf}

-- the content of the first part, up to the next delimiter or to the end of the body, has more bytes than JSON may have
abbrev pub IsLong : ℕ → List ℕ → List ℕ → Type 0
IsLong most boundary body = (json : List ℕ) × IsFirstContent boundary body json × (most < length json)

-- the body has these two parts, and no others
abbrev pub AreTwo : List ℕ → List ℕ → Part → Part → Type 0
AreTwo boundary body json content = IsBody boundary (content ∷ json ∷ []) body

-- the body has no two parts, or has others
abbrev pub AreOthers : List ℕ → List ℕ → Type 0
AreOthers boundary body = (json content : Part) → ¬ AreTwo boundary body json content

-- the content type that a part gives
abbrev pub part_type : Part → Option (List ℕ)
part_type part = text_of_field (type_of part.head)

-- the body has two parts, of which the first isn't too long: this text, and a content of this type with both digests
pub record IsTwo (most : ℕ) (boundary body text : List ℕ) (kind : Option (List ℕ)) (hashed : Digested) : Type 0 where
  pub short : ¬ IsLong most boundary body
  pub json : Part
  pub content : Part
  pub two : AreTwo boundary body json content
  pub text_is : text ≡ json.content
  pub kind_is : kind ≡ part_type content
  pub bytes : bytes_in hashed ≡ content.content
  pub md5 : hashed.with_md5 ≡ true

-- a body whose first part isn't too long is refused: it is encoded, or has other parts, or its JSON is refused
abbrev pub IsShortFault : Call → List ℕ → Bool → List ℕ → Reason → Type 0
IsShortFault call boundary true body reason = reason ≡ Invalid HeadContentEncoding
IsShortFault call boundary false body reason =
    (AreOthers boundary body × (reason ≡ Invalid Body))
    ⊎ ((json : Part) × (content : Part) × AreTwo boundary body json content × IsJsonFault call json.content reason)

-- the body of a multipart upload is refused: for the length of its JSON, else as above
abbrev pub IsPartsFault : ℕ → Call → List ℕ → Bool → List ℕ → Reason → Type 0
IsPartsFault most call boundary encoded body reason =
    (IsLong most boundary body × (reason ≡ TooLong))
    ⊎ (¬ IsLong most boundary body × IsShortFault call boundary encoded body reason)

-- what a multipart upload gives: what its JSON says, the type of its content, and the content
abbrev pub IsUploaded : ℕ → Call → List ℕ → Bool → List ℕ → ObjectBody → Option (List ℕ) → Digested → Type 0
IsUploaded most call boundary encoded body read kind hashed =
    (encoded ≡ false) × (text : List ℕ) × IsTwo most boundary body text kind hashed × IsSaidOf call text read
