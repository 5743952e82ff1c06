-- What has come of a body.
use Rattle.std.specs.Prelude.{◌≡◌, ◌≤◌, ◌<◌, ℕ, true, List, length}
use Rattle.gcs_chunks.specs.Content.{bytes_of}
use Rattle.gcs_meaning.specs.Content.{bytes_in}
use Rattle.gcs_request.specs.declared.bodies.Come.{Come}
use Rattle.gcs_request.specs.declared.bodies.Come.TheVariants.{PassedOver, Content, Piece, Text, TooLong, Two, OtherParts}
use Rattle.gcs_request.specs.declared.heading.HeadPart.{HeadPart}
use Rattle.gcs_request.specs.declared.heading.HeadPart.TheVariants as part
use Rattle.gcs_request.specs.Parts.{AreOthers, IsLong, IsTwo}

-- this has come of a text, which may have so many bytes: its bytes, or it is too long
abbrev pub IsTextCome : ℕ → List ℕ → Come → Type 0
IsTextCome most bytes (Text text) = (text.items ≡ bytes) × (length bytes ≤ most)
IsTextCome most bytes TooLong = most < length bytes
IsTextCome most bytes _ = ⊥

-- this has come of a body whose head gives this part: that of an upload is a content, with both digests, and a piece of one is a
-- content; JSON is a text, which may have so many bytes, or is too long; a body with parts has two of them, or others, or its
-- first one is too long; any other body was passed over
abbrev pub IsCome : ℕ → HeadPart → List ℕ → Come → Type 0
IsCome most part.Nothing bytes PassedOver = Unit {0}
IsCome most (part.Read range) bytes PassedOver = Unit {0}
IsCome most (part.Whole kind) bytes (Content hashed) = (bytes_in hashed ≡ bytes) × (hashed.with_md5 ≡ true)
IsCome most (part.Piece range) bytes (Piece content) = bytes_of content ≡ bytes
IsCome most (part.Json encoded) bytes come = IsTextCome most bytes come
IsCome most (part.Begin kind total host encoded) bytes come = IsTextCome most bytes come
IsCome most (part.Parts boundary encoded) bytes TooLong = IsLong most boundary bytes
IsCome most (part.Parts boundary encoded) bytes (Two text kind hashed) = IsTwo most boundary bytes text.items kind hashed
IsCome most (part.Parts boundary encoded) bytes OtherParts = ¬ IsLong most boundary bytes × AreOthers boundary bytes
IsCome most _ bytes _ = ⊥
