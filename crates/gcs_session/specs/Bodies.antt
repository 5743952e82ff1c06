-- What has come of a body.
use Rattle.std.specs.Prelude.{◌<◌, ℕ, List, length, Option, Some, None, Result, Ok, Err}
use Rattle.gcs_request.specs.declared.heading.HeadPart.{HeadPart}
use Rattle.gcs_request.specs.declared.heading.HeadPart.TheVariants as part
use Rattle.gcs_request.specs.declared.heading.Heading.{Heading}
use Rattle.gcs_request.specs.Heading.{part_with}
use Rattle.gcs_session.specs.declared.body.Body.{Body}
use Rattle.gcs_session.specs.declared.body.Body.TheVariants as body
use Rattle.gcs_session.specs.declared.bounded.Bounded.{Bounded}
use Rattle.gcs_session.specs.declared.bounded.TextFault.{TextFault}
use Rattle.gcs_session.specs.declared.bounded.TextFault.TheVariants.{TooLong, NoMemory}
use Rattle.gcs_session.specs.declared.hashing.Hashing.{Hashing}
use Rattle.gcs_session.specs.declared.kept.Kept.{Kept}
use Rattle.gcs_session.specs.declared.two_parts.TwoParts.{TwoParts}
use Rattle.gcs_session.specs.Holding.{IsHashing, IsHeld, IsTextOf}
use Rattle.gcs_session.specs.TwoParts.{AreRead}

-- these bytes are kept as a content with its digests, or memory lacked for them
abbrev pub IsHashingIf : Option Hashing → List ℕ → Type 0
IsHashingIf (Some hashing) bytes = IsHashing hashing bytes
IsHashingIf None bytes = Unit {0}

-- these bytes are kept as a piece, or memory lacked for them
abbrev pub IsHeldIf : Option Kept → List ℕ → Type 0
IsHeldIf (Some kept) bytes = IsHeld kept bytes
IsHeldIf None bytes = Unit {0}

-- these bytes are there as a text, which may have so many; or are too many for it, or memory lacked for them
abbrev pub IsTextIf : ℕ → Result Bounded TextFault → List ℕ → Type 0
IsTextIf most (Ok text) bytes = IsTextOf most text bytes
IsTextIf most (Err TooLong) bytes = most < length bytes
IsTextIf most (Err NoMemory) bytes = Unit {0}

-- these bytes were read as parts, or memory lacked for them
abbrev pub AreReadIf : ℕ → List ℕ → Option TwoParts → List ℕ → Type 0
AreReadIf most boundary (Some two) bytes = AreRead most boundary two bytes
AreReadIf most boundary None bytes = Unit {0}

-- what the head gives by which the body is read. Where memory lacked for what the head asks for, it gives nothing
abbrev pub part_in : Option Heading → HeadPart
part_in None = part.Nothing
part_in (Some heading) = part_with heading

-- these bytes have come of a body whose head gives this part: that of an upload is kept as a content with its digests, a piece of a
-- resumable one without them, JSON as a text, two parts as a text and a content, and any other body is passed over
abbrev pub IsGathered : ℕ → HeadPart → Body → List ℕ → Type 0
IsGathered most part.Nothing body.PassedOver bytes = Unit {0}
IsGathered most (part.Read range) body.PassedOver bytes = Unit {0}
IsGathered most (part.Whole kind) (body.Content content) bytes = IsHashingIf content bytes
IsGathered most (part.Piece range) (body.Piece kept) bytes = IsHeldIf kept bytes
IsGathered most (part.Json encoded) (body.Text text) bytes = IsTextIf most text bytes
IsGathered most (part.Begin kind total host encoded) (body.Text text) bytes = IsTextIf most text bytes
IsGathered most (part.Parts boundary encoded) (body.Parts parts) bytes = AreReadIf most boundary parts bytes
IsGathered most _ _ bytes = ⊥
