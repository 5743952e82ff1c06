-- What is gathered of a body, whatever part its head gives.
use Rattle.std.proofs.Common.{ℕ, Bool, List, Option, Result}
use Rattle.gcs_request.specs.declared.bodies.Come.{Come}
use Rattle.gcs_request.specs.declared.heading.HeadPart.{HeadPart}
use Rattle.gcs_request.specs.declared.heading.HeadPart.TheVariants as part
use Rattle.gcs_request.specs.Bodies.{IsCome}
use Rattle.gcs_session.specs.declared.body.Body.TheVariants as body
use Rattle.gcs_session.specs.declared.bounded.Bounded.{Bounded}
use Rattle.gcs_session.specs.declared.bounded.TextFault.{TextFault}
use Rattle.gcs_session.specs.declared.hashing.Hashing.{Hashing}
use Rattle.gcs_session.specs.declared.kept.Kept.{Kept}
use Rattle.gcs_session.specs.declared.two_parts.TwoParts.{TwoParts}
use Rattle.gcs_session.specs.Bodies.{AreReadIf, IsGathered, IsHashingIf, IsHeldIf, IsTextIf}

-- ---- more bytes

pub passed-more : (most : ℕ) (p : HeadPart) (bytes more : List ℕ) → IsGathered most p body.PassedOver bytes → IsGathered most p body.PassedOver more
passed-more most part.Nothing bytes more x = tt
passed-more most (part.Read range) bytes more x = tt
passed-more most (part.Whole kind) bytes more x = absurd x
passed-more most (part.Piece range) bytes more x = absurd x
passed-more most (part.Json encoded) bytes more x = absurd x
passed-more most (part.Begin kind total host encoded) bytes more x = absurd x
passed-more most (part.Parts boundary encoded) bytes more x = absurd x

pub content-more : (most : ℕ) (p : HeadPart) (old new : Option Hashing) (bytes more : List ℕ) → (IsHashingIf old bytes → IsHashingIf new more) → IsGathered most p (body.Content old) bytes → IsGathered most p (body.Content new) more
content-more most part.Nothing old new bytes more on x = absurd x
content-more most (part.Read range) old new bytes more on x = absurd x
content-more most (part.Whole kind) old new bytes more on x = on x
content-more most (part.Piece range) old new bytes more on x = absurd x
content-more most (part.Json encoded) old new bytes more on x = absurd x
content-more most (part.Begin kind total host encoded) old new bytes more on x = absurd x
content-more most (part.Parts boundary encoded) old new bytes more on x = absurd x

pub piece-more : (most : ℕ) (p : HeadPart) (old new : Option Kept) (bytes more : List ℕ) → (IsHeldIf old bytes → IsHeldIf new more) → IsGathered most p (body.Piece old) bytes → IsGathered most p (body.Piece new) more
piece-more most part.Nothing old new bytes more on x = absurd x
piece-more most (part.Read range) old new bytes more on x = absurd x
piece-more most (part.Whole kind) old new bytes more on x = absurd x
piece-more most (part.Piece range) old new bytes more on x = on x
piece-more most (part.Json encoded) old new bytes more on x = absurd x
piece-more most (part.Begin kind total host encoded) old new bytes more on x = absurd x
piece-more most (part.Parts boundary encoded) old new bytes more on x = absurd x

pub text-more : (most : ℕ) (p : HeadPart) (old new : Result Bounded TextFault) (bytes more : List ℕ) → (IsTextIf most old bytes → IsTextIf most new more) → IsGathered most p (body.Text old) bytes → IsGathered most p (body.Text new) more
text-more most part.Nothing old new bytes more on x = absurd x
text-more most (part.Read range) old new bytes more on x = absurd x
text-more most (part.Whole kind) old new bytes more on x = absurd x
text-more most (part.Piece range) old new bytes more on x = absurd x
text-more most (part.Json encoded) old new bytes more on x = on x
text-more most (part.Begin kind total host encoded) old new bytes more on x = on x
text-more most (part.Parts boundary encoded) old new bytes more on x = absurd x

pub parts-more : (most : ℕ) (p : HeadPart) (old new : Option TwoParts) (bytes more : List ℕ) → ((boundary : List ℕ) → AreReadIf most boundary old bytes → AreReadIf most boundary new more)
    → IsGathered most p (body.Parts old) bytes → IsGathered most p (body.Parts new) more
parts-more most part.Nothing old new bytes more on x = absurd x
parts-more most (part.Read range) old new bytes more on x = absurd x
parts-more most (part.Whole kind) old new bytes more on x = absurd x
parts-more most (part.Piece range) old new bytes more on x = absurd x
parts-more most (part.Json encoded) old new bytes more on x = absurd x
parts-more most (part.Begin kind total host encoded) old new bytes more on x = absurd x
parts-more most (part.Parts boundary encoded) old new bytes more on x = on boundary x

-- ---- the whole body

pub parts-come : (most : ℕ) (p : HeadPart) (parts : Option TwoParts) (c : Come) (bytes : List ℕ) → ((boundary : List ℕ) (encoded : Bool) → AreReadIf most boundary parts bytes → IsCome most (part.Parts boundary encoded) bytes c)
    → IsGathered most p (body.Parts parts) bytes → IsCome most p bytes c
parts-come most part.Nothing parts c bytes on x = absurd x
parts-come most (part.Read range) parts c bytes on x = absurd x
parts-come most (part.Whole kind) parts c bytes on x = absurd x
parts-come most (part.Piece range) parts c bytes on x = absurd x
parts-come most (part.Json encoded) parts c bytes on x = absurd x
parts-come most (part.Begin kind total host encoded) parts c bytes on x = absurd x
parts-come most (part.Parts boundary encoded) parts c bytes on x = on boundary encoded x
