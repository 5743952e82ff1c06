-- What is read of a body of which two parts are wanted: JSON, and then the content.
use Rattle.std.specs.Prelude.{◌≡◌, ◌≤◌, ◌<◌, ℕ, List, [], ◌∷◌, length, Option, Some, None}
use Rattle.gcs_multipart.specs.Delimiter.{IsBoundary}
use Rattle.gcs_multipart.specs.Grammar.{Part}
use Rattle.gcs_multipart.specs.Stands.{Stands}
use Rattle.gcs_request.specs.Parts.{part_type}
use Rattle.gcs_session.specs.declared.two_parts.PartsKept.{PartsKept}
use Rattle.gcs_session.specs.declared.two_parts.PartsKept.TheVariants as kept
use Rattle.gcs_session.specs.declared.two_parts.TwoParts.{TwoParts}
use Rattle.gcs_session.specs.Holding.{IsHashing, IsTextOf}

-- the parts that have begun, the newest first: those that are whole, and then the one under way
abbrev pub begun : List Part → Option Part → List Part
begun whole None = whole
begun whole (Some it) = it ∷ whole

-- the first of these parts, which stands last
abbrev pub first_of : Part → List Part → Part
first_of it [] = it
first_of it (part ∷ parts) = first_of part parts

-- this is kept of the parts that have begun: nothing of none; of the first one a text; of the second one a content, and its type.
-- Where the first one is too long for a text, or there are more than two, this alone is known
abbrev pub AreKept : ℕ → PartsKept → List Part → Type 0
AreKept most kept.Nothing [] = Unit {0}
AreKept most (kept.One text) (json ∷ []) = IsTextOf most text json.content
AreKept most (kept.Two text kind content) (it ∷ json ∷ []) = IsTextOf most text json.content × (kind ≡ part_type it) × IsHashing content it.content
AreKept most kept.TooLong (it ∷ parts) = most < length (first_of it parts).content
AreKept most kept.Others (it ∷ second ∷ json ∷ parts) = length (first_of json parts).content ≤ most
AreKept most _ _ = ⊥

-- these bytes of a body with that boundary were read
pub record AreRead (most : ℕ) (boundary : List ℕ) (two : TwoParts) (bytes : List ℕ) : Type 0 where
  pub fits : IsBoundary boundary
  pub most_is : two.most ≡ most
  pub whole : List Part
  pub current : Option Part
  pub stands : Stands two.parts boundary bytes whole current
  pub kept : AreKept most two.kept (begun whole current)
