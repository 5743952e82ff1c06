-- The bytes of a content or of a text that comes.
use Rattle.std.specs.Prelude.{◌≡◌, ◌≤◌, ℕ, List, ◌++◌, length}
use Rattle.gcs_chunks.specs.Content.{bytes_of}
use Rattle.gcs_crc.specs.Digests.{StandsAfter}
use Rattle.gcs_session.specs.declared.bounded.Bounded.{Bounded}
use Rattle.gcs_session.specs.declared.hashing.Hashing.{Hashing}
use Rattle.gcs_session.specs.declared.kept.Kept.{Kept}

-- all bytes are kept: those of the content, and then those of the next piece
abbrev pub IsHeld : Kept → List ℕ → Type 0
IsHeld k bytes = bytes ≡ bytes_of k.content ++ k.filling.bytes.items

-- all bytes are kept, and both digests have been given them
pub record IsHashing (h : Hashing) (bytes : List ℕ) : Type 0 where
  pub held : IsHeld h.kept bytes
  pub digested : StandsAfter h.digests bytes

-- all bytes are there, and they are no more than a text may have
pub record IsTextOf (most : ℕ) (text : Bounded) (bytes : List ℕ) : Type 0 where
  pub bytes_are : text.bytes.items ≡ bytes
  pub most_is : text.most ≡ most
  pub within : length bytes ≤ most
