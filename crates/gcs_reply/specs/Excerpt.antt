-- The bytes of a content from a place up to another.
use Rattle.std.specs.Prelude.{ℕ, List, slice_range}
use Rattle.gcs_chunks.specs.Content.{Whole, bytes_of}

-- a content, and the places from which and up to which its bytes are sent
pub record ExcerptValue : Type 0 where
  pub content : Whole
  pub from : ℕ
  pub to : ℕ

-- these bytes
abbrev pub cut_bytes : ExcerptValue → List ℕ
cut_bytes e = slice_range (bytes_of e.content) e.from e.to
