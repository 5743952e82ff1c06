-- A content with its digests. They are those of its bytes, so that all its value has of them is whether the MD5 is kept.
use Rattle.std.specs.Prelude.{ℕ, List, Bool, Option, Some, None, if◌then◌else◌}
use Rattle.gcs_chunks.specs.Content.{Whole, bytes_of, joined, rest_of}
use Rattle.md5.specs.Md5.{md5}

-- a content, and whether its MD5 is kept beside its CRC: it isn't where the content was composed
pub record Digested : Type 0 where
  pub content : Whole
  pub with_md5 : Bool

-- the bytes of a content that has its digests
abbrev pub bytes_in : Digested → List ℕ
bytes_in hashed = bytes_of hashed.content

-- the MD5 of the bytes, where it is kept
abbrev pub md5_if : Bool → List ℕ → Option (List ℕ)
md5_if with_md5 bytes = if with_md5 then Some (md5 bytes) else None

-- the first content and then the second, from its first byte on
abbrev pub with_whole : Whole → Whole → Whole
with_whole content more = joined content (rest_of more 0)
