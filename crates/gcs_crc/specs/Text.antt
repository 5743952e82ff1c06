-- Digests as texts: base64 with padding (RFC 4648, 4).
use Rattle.std.specs.Prelude.{◌≡◌, ℕ, ◌<◌, ◌^◌, ◌==◌, nat_lt, Bool, true, ◌&&◌, if◌then◌else◌, List, [], ◌∷◌, length, Option, None, Some, option_map, option_and_then}
use Rattle.std.specs.Int.{w32, from_be_bytes, to_be_bytes}
use Rattle.base64.specs.Engines.{standard}
use Rattle.base64.specs.GeneralPurpose.{decoded_of, encode_of, IsBytes}

-- the text of a CRC32C: its four bytes, the highest first
abbrev pub crc_text_of : ℕ → List ℕ
crc_text_of value = encode_of standard (to_be_bytes w32 value)

-- the text of an MD5
abbrev pub md5_text_of : List ℕ → List ℕ
md5_text_of value = encode_of standard value

-- this text is that of the CRC32C
abbrev pub IsCrcText : List ℕ → ℕ → Type 0
IsCrcText text value = (value < 2 ^ 32) × (text ≡ crc_text_of value)

-- this text is that of the sixteen bytes
abbrev pub IsMd5Text : List ℕ → List ℕ → Type 0
IsMd5Text text value = (length value ≡ 16) × IsBytes value × (text ≡ md5_text_of value)

-- every number of the list is a byte
unfoldable pub are_bytes : List ℕ → Bool
are_bytes [] = true
are_bytes (number ∷ numbers) = nat_lt number 256 && are_bytes numbers

-- the bytes, where they are so many
unfoldable pub when_sized : ℕ → List ℕ → Option (List ℕ)
when_sized count bytes = if (length bytes == count) && are_bytes bytes then Some bytes else None

-- the so many bytes that have this text
unfoldable pub bytes_of_text : ℕ → List ℕ → Option (List ℕ)
bytes_of_text count text = option_and_then (when_sized count) (decoded_of standard text)

-- the CRC32C that has this text, where one has
unfoldable pub crc_of_text : List ℕ → Option ℕ
crc_of_text text = option_map (from_be_bytes w32) (bytes_of_text 4 text)

-- the MD5 that has this text, where one has
unfoldable pub md5_of_text : List ℕ → Option (List ℕ)
md5_of_text text = bytes_of_text 16 text
