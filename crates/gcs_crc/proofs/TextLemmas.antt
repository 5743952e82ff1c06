-- Reading a digest's text by the functions is the same as by the relations.
use Rattle.std.proofs.Common.{◌≡◌, ℕ, zero, suc, ◌<◌, ◌^◌, ◌&&◌, Bool, true, false, if◌then◌else◌, List, [], ◌∷◌, length, refl, sym, ap, ap₂, ◌∙◌, subst, arith, eq-eqb, eqb-true, ne_eqb}
use Rattle.std.specs.Prelude.{Option, Some, None, Result, Ok, Err, option_map, option_and_then, ◌↔◌}
use Rattle.std.specs.Int.{w32, from_be_bytes, to_be_bytes}
use Rattle.std.specs.Result.{result_ok}
use Rattle.std.proofs.lemmas.Bool.{false≢true, ltb-true, lt-ltb}
use Rattle.std.proofs.lemmas.Nat.{be_bytes_4, from_be_bytes-to_be_bytes_4}
use Rattle.base64.specs.Engines.{standard}
use Rattle.base64.specs.GeneralPurpose.{decode_of, decoded_of, encode_of, IsBytes}
use Rattle.base64.specs.declared.decode.DecodeError.{DecodeError}
use Rattle.base64.proofs.EngineFacts.{decode_of-encode_of, decode_of_strict}
use Rattle.gcs_crc.specs.Text.{IsCrcText, IsMd5Text, are_bytes, when_sized, bytes_of_text, crc_of_text, md5_of_text}

both : (a b : Bool) → (a && b) ≡ true → (a ≡ true) × (b ≡ true)
both true b h = (refl, h)
both false b h = absurd (false≢true h)

-- bytes pass the test
are_bytes-yes : (bytes : List ℕ) → IsBytes bytes → are_bytes bytes ≡ true
unfolding are_bytes
are_bytes-yes [] h = refl
are_bytes-yes (b ∷ bs) h =
    ap₂ (λ s t. s && t) (lt-ltb b 256 (h 0)) (are_bytes-yes bs (λ i. h (suc i)))

-- what passes the test is bytes
are_bytes-true : (bytes : List ℕ) → are_bytes bytes ≡ true → IsBytes bytes
unfolding are_bytes
are_bytes-true [] h i = omega arith
are_bytes-true (b ∷ bs) h zero = ltb-true b 256 (both _ _ h).0
are_bytes-true (b ∷ bs) h (suc i) = are_bytes-true bs (both _ _ h).1 i

-- so many bytes are kept
when_sized-yes : (count : ℕ) (bytes : List ℕ) → length bytes ≡ count → IsBytes bytes → when_sized count bytes ≡ Some bytes
unfolding when_sized
when_sized-yes count bytes l h =
    ap₂ (λ s t. if s && t then Some bytes else None) (eq-eqb (length bytes) count l) (are_bytes-yes bytes h)

chosen : (test : Bool) (bytes kept : List ℕ) → (if test then Some bytes else None) ≡ Some kept → (test ≡ true) × (bytes ≡ kept)
chosen true bytes kept h = (refl, cc)
chosen false bytes kept h = cc

-- what is kept are so many bytes, as they were
when_sized-some : (count : ℕ) (bytes kept : List ℕ) → when_sized count bytes ≡ Some kept → (bytes ≡ kept) × (length kept ≡ count) × IsBytes kept
unfolding when_sized
when_sized-some count bytes kept h =
    let c = chosen _ bytes kept h in
    let t = both _ _ c.0 in
    (c.1, ap length (sym c.1) ∙ eqb-true (length bytes) count t.0, subst IsBytes c.1 (are_bytes-true bytes t.1))

-- so many bytes that the text decodes to are read
pub bytes_of_text-decoded : (count : ℕ) (text bytes : List ℕ) → decode_of standard text ≡ Ok bytes → length bytes ≡ count → IsBytes bytes → bytes_of_text count text ≡ Some bytes
unfolding bytes_of_text decoded_of
bytes_of_text-decoded count text bytes decoded l h =
    ap (λ r. option_and_then (when_sized count) (result_ok r)) decoded ∙ when_sized-yes count bytes l h

-- another number of bytes is not read
pub bytes_of_text-other : (count : ℕ) (text bytes : List ℕ) → decode_of standard text ≡ Ok bytes → (length bytes ≡ count → ⊥) → bytes_of_text count text ≡ None
unfolding bytes_of_text decoded_of when_sized
bytes_of_text-other count text bytes decoded l =
    ap (λ r. option_and_then (when_sized count) (result_ok r)) decoded
    ∙ ap (λ s. if s && are_bytes bytes then Some bytes else None) (ne_eqb (length bytes) count l)

-- what does not decode is not read
pub bytes_of_text-failed : (count : ℕ) (text : List ℕ) (fault : DecodeError) → decode_of standard text ≡ Err fault → bytes_of_text count text ≡ None
unfolding bytes_of_text decoded_of
bytes_of_text-failed count text fault failed = ap (λ r. option_and_then (when_sized count) (result_ok r)) failed

-- the text of so many bytes is read as them
pub bytes_of_text-read : (count : ℕ) (text bytes : List ℕ) → length bytes ≡ count → IsBytes bytes → text ≡ encode_of standard bytes → bytes_of_text count text ≡ Some bytes
bytes_of_text-read count text bytes l h e =
    bytes_of_text-decoded count text bytes (ap (decode_of standard) e ∙ decode_of-encode_of standard bytes refl h) l h

from_ok : (count : ℕ) (r : Result (List ℕ) DecodeError) (bytes : List ℕ) → option_and_then (when_sized count) (result_ok r) ≡ Some bytes → (r ≡ Ok bytes) × (length bytes ≡ count) × IsBytes bytes
from_ok count (Ok kept) bytes e = let s = when_sized-some count kept bytes e in (ap Ok s.0, s.1, s.2)
from_ok count (Err fault) bytes e = cc

-- a text that is read as bytes is theirs
pub bytes_of_text-written : (count : ℕ) (text bytes : List ℕ) → IsBytes text → bytes_of_text count text ≡ Some bytes → (length bytes ≡ count) × IsBytes bytes × (text ≡ encode_of standard bytes)
unfolding bytes_of_text decoded_of
bytes_of_text-written count text bytes h e =
    let s = from_ok count (decode_of standard text) bytes e in
    (s.1, s.2, decode_of_strict standard text bytes (refl, refl) h s.0)

small : (bytes : List ℕ) → length bytes ≡ 4 → IsBytes bytes → from_be_bytes w32 bytes < 2 ^ 32
small (a ∷ b ∷ c ∷ d ∷ []) l h = let ha = h 0 in let hb = h 1 in let hc = h 2 in let hd = h 3 in omega arith
small bytes l h = absurd (omega arith)

four : (value : ℕ) → value < 2 ^ 32 → IsBytes (to_be_bytes w32 value)
four value h zero = omega arith
four value h (suc zero) = omega arith
four value h (suc (suc zero)) = omega arith
four value h (suc (suc (suc zero))) = omega arith
four value h (suc (suc (suc (suc i)))) = omega arith

valued : (found : Option (List ℕ)) (value : ℕ) → option_map (from_be_bytes w32) found ≡ Some value → (bytes : List ℕ) × (found ≡ Some bytes) × (from_be_bytes w32 bytes ≡ value)
valued (Some bytes) value h = (bytes, refl, cc)
valued None value h = cc

-- a text is read as a CRC32C exactly if it is that CRC32C's
pub crc_of_text-iff : (text : List ℕ) (value : ℕ) → IsBytes text → (crc_of_text text ≡ Some value) ↔ IsCrcText text value
unfolding crc_of_text
crc_of_text-iff text value h = (
  λ e.
      let v = valued (bytes_of_text 4 text) value e in
      let w = bytes_of_text-written 4 text v.0 h v.1 in
      let back : to_be_bytes w32 value ≡ v.0 = be_bytes_4 v.0 value w.0 w.1 (sym v.2) in
      (subst (λ n. n < 2 ^ 32) v.2 (small v.0 w.0 w.1), w.2 ∙ ap (encode_of standard) (sym back)),
  λ is.
      ap (option_map (from_be_bytes w32)) (bytes_of_text-read 4 text (to_be_bytes w32 value) refl (four value is.0) is.1)
      ∙ ap Some (from_be_bytes-to_be_bytes_4 value is.0),
)

-- a text is read as an MD5 exactly if it is that MD5's
pub md5_of_text-iff : (text value : List ℕ) → IsBytes text → (md5_of_text text ≡ Some value) ↔ IsMd5Text text value
unfolding md5_of_text
md5_of_text-iff text value h = (
  bytes_of_text-written 16 text value h,
  λ is. bytes_of_text-read 16 text value is.0 is.1 is.2,
)

-- where no four bytes have the text, no CRC32C has it
pub crc_of_text-none : (text : List ℕ) → bytes_of_text 4 text ≡ None → crc_of_text text ≡ None
unfolding crc_of_text
crc_of_text-none text none = ap (option_map (from_be_bytes w32)) none
