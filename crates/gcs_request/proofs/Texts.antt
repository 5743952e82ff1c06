-- Texts that metadata can hold.
use Rattle.std.proofs.Common.{◌≡◌, ℕ, ◌≤◌, ◌<◌, List, length, Bool, true, nat_lt, nat_le, nat_eq, not, ◌&&◌, ap, ◌∙◌, sym, arith, false, refl, Some, None, if◌then◌else◌}
use Rattle.std.specs.List.{list_all}
use Rattle.std.specs.Str.{IsUtf8, is_utf8}
use Rattle.std.proofs.lemmas.Str.{IsUtf8-from_is_utf8, is_utf8-from_IsUtf8}
use Rattle.std.proofs.lemmas.Bool.{lt-ltb, le-leb}
use Rattle.std.proofs.Math.Bool.{and-true, and-false}
use Rattle.std.proofs.lemmas.Bool.Decides.{nat_tests}
use Rattle.std.proofs.lemmas.List.Elements.{All-weaker}
use Rattle.std.proofs.lemmas.List.Sums.{AllPass-from_list_all}
use Rattle.std.proofs.lemmas.Str.{IsUtf8-from_ascii}
use Rattle.std.proofs.lemmas.Str.Ascii.{IsAscii-from_all}
use Rattle.gcs_request.specs.Heads.{host_of_field, is_field_text, is_host, is_host_byte, text_of_field}
use Rattle.gcs_request.proofs.Marks.{last-of}

-- no byte is a control character
abbrev pub are_shown : List ℕ → Bool
are_shown value = list_all (λ b. nat_le 32 b && not (nat_eq b 127)) value

-- a text of a fitting length can be held where its bytes can
pub is_field_text-by_bytes : (value : List ℕ) → 1 ≤ length value → length value ≤ 1024 → IsUtf8 value → is_field_text value ≡ are_shown value
is_field_text-by_bytes value some few utf8 =
    ap (λ t. t && (nat_le (length value) 1024 && (are_shown value && is_utf8 value))) (lt-ltb 0 (length value) (omega arith))
    ∙ ap (λ t. t && (are_shown value && is_utf8 value)) (le-leb (length value) 1024 few)
    ∙ ap (λ t. are_shown value && t) (is_utf8-from_IsUtf8 value utf8)
    ∙ and-true (are_shown value)

-- the test for text fails of what is no text
tested : (b : Bool) (value : List ℕ) → is_utf8 value ≡ b → (IsUtf8 value → ⊥) → b ≡ false
tested true value e none = absurd (none (IsUtf8-from_is_utf8 value e))
tested false value e none = refl

-- bytes that are no text count as none
pub is_field_text-by_utf8 : (value : List ℕ) → (IsUtf8 value → ⊥) → is_field_text value ≡ false
is_field_text-by_utf8 value none =
    ap (λ t. nat_lt 0 (length value) && (nat_le (length value) 1024 && (are_shown value && t))) (tested (is_utf8 value) value refl none)
    ∙ ap (λ t. nat_lt 0 (length value) && (nat_le (length value) 1024 && t)) (and-false (are_shown value))
    ∙ ap (λ t. nat_lt 0 (length value) && t) (and-false (nat_le (length value) 1024))
    ∙ and-false (nat_lt 0 (length value))

-- a value that cannot be held counts as absent
pub absent_text : (value : List ℕ) → is_field_text value ≡ false → None ≡ text_of_field (Some value)
absent_text value none = sym (ap (λ t. if t then Some value else None) none)

-- the bytes of a host are ASCII
host_byte : (b : ℕ) → is_host_byte b ≡ true → b < 128
host_byte b e = grind (arith, nat_tests)

-- so a host is text
host_text : (value : List ℕ) → is_host value ≡ true → IsUtf8 value
host_text value e =
    IsUtf8-from_ascii value (IsAscii-from_all value (All-weaker _ _ (λ b passes. host_byte b passes) value
    (AllPass-from_list_all is_host_byte value (last-of (nat_lt 0 (length value)) (list_all is_host_byte value) e))))

-- bytes that are no text are no host
no_host : (host : Bool) (value : List ℕ) → is_host value ≡ host → (IsUtf8 value → ⊥) → host ≡ false
no_host true value e none = absurd (none (host_text value e))
no_host false value e none = refl

-- and count as absent
pub absent_host : (value : List ℕ) → (IsUtf8 value → ⊥) → None ≡ host_of_field (Some value)
absent_host value none = sym (ap (λ t. if t then Some value else None) (no_host (is_host value) value refl none))
