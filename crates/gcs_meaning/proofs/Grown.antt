-- How long an upload is after a piece.
use Rattle.std.proofs.Common.{◌≡◌, ◌≤◌, ℕ, ◌+◌, ◌-◌, Bool, true, false, nat_lt, drop, length, Some, ap, refl, ◌∙◌, arith}
use Rattle.std.specs.Prelude.{max, if◌then◌else◌}
use Rattle.std.proofs.lemmas.List.{length-append, length-drop}
use Rattle.std.proofs.lemmas.Bool.{ltb-false}
use Rattle.gcs_chunks.specs.Content.{Whole, bytes_of, joined, rest_of}
use Rattle.gcs_chunks.proofs.Words.{bytes_of-joined, bytes_of-parts}
use Rattle.gcs_meaning.specs.Append.{grown}

-- a content from a place on has the bytes from there on
pub bytes_of-rest_of : (content : Whole) (from : ℕ) → bytes_of (rest_of content from) ≡ drop from (bytes_of content)
unfolding bytes_of rest_of
bytes_of-rest_of content from = bytes_of-parts content.parts from

grown_by : (b : Bool) (content piece : Whole) (n : ℕ) → nat_lt n (length (bytes_of piece)) ≡ b
    → length (bytes_of (if b then joined content (rest_of piece n) else content)) ≡ length (bytes_of content) + (length (bytes_of piece) - n)
grown_by true content piece n e =
    ap length (bytes_of-joined content (rest_of piece n))
    ∙ length-append (bytes_of content) (bytes_of (rest_of piece n))
    ∙ ap (λ k. length (bytes_of content) + k) (ap length (bytes_of-rest_of piece n) ∙ length-drop n (bytes_of piece))
grown_by false content piece n e =
    let short : length (bytes_of piece) ≤ n = ltb-false n (length (bytes_of piece)) e in
    omega (arith, short)

-- what is kept reaches as far as before, and to the end of the piece
pub length-grown : (content piece : Whole) (place : ℕ) → place ≤ length (bytes_of content)
    → length (bytes_of (grown content (length (bytes_of content)) (Some place) piece)) ≡ max (length (bytes_of content)) (place + length (bytes_of piece))
length-grown content piece place within =
    grown_by (nat_lt (length (bytes_of content) - place) (length (bytes_of piece))) content piece (length (bytes_of content) - place) refl
    ∙ reaches (length (bytes_of content)) (length (bytes_of piece)) within
  where
    reaches : (kept size : ℕ) → place ≤ kept → kept + (size - (kept - place)) ≡ max kept (place + size)
    reaches kept size within = grind (arith, within)
