-- A content and the pieces that are added to it.
use Rattle.std.proofs.Common.{◌≡◌, ℕ, List, ◌++◌, ◌-◌, arith, length, take, drop, ap, ap₂, sym, append_assoc, ◌∙◌, Result, Ok, Err}
use Rattle.std.specs.Prelude.{slice_range, OnOk}
use Rattle.std.proofs.lemmas.List.{take-append-drop}
use Rattle.std.proofs.Math.Seq.{take-length}
use Rattle.gcs_chunks.specs.Content.{Chunk, Whole, bytes_of, bytes_of_piece, joined, part_of}
use Rattle.gcs_chunks.proofs.Words.{bytes_of-joined, bytes_of-part_of}

-- a content with a whole piece behind it has the piece's bytes behind its own
pub with_piece : (old new : Whole) (piece : Chunk) (bytes : List ℕ) (size : ℕ) → new ≡ joined old (part_of piece 0 size) → bytes_of_piece piece ≡ bytes → size ≡ length bytes
    → bytes_of new ≡ bytes_of old ++ bytes
with_piece old new piece bytes size is same all =
    let whole : slice_range bytes 0 size ≡ bytes = ap (slice_range bytes 0) all ∙ ap (λ n. take n bytes) (let e : length bytes - 0 ≡ length bytes = omega arith in e) ∙ take-length bytes in
    ap bytes_of is ∙ bytes_of-joined old (part_of piece 0 size)
    ∙ ap (λ l. bytes_of old ++ l) (bytes_of-part_of piece 0 size ∙ ap (λ l. slice_range l 0 size) same ∙ whole)

-- what a fact gives, where there is a value, where the fact holds there
pub on_ok : {T E : Type 0} (r : Result T E) (P Q : Type 0) → (P → Q) → OnOk r P → OnOk r Q
on_ok (Ok x) P Q f h = f h
on_ok (Err e) P Q f h = h

-- a part of which more is kept
pub kept_more : (part front rest next later : List ℕ) (n : ℕ) → part ≡ front ++ rest → next ≡ take n rest → later ≡ drop n rest → part ≡ (front ++ next) ++ later
kept_more part front rest next later n is first second =
    is ∙ ap (λ l. front ++ l) (sym (take-append-drop n rest) ∙ ap₂ (λ a b. a ++ b) (sym first) (sym second)) ∙ sym (append_assoc front next later)
