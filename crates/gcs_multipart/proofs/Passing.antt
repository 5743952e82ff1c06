-- What bytes of a piece make of what is held, while the boundary is not whole.
use Rattle.std.proofs.Common.{◌≡◌, ◌≢◌, ℕ, ◌+◌, ◌-◌, ◌<◌, List, [], ◌∷◌, ◌++◌, true, false, length, get_or, sym, ap, ne_eqb, eq-eqb, arith}
use Rattle.std.specs.List.{AllByRecursion}
use Rattle.std.proofs.lemmas.List.{length-append}
use Rattle.gcs_multipart.specs.Delimiter.{needle}
use Rattle.gcs_multipart.specs.Seek.{Sees}
use Rattle.gcs_multipart.proofs.Seeking.{sees_more, sees_again, sees_run, parts_within}

-- a text was seen, of which so many bytes are held
abbrev pub Saw : List ℕ → ℕ → List ℕ → List ℕ → Type 0
Saw buffer count b text = (content : List ℕ) × Sees buffer count b text content

not_whole : (buffer b text content : List ℕ) (count : ℕ) → count < length buffer - 1 → Sees buffer count b text content → count < length (needle b)
not_whole buffer b text content count lt s = omega (arith, lt, ap length s.whole, length-append (needle b) (s.spare ∷ []))

-- the byte goes on in the needle
pub saw_more : (buffer b text : List ℕ) (count byte : ℕ) → count < length buffer - 1 → byte ≡ get_or buffer count 0 → Saw buffer count b text → Saw buffer (count + 1) b (text ++ byte ∷ [])
saw_more buffer b text count byte lt same s = (s.0, sees_more buffer b text s.0 count byte s.1 (not_whole buffer b text s.0 count lt s.1) same)

-- it doesn't, and is a CR
pub saw_return : (buffer b text : List ℕ) (count byte : ℕ) → count < length buffer - 1 → byte ≢ get_or buffer count 0 → byte ≡ 13 → Saw buffer count b text → Saw buffer 1 b (text ++ byte ∷ [])
saw_return buffer b text count byte lt apart is s =
    let n = sees_again buffer b text s.0 count byte s.1 (parts_within buffer b text s.0 count byte s.1 (not_whole buffer b text s.0 count lt s.1) apart) true (sym (eq-eqb byte 13 is)) in
    (_, n.2)

-- it is another one, and no CR comes behind it
pub saw_run : (buffer b text ys : List ℕ) (count byte : ℕ) → count < length buffer - 1 → byte ≢ get_or buffer count 0 → byte ≢ 13 → AllByRecursion (λ y. y ≢ 13) ys → Saw buffer count b text
    → Saw buffer 0 b ((text ++ byte ∷ []) ++ ys)
saw_run buffer b text ys count byte lt apart other all s =
    let n = sees_again buffer b text s.0 count byte s.1 (parts_within buffer b text s.0 count byte s.1 (not_whole buffer b text s.0 count lt s.1) apart) false (sym (ne_eqb byte 13 other)) in
    (_, sees_run buffer b (text ++ byte ∷ []) _ ys all n.1)
