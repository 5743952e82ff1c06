-- What a framer has taken of a piece without an event.
use Rattle.std.proofs.Common.{◌≡◌, ℕ, ◌+◌, ◌-◌, ◌<◌, ◌≤◌, List, [], ◌∷◌, ◌++◌, length, take, drop, get_or, refl, ap, sym, ◌∙◌, subst, arith, append_assoc, length-take, length-drop, Option}
use Rattle.std.specs.Prelude.{slice_range}
use Rattle.std.proofs.lemmas.List.{take_more, take-append-drop, take-take, drop-take}
use Rattle.gcs_http_in.specs.declared.framer.Framer.{Framer}
use Rattle.gcs_http_in.specs.Message.{Message}
use Rattle.gcs_http_in.specs.Progress.{Current}
use Rattle.gcs_http_in.specs.Stands.{Stands, IsDue, limits_of}

pub record Feeds (f g : Framer) (piece : List ℕ) (at : ℕ) : Type 0 where
  pub within : at ≤ length piece
  pub limits : limits_of g ≡ limits_of f
  pub open_end : IsDue g.state → ⊥
  pub not_due : IsDue f.state → ⊥
  pub stands : (bytes : List ℕ) (messages : List Message) (current : Option Current) → Stands f bytes messages current
      → Stands g (bytes ++ take at piece) messages current

-- a framer stands after equal bytes
pub at_bytes : (g : Framer) (a b : List ℕ) (messages : List Message) (current : Option Current) → a ≡ b → Stands g a messages current → Stands g b messages current
at_bytes g a b messages current e s = subst (λ (x : List ℕ). Stands g x messages current) e s

-- one byte more of the piece
pub one_more : (bytes piece : List ℕ) (at : ℕ) → at < length piece → (bytes ++ take at piece) ++ get_or piece at 0 ∷ [] ≡ bytes ++ take (at + 1) piece
one_more bytes piece at lt = append_assoc bytes (take at piece) (get_or piece at 0 ∷ []) ∙ ap (λ (t : List ℕ). bytes ++ t) (sym (take_more piece at 0 lt))

-- a front of i + m bytes
take_add : (xs : List ℕ) (i m : ℕ) → take (i + m) xs ≡ take i xs ++ take m (drop i xs)
take_add xs i m =
    sym (take-append-drop i (take (i + m) xs)) ∙ rw (take-take i (i + m) xs (omega arith), drop-take i m xs) refl

-- a run of bytes of the piece
pub run_more : (bytes piece : List ℕ) (i j : ℕ) → i ≤ j → (bytes ++ take i piece) ++ slice_range piece i j ≡ bytes ++ take j piece
run_more bytes piece i j le =
    append_assoc bytes (take i piece) (slice_range piece i j)
    ∙ ap (λ (t : List ℕ). bytes ++ t) (sym (take_add piece i (j - i)) ∙ ap (λ (n : ℕ). take n piece) (omega arith))

-- the length of a run
pub length_run : (piece : List ℕ) (i j : ℕ) → i ≤ j → j ≤ length piece → length (slice_range piece i j) ≡ j - i
length_run piece i j le within = omega (arith, length-take (j - i) (drop i piece), length-drop i piece)
