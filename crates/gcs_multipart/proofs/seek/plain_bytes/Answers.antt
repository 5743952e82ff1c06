use Rattle.std.proofs.Common.{◌≢◌, ℕ, zero, suc, ◌≤◌, List, [], ◌∷◌, length, take, Option, Some, None, eq-eqb, subst, sym, arith, le_refl}
use Rattle.std.specs.Prelude.{unwrap_or}
use Rattle.std.specs.List.{AllByRecursion}
use Rattle.memchr.specs.Find.{IsFirstByte, Nowhere, Passes, is_byte}
use Rattle.gcs_multipart.proofs.seek.plain_bytes.Goals as goal

-- no byte up to a place passes the test, so none of the front is a CR
front_plain : (n : ℕ) (piece : List ℕ) → Nowhere (Passes (is_byte 13) piece) 0 n → AllByRecursion (λ b. b ≢ 13) (take n piece)
front_plain zero piece none = tt
front_plain (suc n) [] none = tt
front_plain (suc n) (b ∷ piece) none =
    (λ e. none 0 (omega arith) (omega arith) (eq-eqb b 13 e), front_plain n piece (λ k low high. none (suc k) (omega arith) (omega (arith, high))))

found_within : (piece : List ℕ) (found : Option ℕ) → IsFirstByte (is_byte 13) piece found → unwrap_or found (length piece) ≤ length piece
found_within piece None is = le_refl (length piece)
found_within piece (Some n) is = omega (arith, is.0.high)

found_plain : (piece : List ℕ) (found : Option ℕ) → IsFirstByte (is_byte 13) piece found → AllByRecursion (λ b. b ≢ 13) (take (unwrap_or found (length piece)) piece)
found_plain piece None is = front_plain (length piece) piece is
found_plain piece (Some n) is = front_plain n piece is.0.before

pub returns-clause-within : goal.returns-clause-within
returns-clause-within c = subst (λ (n : ℕ). n ≤ length c.args.piece.now) (sym c.unwrap_or.ensures) (found_within c.args.piece.now c.memchr.result c.memchr.ensures)

pub returns-clause-plain : goal.returns-clause-plain
returns-clause-plain c =
    subst (λ (n : ℕ). AllByRecursion (λ b. b ≢ 13) (take n c.args.piece.now)) (sym c.unwrap_or.ensures) (found_plain c.args.piece.now c.memchr.result c.memchr.ensures)
