-- One more message at the end.
use Rattle.std.proofs.Common.{◌≡◌, ℕ, ◌+◌, List, [], ◌∷◌, ◌++◌, length, refl, ap, sym, ◌∙◌, subst, arith, append_assoc, append-nil, add-zero}
use Rattle.std.specs.Prelude.{◌==◌}
use Rattle.std.proofs.lemmas.Bool.Decides.{nat_tests}
use Rattle.gcs_http_in.specs.declared.limits.Limits.{Limits}
use Rattle.gcs_http_in.specs.Message.{Message, IsSpelling, IsSpelled, AllKeep}

-- one message more is spelled
pub spelled_push : (limits : Limits) (n : ℕ) (messages : List Message) (m : Message) (front text : List ℕ) → IsSpelled limits n messages front
    → AllKeep messages → IsSpelling limits (n + length messages) m text → IsSpelled limits n (messages ++ m ∷ []) (front ++ text)
spelled_push limits n [] m front text s all p =
    (text, [], ap (λ (t : List ℕ). t ++ text) s ∙ sym (append-nil text), subst (λ (k : ℕ). IsSpelling limits k m text) (add-zero n) p, refl, λ lt. absurd (omega arith))
spelled_push limits n (m0 ∷ ms) m front text s all p =
    let same : n + length (m0 ∷ ms) ≡ (n + 1) + length ms = omega arith in (
      s.0,
      s.1 ++ text,
      ap (λ (t : List ℕ). t ++ text) s.2 ∙ append_assoc s.0 s.1 text,
      s.3,
      spelled_push limits (n + 1) ms m s.1 text s.4 all.1 (subst (λ (k : ℕ). IsSpelling limits k m text) same p),
      λ lt. all.0,
    )

-- more bytes stand behind the front
pub split_more : (bytes front part x : List ℕ) → bytes ≡ front ++ part → bytes ++ x ≡ front ++ (part ++ x)
split_more bytes front part x e = ap (λ (t : List ℕ). t ++ x) e ∙ append_assoc front part x

-- the last message that may come
pub is_last : (k left most : ℕ) → k + left ≡ most → (1 + k == most) ≡ (left == 1)
is_last k left most e = grind (arith, nat_tests)
