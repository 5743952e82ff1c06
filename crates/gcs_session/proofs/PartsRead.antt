-- What is kept of parts, as the one that began last grows.
use Rattle.std.proofs.Common.{◌≡◌, ◌⊎◌, inl, inr, ℕ, List, [], ◌∷◌, ◌++◌, sym, subst, arith, length-append}
use Rattle.gcs_multipart.specs.Grammar.{Part}
use Rattle.gcs_session.specs.declared.two_parts.PartsKept.{PartsKept}
use Rattle.gcs_session.specs.declared.two_parts.PartsKept.TheVariants as kept
use Rattle.gcs_session.specs.TwoParts.{AreKept}

abbrev grown : List ℕ → List ℕ → Part
grown head content = record { head = head; content = content }

pub other-grows : (most : ℕ) (head content more : List ℕ) (parts : List Part) → AreKept most kept.Others (grown head content ∷ parts) → AreKept most kept.Others (grown head (content ++ more) ∷ parts)
other-grows most head content more [] x = absurd x
other-grows most head content more (second ∷ []) x = absurd x
other-grows most head content more (second ∷ json ∷ parts) x = x

pub long-grows : (most : ℕ) (head content more : List ℕ) (parts : List Part) → AreKept most kept.TooLong (grown head content ∷ parts) → AreKept most kept.TooLong (grown head (content ++ more) ∷ parts)
long-grows most head content more [] x = omega (arith, x, length-append content more)
long-grows most head content more (part ∷ parts) x = x

-- where nothing is kept of it, it grows alone
pub idle-grows : (most : ℕ) (k : PartsKept) (head content more : List ℕ) (parts : List Part) → (k ≡ kept.Nothing) ⊎ ((k ≡ kept.TooLong) ⊎ (k ≡ kept.Others))
    → AreKept most k (grown head content ∷ parts) → AreKept most k (grown head (content ++ more) ∷ parts)
idle-grows most k head content more parts (inl e) x = absurd (subst (λ (j : PartsKept). AreKept most j (grown head content ∷ parts)) e x)
idle-grows most k head content more parts (inr (inl e)) x =
    subst (λ (j : PartsKept). AreKept most j (grown head (content ++ more) ∷ parts)) (sym e)
    (long-grows most head content more parts (subst (λ (j : PartsKept). AreKept most j (grown head content ∷ parts)) e x))
idle-grows most k head content more parts (inr (inr e)) x =
    subst (λ (j : PartsKept). AreKept most j (grown head (content ++ more) ∷ parts)) (sym e)
    (other-grows most head content more parts (subst (λ (j : PartsKept). AreKept most j (grown head content ∷ parts)) e x))
