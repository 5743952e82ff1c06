-- The entries of a turn are those of the store: the words of both on callers, numbers and order say the same.
use Rattle.std.proofs.Common.{◌≡◌, ◌≢◌, ℕ, ◌+◌, ◌<◌, Bool, true, false, cond, eqb, List, [], ◌∷◌, ◌++◌, map, refl, ap, sym, ◌∙◌, arith, eq-eqb, ne_eqb}
use Rattle.std.specs.Prelude.{◌&&◌}
use Rattle.std.specs.List.{AllByRecursion}
use mathlib.Core.List.{map-append}
use Rattle.gcs_meaning.specs.declared.command.Command.{Command}
use Rattle.gcs_meaning.specs.declared.command.Entry.{Entry}
use Rattle.gcs_meaning.specs.Desk.{AreNumbered, entries_of}
use Rattle.gcs_meaning.specs.History.{AreDistinct, is_entry}
use Rattle.gcs_turn.specs.declared.object.Entry.{Entry as Turned}
use Rattle.gcs_turn.specs.Turning.{AllNumbered, Numbered, calls_by}
use Rattle.gcs_turn.proofs.Histories.{clash}
use Rattle.gcs_store.specs.Entries.{meant, turned}

-- an entry is the same there and back
pub there_and_back : (es : List Entry) → map meant (map turned es) ≡ es
there_and_back [] = refl
there_and_back (e ∷ es) = ap (λ (l : List Entry). e ∷ l) (there_and_back es)

-- a caller's entries
pub calls_meant : (c : ℕ) (es : List (Turned Command)) → entries_of c (map meant es) ≡ map meant (calls_by c es)
calls_meant c [] = refl
calls_meant c (e ∷ es) = let rest = calls_meant c es in
    elim (eqb e.caller c) as (λ b. cond b (meant e ∷ entries_of c (map meant es)) (entries_of c (map meant es)) ≡ map meant (cond b (e ∷ calls_by c es) (calls_by c es)))
    [ true ↦ ap (λ (l : List Entry). meant e ∷ l) rest | false ↦ rest ]

-- their numbers
pub numbers_meant : (n : ℕ) (es : List (Turned Command)) → Numbered n es → AreNumbered n (map meant es)
numbers_meant n [] h = tt
numbers_meant n (e ∷ es) h = (h.0, numbers_meant (n + 1) es h.1)

-- the first entry is another caller's, where none is this one's
foreign_first : (c : ℕ) (e : Turned Command) (es : List (Turned Command)) (b : Bool) → eqb e.caller c ≡ b → cond b (e ∷ calls_by c es) (calls_by c es) ≡ [] → (e.caller ≢ c) × (calls_by c es ≡ [])
foreign_first c e es true is none = let no : ⊥ = cc in absurd no
foreign_first c e es false is none = (λ same. clash (sym is ∙ eq-eqb e.caller c same), none)

-- entries none of which is the caller's
pub foreign_meant : (c : ℕ) (es : List (Turned Command)) → calls_by c es ≡ [] → AllByRecursion (λ e. e.caller ≢ c) (map meant es)
foreign_meant c [] none = tt
foreign_meant c (e ∷ es) none = let first = foreign_first c e es (eqb e.caller c) refl none in (first.0, foreign_meant c es first.1)

-- entries whose numbers are greater are others
none_again : (c n m : ℕ) (es : List (Turned Command)) → n < m → Numbered m (calls_by c es) → AllByRecursion (λ f. is_entry c n f ≡ false) (map meant es)
none_again c n m [] below h = tt
none_again c n m (e ∷ es) below h =
    elim (eqb e.caller c) as (λ b. Numbered m (cond b (e ∷ calls_by c es) (calls_by c es)) → ((b && eqb e.number n) ≡ false) × AllByRecursion (λ f. is_entry c n f ≡ false) (map meant es)) [
      | true ↦ λ t. let is = t.0 in (ne_eqb e.number n (λ same. omega arith), none_again c n (m + 1) es (omega arith) t.1)
      | false ↦ λ t. (refl, none_again c n m es below t)
    ] h

-- each caller's entries go on in their numbers
abbrev GoOn : List (Turned Command) → Type 0
GoOn es = (c : ℕ) → (n : ℕ) × Numbered n (calls_by c es)

rest_goes_on : (e : Turned Command) (es : List (Turned Command)) → GoOn (e ∷ es) → GoOn es
rest_goes_on e es all c =
    elim (eqb e.caller c) as (λ b. ((n : ℕ) × Numbered n (cond b (e ∷ calls_by c es) (calls_by c es))) → ((n : ℕ) × Numbered n (calls_by c es))) [
      | true ↦ λ t. (t.0 + 1, t.1.1)
      | false ↦ λ t. t
    ] (all c)

first_alone : (e : Turned Command) (es : List (Turned Command)) → GoOn (e ∷ es) → AllByRecursion (λ f. is_entry e.caller e.number f ≡ false) (map meant es)
first_alone e es all =
    elim (eqb e.caller e.caller) as (λ b. b ≡ true → ((n : ℕ) × Numbered n (cond b (e ∷ calls_by e.caller es) (calls_by e.caller es))) → AllByRecursion (λ f. is_entry e.caller e.number f ≡ false) (map meant es)) [
      | true ↦ λ is t. let number = t.1.0 in none_again e.caller e.number (t.0 + 1) es (omega arith) t.1.1
      | false ↦ λ is t. absurd (clash is)
    ] (eq-eqb e.caller e.caller refl) (all e.caller)

distinct : (es : List (Turned Command)) → GoOn es → AreDistinct (map meant es)
distinct [] all = tt
distinct (e ∷ es) all = (first_alone e es all, distinct es (rest_goes_on e es all))

-- no two have the same caller and number, where each caller's are numbered from 0
pub distinct_meant : (es : List (Turned Command)) → AllNumbered es → AreDistinct (map meant es)
distinct_meant es all = distinct es (λ c. (0, all c))

-- one more entry
pub turned-push : (es : List Entry) (e : Entry) → map turned (es ++ e ∷ []) ≡ map turned es ++ turned e ∷ []
turned-push es e = map-append turned es (e ∷ [])
