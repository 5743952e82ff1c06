-- Values of a key that are read are right.
use Rattle.std.proofs.Common.{◌≡◌, ℕ, List, [], ◌⊎◌, ⊎_elim, Bool, true, false, Option, Some, None, Result, Ok, Err, IfOk, refl}
use Rattle.gcs_query.specs.Values.{IsNumber, IsTrueText, IsFalseText}
use Rattle.gcs_route.specs.Params.{IsNoNumber, IsNoFlag}

-- what holds of whatever value a result is holds if it is one
pub of_value : {T E : Type 0} (r : Result T E) (P : T → Type 0) → ((x : T) → r ≡ Ok x → P x) → IfOk r P
of_value (Ok x) P each = each x refl
of_value (Err e) P each = tt

-- an empty text, and a number, are not wrong as a number
pub right_number : {E : Type 0} (read : Result (Option ℕ) E) (text : List ℕ) → (read ≡ Ok None → text ≡ []) → ((n : ℕ) → read ≡ Ok (Some n) → IsNumber text)
    → (n : Option ℕ) → read ≡ Ok n → ¬ IsNoNumber text
right_number read text none some None is = λ wrong. wrong.0 (none is)
right_number read text none some (Some n) is = λ wrong. wrong.1 (some n is)

-- a text that is read as a flag is not wrong as one
pub right_flag : {E : Type 0} (read : Result Bool E) (text : List ℕ) → (read ≡ Ok true → IsTrueText text) → (read ≡ Ok false → (text ≡ []) ⊎ IsFalseText text)
    → (flag : Bool) → read ≡ Ok flag → ¬ IsNoFlag text
right_flag read text set unset true is = λ wrong. wrong.1 (set is)
right_flag read text set unset false is = λ wrong. ⊎_elim (λ empty. wrong.0 empty) (λ is_false. wrong.2 is_false) (unset is)
