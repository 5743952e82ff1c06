-- Runs over the text of a mask
use Rattle.std.proofs.Common.{◌≡◌, ℕ, List, [], ◌∷◌, ◌++◌, Option, Some, None, Result, Ok, Err, Bool, true, false, refl, sym, ap, ◌∙◌}
use Rattle.std.specs.Prelude.{option_and_then}
use Rattle.std.specs.declared.alloc.AllocError.{AllocError}
use Rattle.gcs_fields.specs.declared.read.Reader.{Reader}
use Rattle.gcs_fields.specs.declared.scan.Sign.{Sign}
use Rattle.gcs_fields.specs.Scan.{Stop, start, step, stepped, sign_of, run}
use Rattle.gcs_fields.specs.Reading.{Stands, Next, NextBy, stop_of}

then_run : (a b : List ℕ) → ((t : Stop) → run t (a ++ b) ≡ option_and_then (λ u. run u b) (run t a)) → (o : Option Stop)
    → option_and_then (λ t. run t (a ++ b)) o ≡ option_and_then (λ t. run t b) (option_and_then (λ t. run t a) o)
then_run a b more None = refl
then_run a b more (Some t) = more t

-- a run over two texts is one over the first and then one over the second
pub run_append : (s : Stop) (a b : List ℕ) → run s (a ++ b) ≡ option_and_then (λ t. run t b) (run s a)
run_append s [] b = refl
run_append s (x ∷ a) b = then_run a b (λ t. run_append t a b) (step s x)

-- one run after another
pub run_then : (s t : Stop) (a b : List ℕ) → run s a ≡ Some t → run s (a ++ b) ≡ run t b
run_then s t a b e = run_append s a b ∙ ap (option_and_then (λ t. run t b)) e

-- a run over one byte is its step
pub run_one : (s : Stop) (b : ℕ) → run s (b ∷ []) ≡ step s b
run_one s b = go (step s b)
  where
    go : (o : Option Stop) → option_and_then (λ t. Some t) o ≡ o
    go None = refl
    go (Some t) = refl

-- what one more byte makes of a reader
pub next_by : (r new : Reader) (result : Result Bool AllocError) (text : List ℕ) (b : ℕ) (sign : Sign) → Stands r text → sign ≡ sign_of r.place b
    → NextBy (stepped (stop_of r) sign) new result (text ++ b ∷ []) → Next new result (text ++ b ∷ [])
next_by r new result text b sign s signed next = go result next
  where
    stops : run start (text ++ b ∷ []) ≡ stepped (stop_of r) sign
    stops = run_then start (stop_of r) text (b ∷ []) s.stops ∙ run_one (stop_of r) b ∙ ap (stepped (stop_of r)) (sym signed)

    go : (x : Result Bool AllocError) → NextBy (stepped (stop_of r) sign) new x (text ++ b ∷ []) → Next new x (text ++ b ∷ [])
    go (Ok true) h = record { holds = h.0; stops = stops ∙ h.1 }
    go (Ok false) h = stops ∙ h
    go (Err e) h = tt
