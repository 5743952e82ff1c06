-- What was written of a text, and what was read into a block.
use Rattle.std.proofs.Common.{◌≡◌, ℕ, nat_eq, nat_lt, ◌&&◌, ◌<◌, true, false, List, [], ◌++◌, length, take, drop, Result, Ok, Err, ap, ◌∙◌, arith, append-nil}
use Rattle.std.specs.Prelude.{is_err, OnOk}
use Rattle.std.proofs.lemmas.List.{take_all, drop_all}
use Rattle.std.proofs.lemmas.Bool.Decides.{nat_tests}
use Rattle.gcs_io.specs.declared.Failed.{Failed}
use Rattle.gcs_io.specs.Told.{is_end}
use Rattle.gcs_session.specs.Writing.{IsWritten}

-- what was written where the write did well: all
pub written-whole : {A E : Type 0} (text w : List ℕ) (r : Result A E) → is_err r ≡ false → IsWritten text w r → w ≡ text
written-whole text w (Ok a) ok x = x
written-whole text w (Err e) ok x = absurd (cc)

-- and where it failed: a proper prefix
pub written-part : {A E : Type 0} (text w : List ℕ) (r : Result A E) → is_err r ≡ true → IsWritten text w r → (more : List ℕ) × (text ≡ w ++ more) × (0 < length more)
written-part text w (Ok a) bad x = absurd (cc)
written-part text w (Err e) bad x = x

-- what holds of a result that is no error
pub on-ok : {A E : Type 0} (P : Type 0) (r : Result A E) → is_err r ≡ false → OnOk r P → P
on-ok P (Ok a) ok x = x
on-ok P (Err e) ok x = absurd (cc)

-- a buffer that was filled anew holds what filled it
pub refilled : (into items : List ℕ) (len : ℕ) → len ≡ length into → length into ≡ length items → take len (into ++ drop (length into) items) ≡ into
refilled into items len whole same =
    let none : drop (length into) items ≡ [] = drop_all (length into) items (omega (arith, same)) in
    ap (λ (l : List ℕ). take len (into ++ l)) none ∙ ap (take len) (append-nil into) ∙ take_all len into (omega (arith, whole))

-- a read of nothing into a block is the end
pub read-ended : (r : Result ℕ Failed) (n : ℕ) (into : List ℕ) → r ≡ Ok n → n ≡ 0 → length into ≡ 65536 → is_end r into ≡ true
read-ended r n into is none size = ap (λ (x : Result ℕ Failed). is_end x into) (is ∙ ap Ok none) ∙ ap (λ k. nat_lt 0 k) size

-- a read of something isn't
pub read-some : (r : Result ℕ Failed) (n : ℕ) (into : List ℕ) → r ≡ Ok n → 0 < n → is_end r into ≡ false
read-some r n into is some =
    let other : nat_eq n 0 ≡ false = grind (arith, nat_tests) in
    ap (λ (x : Result ℕ Failed). is_end x into) is ∙ ap (λ b. b && nat_lt 0 (length into)) other

-- nor is a fault
pub read-failed : (r : Result ℕ Failed) (e : Failed) (into : List ℕ) → r ≡ Err e → is_end r into ≡ false
read-failed r e into is = ap (λ (x : Result ℕ Failed). is_end x into) is
