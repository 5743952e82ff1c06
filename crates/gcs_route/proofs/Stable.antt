-- What can't fail holds, of facts that a test decides; so of the rules for names.
use Rattle.std.proofs.Common.{◌≡◌, ℕ, ◌≤◌, ◌<◌, Bool, true, false, refl, sym, ◌∙◌, List, All, Decides, arith}
use Rattle.std.proofs.lemmas.Bool.{true≢false, true_from_ne_false}
use Rattle.std.proofs.lemmas.Bool.Decides.{Decides-ltb}
use Rattle.std.proofs.lemmas.Str.{IsUtf8-from_is_utf8, is_utf8-from_IsUtf8}
use Rattle.std.specs.Str.{IsUtf8, is_utf8}
use Rattle.gcs_names.specs.Name.{is_bucket_byte, is_line_byte, IsBucketName, IsObjectName}

-- a fact can't fail
abbrev pub IsSure : Type 0 → Type 0
IsSure P = (P → ⊥) → ⊥

-- a fact that a test decides
decided : (P : Type 0) (test : Bool) → Decides test P → IsSure P → P
decided P test d sure = d.0 (true_from_ne_false test (λ e. sure (λ holds. true≢false (sym (d.1 holds) ∙ e))))

le_by : (below : Bool) (n m : ℕ) → Decides below (m < n) → IsSure (n ≤ m) → n ≤ m
le_by true n m d sure = absurd (sure (λ le. let lt : m < n = d.0 refl in omega arith))
le_by false n m d sure = let no : m < n → ⊥ = λ lt. true≢false (sym (d.1 lt)) in omega (arith, no)

sure_le : (n m : ℕ) → IsSure (n ≤ m) → n ≤ m
sure_le n m = le_by _ n m (Decides-ltb m n)

sure_true : (b : Bool) → IsSure (b ≡ true) → b ≡ true
sure_true b sure = true_from_ne_false b (λ e. sure (λ holds. true≢false (sym holds ∙ e)))

sure_utf8 : (text : List ℕ) → IsSure (IsUtf8 text) → IsUtf8 text
sure_utf8 text = decided (IsUtf8 text) (is_utf8 text) (IsUtf8-from_is_utf8 text, is_utf8-from_IsUtf8 text)

sure_not : (P : Type 0) → IsSure (P → ⊥) → P → ⊥
sure_not P sure holds = sure (λ fails. fails holds)

sure_all : (P : ℕ → Type 0) (xs : List ℕ) → ((x : ℕ) → IsSure (P x) → P x) → IsSure (All P xs) → All P xs
sure_all P xs each sure k d within = each _ (λ fails. sure (λ all. fails (all k d within)))

-- bytes that can't fail to name a bucket do
pub sure_bucket : (name : List ℕ) → IsSure (IsBucketName name) → IsBucketName name
sure_bucket name sure = record {
  least = sure_le _ _ (λ fails. sure (λ is. fails is.least));
  most = sure_le _ _ (λ fails. sure (λ is. fails is.most));
  bytes = sure_all _ name (λ b. sure_true (is_bucket_byte b)) (λ fails. sure (λ is. fails is.bytes));
  first = sure_true _ (λ fails. sure (λ is. fails is.first));
  last = sure_true _ (λ fails. sure (λ is. fails is.last));
  kept_back = sure_not _ (λ fails. sure (λ is. fails is.kept_back));
}

-- nor an object
pub sure_object : (name : List ℕ) → IsSure (IsObjectName name) → IsObjectName name
sure_object name sure = record {
  least = sure_le _ _ (λ fails. sure (λ is. fails is.least));
  most = sure_le _ _ (λ fails. sure (λ is. fails is.most));
  text = sure_utf8 name (λ fails. sure (λ is. fails is.text));
  one_line = sure_all _ name (λ b. sure_not (is_line_byte b ≡ true)) (λ fails. sure (λ is. fails is.one_line));
  no_dot = sure_not _ (λ fails. sure (λ is. fails is.no_dot));
  no_dots = sure_not _ (λ fails. sure (λ is. fails is.no_dots));
  kept_back = sure_not _ (λ fails. sure (λ is. fails is.kept_back));
}
