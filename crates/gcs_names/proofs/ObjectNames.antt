-- The test of an object's name is the rule for such names.
use Rattle.std.proofs.Common.{◌≡◌, ◌≢◌, ℕ, Bool, true, false, List, length, take, codes, refl}
use Rattle.std.specs.Prelude.{◌↔◌, not}
use Rattle.std.proofs.lemmas.Bool.{le-leb, leb-true}
use Rattle.std.proofs.lemmas.List.Elements.{All-weaker}
use Rattle.std.proofs.lemmas.List.Sums.{AllPass-from_list_all, list_all-from_AllPass}
use Rattle.std.proofs.lemmas.Slice.Eq.{bytes_eq-Decides}
use Rattle.std.proofs.lemmas.Str.{is_utf8-from_IsUtf8, IsUtf8-from_is_utf8}
use Rattle.gcs_names.specs.Name.{is_line_byte, IsObjectName}
use Rattle.gcs_names.specs.ObjectTest.{is_object_name}
use Rattle.gcs_names.proofs.BucketNames.{both, every, not-true, not-yes, is_false}

pub is_object_name-iff : (name : List ℕ) → (is_object_name name ≡ true) ↔ IsObjectName name
unfolding is_object_name
is_object_name-iff name =
    let dot = bytes_eq-Decides name (codes ".") in
    let dots = bytes_eq-Decides name (codes "..") in
    let front = bytes_eq-Decides (take 27 name) (codes ".well-known/acme-challenge/") in (
      λ h.
          let free = both _ _ h in
          let lines = both _ _ free.0 in
          let text = both _ _ lines.0 in
          let lengths = both _ _ text.0 in
          let kept = both _ _ free.1 in
          let two = both _ _ kept.0 in record {
            least = leb-true 1 (length name) lengths.0;
            most = leb-true (length name) 1024 lengths.1;
            text = IsUtf8-from_is_utf8 name text.1;
            one_line = All-weaker _ _ (λ b passes. not-true (is_line_byte b) passes) name (AllPass-from_list_all (λ b. not (is_line_byte b)) name lines.1);
            no_dot = λ e. not-true _ two.0 (dot.1 e);
            no_dots = λ e. not-true _ two.1 (dots.1 e);
            kept_back = λ e. not-true _ kept.1 (front.1 e);
          },
      λ is.
          let lines = list_all-from_AllPass (λ b. not (is_line_byte b)) name (All-weaker _ _ (λ b passes. not-yes (is_line_byte b) passes) name is.one_line) in
          let two = every _ _ (not-yes _ (λ e. is.no_dot (dot.0 e))) (not-yes _ (λ e. is.no_dots (dots.0 e))) in
          let free = every _ _ two (not-yes _ (λ e. is.kept_back (front.0 e))) in
          every _ _ (every _ _ (every _ _ (every _ _ (le-leb 1 (length name) is.least) (le-leb (length name) 1024 is.most))
          (is_utf8-from_IsUtf8 name is.text)) lines) free,
    )

-- a name that an object may have passes
pub passes_where_named : (name : List ℕ) → IsObjectName name → is_object_name name ≡ true
passes_where_named name is = (is_object_name-iff name).1 is

-- no other text does
pub fails_where_unnamed : (name : List ℕ) → (IsObjectName name → ⊥) → is_object_name name ≡ false
fails_where_unnamed name h = is_false _ (λ e. h ((is_object_name-iff name).0 e))
