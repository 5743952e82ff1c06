-- The test of a bucket's name is the rule for such names.
use Rattle.std.proofs.Common.{◌≡◌, ℕ, ◌&&◌, Bool, true, false, List, length, take, codes, refl, ap₂}
use Rattle.std.specs.Prelude.{◌↔◌, not}
use Rattle.std.proofs.lemmas.Bool.{false≢true, le-leb, leb-true}
use Rattle.std.proofs.lemmas.List.Sums.{AllPass-from_list_all, list_all-from_AllPass}
use Rattle.std.proofs.lemmas.Slice.Eq.{bytes_eq-Decides}
use Rattle.gcs_names.specs.Name.{is_bucket_byte, is_bucket_name, IsBucketName}

pub both : (a b : Bool) → (a && b) ≡ true → (a ≡ true) × (b ≡ true)
both true b h = (refl, h)
both false b h = absurd (false≢true h)

pub every : (a b : Bool) → a ≡ true → b ≡ true → (a && b) ≡ true
every a b p q = ap₂ (λ s t. s && t) p q

pub not-true : (b : Bool) → not b ≡ true → b ≡ true → ⊥
not-true true h e = false≢true h
not-true false h e = false≢true e

pub not-yes : (b : Bool) → (b ≡ true → ⊥) → not b ≡ true
not-yes true h = absurd (h refl)
not-yes false h = refl

pub is_bucket_name-iff : (name : List ℕ) → (is_bucket_name name ≡ true) ↔ IsBucketName name
unfolding is_bucket_name
is_bucket_name-iff name =
    let same = bytes_eq-Decides (take 4 name) (codes "goog") in (
      λ h.
          let kept_back = both _ _ h in
          let last = both _ _ kept_back.0 in
          let first = both _ _ last.0 in
          let bytes = both _ _ first.0 in
          let lengths = both _ _ bytes.0 in record {
            least = leb-true 3 (length name) lengths.0;
            most = leb-true (length name) 63 lengths.1;
            bytes = AllPass-from_list_all is_bucket_byte name bytes.1;
            first = first.1;
            last = last.1;
            kept_back = λ e. not-true _ kept_back.1 (same.1 e);
          },
      λ is.
          every _ _ (every _ _ (every _ _ (every _ _ (every _ _ (le-leb 3 (length name) is.least) (le-leb (length name) 63 is.most))
          (list_all-from_AllPass is_bucket_byte name is.bytes)) is.first) is.last) (not-yes _ (λ e. is.kept_back (same.0 e))),
    )

-- a name that a bucket may have passes
pub passes_where_named : (name : List ℕ) → IsBucketName name → is_bucket_name name ≡ true
passes_where_named name is = (is_bucket_name-iff name).1 is

pub is_false : (b : Bool) → (b ≡ true → ⊥) → b ≡ false
is_false true h = absurd (h refl)
is_false false h = refl

-- no other text does
pub fails_where_unnamed : (name : List ℕ) → (IsBucketName name → ⊥) → is_bucket_name name ≡ false
fails_where_unnamed name h = is_false _ (λ e. h ((is_bucket_name-iff name).0 e))
