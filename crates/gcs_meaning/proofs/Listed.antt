-- Facts of all members of a list, over what the rules of the store do to it.
use Rattle.std.proofs.Common.{inl, inr, refl, Bool, true, false, List, [], ◌∷◌, ◌++◌, Option, Some, None}
use Rattle.std.specs.Prelude.{filter, map, if◌then◌else◌}
use Rattle.std.specs.Option.{IfSome}
use Rattle.std.specs.List.{AllByRecursion}
use Rattle.gcs_meaning.specs.declared.version.Row.{Row}
use Rattle.gcs_meaning.specs.Retiring.{change_first}
use Rattle.gcs_meaning.specs.Order.{comes_before, place_of}
use Rattle.gcs_meaning.specs.Put.{with_row}
use Rattle.gcs_meaning.specs.Keeping.{IsOneOf}

pub all-filter : {X : Type 0} (P : X → Type 0) (q : X → Bool) (xs : List X) → AllByRecursion P xs → AllByRecursion P (filter q xs)
all-filter P q [] h = h
all-filter P q (x ∷ xs) h = kept (q x) P x (filter q xs) h.0 (all-filter P q xs h.1)
  where
    kept : {X : Type 0} (b : Bool) (P : X → Type 0) (x : X) (xs : List X) → P x → AllByRecursion P xs → AllByRecursion P (if b then x ∷ xs else xs)
    kept true P x xs first more = (first, more)
    kept false P x xs first more = more

pub all-map : {X Y : Type 0} (P : X → Type 0) (Q : Y → Type 0) (f : X → Y) → ((x : X) → P x → Q (f x)) → (xs : List X) → AllByRecursion P xs → AllByRecursion Q (map f xs)
all-map P Q f keeps [] h = h
all-map P Q f keeps (x ∷ xs) h = (keeps x h.0, all-map P Q f keeps xs h.1)

pub all-weaker : {X : Type 0} (P Q : X → Type 0) → ((x : X) → P x → Q x) → (xs : List X) → AllByRecursion P xs → AllByRecursion Q xs
all-weaker P Q weaker [] h = h
all-weaker P Q weaker (x ∷ xs) h = (weaker x h.0, all-weaker P Q weaker xs h.1)

pub all-append : {X : Type 0} (P : X → Type 0) (xs ys : List X) → AllByRecursion P xs → AllByRecursion P ys → AllByRecursion P (xs ++ ys)
all-append P [] ys h more = more
all-append P (x ∷ xs) ys h more = (h.0, all-append P xs ys h.1 more)

-- what holds of each member holds of all
pub all-members : {X : Type 0} (P : X → Type 0) (xs : List X) → ((x : X) → IsOneOf xs x → P x) → AllByRecursion P xs
all-members P [] each = tt
all-members P (x ∷ xs) each = (each x (inl refl), all-members P xs (λ y is. each y (inr is)))

pub some-weaker : {X : Type 0} (P Q : X → Type 0) → ((x : X) → P x → Q x) → (o : Option X) → IfSome o P → IfSome o Q
some-weaker P Q weaker None h = h
some-weaker P Q weaker (Some x) h = weaker x h

changed_all : {X : Type 0} (P : X → Type 0) (b : Bool) (becomes : X → List X) (x : X) (rest changed : List X) → AllByRecursion P (becomes x) → P x → AllByRecursion P rest → AllByRecursion P changed → AllByRecursion P (if b then becomes x ++ rest else x ∷ changed)
changed_all P true becomes x rest changed made first more deeper = all-append P (becomes x) rest made more
changed_all P false becomes x rest changed made first more deeper = (first, deeper)

-- the first that passes is replaced
pub all-change_first : {X : Type 0} (P : X → Type 0) (p : X → Bool) (becomes : X → List X) → ((x : X) → P x → AllByRecursion P (becomes x)) → (xs : List X) → AllByRecursion P xs → AllByRecursion P (change_first p becomes xs)
all-change_first P p becomes makes [] h = h
all-change_first P p becomes makes (x ∷ xs) h =
    changed_all P (p x) becomes x xs (change_first p becomes xs) (makes x h.0) h.0 h.1 (all-change_first P p becomes makes xs h.1)

placed_all : (b : Bool) (P : Row → Type 0) (row first : Row) (rest placed : List Row) → P row → P first → AllByRecursion P rest → AllByRecursion P placed → AllByRecursion P (if b then row ∷ first ∷ rest else first ∷ placed)
placed_all true P row first rest placed new old more deeper = (new, (old, more))
placed_all false P row first rest placed new old more deeper = (old, deeper)

-- one row more
pub all-with_row : (P : Row → Type 0) (row : Row) (rows : List Row) → P row → AllByRecursion P rows → AllByRecursion P (with_row row rows)
all-with_row P row [] new h = (new, tt)
all-with_row P row (first ∷ rest) new h =
    placed_all (comes_before (place_of row) (place_of first)) P row first rest (with_row row rest) new h.0 h.1 (all-with_row P row rest new h.1)
