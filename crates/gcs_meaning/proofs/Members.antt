-- Members of a list, over what the rules of the store do to it.
use Rattle.std.proofs.Common.{◌≡◌, inl, inr, Bool, true, false, List, [], ◌∷◌, ◌++◌, Some, refl, ap, sym, subst}
use Rattle.std.specs.Prelude.{◌⊎◌, filter, map, if◌then◌else◌}
use Rattle.std.specs.List.{find, AllByRecursion}
use Rattle.gcs_meaning.specs.declared.version.Row.{Row}
use Rattle.gcs_meaning.specs.Retiring.{change_first}
use Rattle.gcs_meaning.specs.Order.{comes_before, place_of}
use Rattle.gcs_meaning.specs.Put.{with_row}
use Rattle.gcs_meaning.specs.Keeping.{HoldsOfOne, IsOneOf}

-- what holds of a member holds of one
pub one-member : {X : Type 0} (P : X → Type 0) (x : X) (xs : List X) → IsOneOf xs x → P x → HoldsOfOne P xs
one-member P x [] is h = is
one-member P x (y ∷ ys) (inl same) h = inl (subst P (sym same) h)
one-member P x (y ∷ ys) (inr later) h = inr (one-member P x ys later h)

-- what holds of all holds of a member
pub all-member : {X : Type 0} (P : X → Type 0) (x : X) (xs : List X) → IsOneOf xs x → AllByRecursion P xs → P x
all-member P x [] is h = absurd is
all-member P x (y ∷ ys) (inl same) h = subst P same h.0
all-member P x (y ∷ ys) (inr later) h = all-member P x ys later h.1

pub one-left : {X : Type 0} (P : X → Type 0) (xs ys : List X) → HoldsOfOne P xs → HoldsOfOne P (xs ++ ys)
one-left P [] ys h = absurd h
one-left P (x ∷ xs) ys (inl h) = inl h
one-left P (x ∷ xs) ys (inr h) = inr (one-left P xs ys h)

pub one-right : {X : Type 0} (P : X → Type 0) (xs ys : List X) → HoldsOfOne P ys → HoldsOfOne P (xs ++ ys)
one-right P [] ys h = h
one-right P (x ∷ xs) ys h = inr (one-right P xs ys h)

-- a member of a list that is made by a function
pub member-map : {X Y : Type 0} (f : X → Y) (P : Y → Type 0) (xs : List X) → HoldsOfOne P (map f xs) → HoldsOfOne (λ x. P (f x)) xs
member-map f P [] h = h
member-map f P (x ∷ xs) (inl h) = inl h
member-map f P (x ∷ xs) (inr h) = inr (member-map f P xs h)

pub map-member : {X Y : Type 0} (f : X → Y) (P : Y → Type 0) (xs : List X) → HoldsOfOne (λ x. P (f x)) xs → HoldsOfOne P (map f xs)
map-member f P [] h = h
map-member f P (x ∷ xs) (inl h) = inl h
map-member f P (x ∷ xs) (inr h) = inr (map-member f P xs h)

-- what passes isn't filtered away
filtered_first : {X : Type 0} (b : Bool) (P : X → Type 0) (x : X) (xs : List X) → b ≡ true → P x → HoldsOfOne P (if b then x ∷ xs else xs)
filtered_first true P x xs passes h = inl h
filtered_first false P x xs passes h = cc

filtered_later : {X : Type 0} (b : Bool) (P : X → Type 0) (x : X) (xs : List X) → HoldsOfOne P xs → HoldsOfOne P (if b then x ∷ xs else xs)
filtered_later true P x xs h = inr h
filtered_later false P x xs h = h

pub one-filter : {X : Type 0} (P : X → Type 0) (q : X → Bool) → ((x : X) → P x → q x ≡ true) → (xs : List X) → HoldsOfOne P xs → HoldsOfOne P (filter q xs)
one-filter P q passes [] h = h
one-filter P q passes (x ∷ xs) (inl h) = filtered_first (q x) P x (filter q xs) (passes x h) h
one-filter P q passes (x ∷ xs) (inr h) = filtered_later (q x) P x (filter q xs) (one-filter P q passes xs h)

-- the first that passes is replaced: a member is still there, or it was the first, and one of what it becomes is there
first_is : {X : Type 0} (b : Bool) (p : X → Bool) (P : X → Type 0) (becomes : X → List X) (x y : X) (ys changed : List X) → y ≡ x → P x
    → ((if b then Some y else find p ys) ≡ Some x → HoldsOfOne P (becomes x)) → HoldsOfOne P (if b then becomes y ++ ys else y ∷ changed)
first_is true p P becomes x y ys changed same h makes =
    one-left P (becomes y) ys (subst (λ z. HoldsOfOne P (becomes z)) (sym same) (makes (ap Some same)))
first_is false p P becomes x y ys changed same h makes = inl (subst P (sym same) h)

first_not : {X : Type 0} (b : Bool) (p : X → Bool) (P : X → Type 0) (becomes : X → List X) (x y : X) (ys changed : List X) → IsOneOf ys x → P x
    → ((if b then Some y else find p ys) ≡ Some x → HoldsOfOne P (becomes x)) → ((find p ys ≡ Some x → HoldsOfOne P (becomes x)) → HoldsOfOne P changed)
    → HoldsOfOne P (if b then becomes y ++ ys else y ∷ changed)
first_not true p P becomes x y ys changed later h makes deeper = one-right P (becomes y) ys (one-member P x ys later h)
first_not false p P becomes x y ys changed later h makes deeper = inr (deeper makes)

pub one-change_first : {X : Type 0} (P : X → Type 0) (p : X → Bool) (becomes : X → List X) (x : X) (xs : List X) → IsOneOf xs x → P x
    → (find p xs ≡ Some x → HoldsOfOne P (becomes x)) → HoldsOfOne P (change_first p becomes xs)
one-change_first P p becomes x [] is h makes = absurd is
one-change_first P p becomes x (y ∷ ys) (inl same) h makes = first_is (p y) p P becomes x y ys (change_first p becomes ys) same h makes
one-change_first P p becomes x (y ∷ ys) (inr later) h makes =
    first_not (p y) p P becomes x y ys (change_first p becomes ys) later h makes (one-change_first P p becomes x ys later h)

-- one row more
placed_one : (b : Bool) (P : Row → Type 0) (row first : Row) (rest placed : List Row) → HoldsOfOne P (first ∷ rest) → (HoldsOfOne P rest → HoldsOfOne P placed)
    → HoldsOfOne P (if b then row ∷ first ∷ rest else first ∷ placed)
placed_one true P row first rest placed h deeper = inr h
placed_one false P row first rest placed (inl h) deeper = inl h
placed_one false P row first rest placed (inr h) deeper = inr (deeper h)

pub one-with_row : (P : Row → Type 0) (row : Row) (rows : List Row) → HoldsOfOne P rows → HoldsOfOne P (with_row row rows)
one-with_row P row [] h = absurd h
one-with_row P row (first ∷ rest) h = placed_one (comes_before (place_of row) (place_of first)) P row first rest (with_row row rest) h (one-with_row P row rest)

pub one-weaker : {X : Type 0} (P Q : X → Type 0) → ((x : X) → P x → Q x) → (xs : List X) → HoldsOfOne P xs → HoldsOfOne Q xs
one-weaker P Q weaker [] h = h
one-weaker P Q weaker (x ∷ xs) (inl h) = inl (weaker x h)
one-weaker P Q weaker (x ∷ xs) (inr h) = inr (one-weaker P Q weaker xs h)

-- what holds of all holds of the one too
pub one-and-all : {X : Type 0} (P Q : X → Type 0) (xs : List X) → HoldsOfOne P xs → AllByRecursion Q xs → HoldsOfOne (λ x. P x × Q x) xs
one-and-all P Q [] h all = h
one-and-all P Q (x ∷ xs) (inl h) all = inl (h, all.0)
one-and-all P Q (x ∷ xs) (inr h) all = inr (one-and-all P Q xs h all.1)

-- the first that passes is taken away: what holds of one holds of it, or still of one
pub one-taken : {X : Type 0} (P : X → Type 0) (p : X → Bool) (x : X) (xs : List X) → find p xs ≡ Some x → HoldsOfOne P xs → P x ⊎ HoldsOfOne P (change_first p (λ y. []) xs)
one-taken P p x [] found h = absurd h
one-taken {X} P p x (y ∷ ys) found h = by (p y) found h (one-taken P p x ys)
  where
    later : P x ⊎ HoldsOfOne P (change_first p (λ z. []) ys) → P x ⊎ HoldsOfOne P (y ∷ change_first p (λ z. []) ys)
    later (inl it) = inl it
    later (inr other) = inr (inr other)

    by : (b : Bool) → (if b then Some y else find p ys) ≡ Some x → HoldsOfOne P (y ∷ ys) → (find p ys ≡ Some x → HoldsOfOne P ys → P x ⊎ HoldsOfOne P (change_first p (λ z. []) ys))
        → P x ⊎ HoldsOfOne P (if b then ys else y ∷ change_first p (λ z. []) ys)
    by true here (inl it) rest = inl (subst P (inside here) it)
      where
        inside : Some y ≡ Some x → y ≡ x
        inside same = cc
    by true here (inr other) rest = inr other
    by false here (inl it) rest = inr (inl it)
    by false here (inr other) rest = later (rest here other)

-- one of which it holds
pub one-found : {X : Type 0} (P : X → Type 0) (xs : List X) → HoldsOfOne P xs → (x : X) × (IsOneOf xs x × P x)
one-found P [] h = absurd h
one-found P (y ∷ ys) (inl h) = (y, (inl refl, h))
one-found P (y ∷ ys) (inr h) = let more = one-found P ys h in (more.0, (inr more.1.0, more.1.1))
