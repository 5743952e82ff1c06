-- How texts and masks grow at their ends
use Rattle.std.proofs.Common.{◌≡◌, ◌≢◌, ℕ, ◌+◌, ◌≤◌, List, [], ◌∷◌, ◌++◌, length, map, refl, sym, ap, ◌∙◌, arith, append_assoc, append-nil}
use Rattle.std.specs.List.{AllByRecursion}
use Rattle.std.proofs.lemmas.List.{map-append}
use Rattle.gcs_fields.specs.Tree.{Name, Mask, none, item, print_name, print_path, print_inner, print, texts_of, joined, AreItems, IsPath, levels}
use Rattle.gcs_fields.specs.Select.{together}
use Rattle.gcs_fields.specs.Reading.{ended, print_done, print_steps, Open, print_open, print_opens, firsts, AreOpen}

-- what holds of all names holds with one more of which it holds
pub all_push : {X : Type 0} (P : X → Type 0) (xs : List X) (x : X) → AllByRecursion P xs → P x → AllByRecursion P (xs ++ x ∷ [])
all_push P [] x all p = (p, tt)
all_push P (y ∷ xs) x all p = (all.0, all_push P xs x all.1 p)

-- the last text stands without the byte
pub joined_push : (sep : ℕ) (xs : List (List ℕ)) (y : List ℕ) → joined sep (xs ++ y ∷ []) ≡ ended sep xs ++ y
joined_push sep [] y = refl
joined_push sep (x ∷ []) y = sym (append_assoc x (sep ∷ []) y)
joined_push sep (x ∷ z ∷ xs) y = ap (λ t. x ++ sep ∷ t) (joined_push sep (z ∷ xs) y) ∙ sym (append_assoc x (sep ∷ ended sep (z ∷ xs)) y)

-- and then with it
pub joined_end : (sep : ℕ) (x : List ℕ) (xs : List (List ℕ)) → joined sep (x ∷ xs) ++ sep ∷ [] ≡ ended sep (x ∷ xs)
joined_end sep x [] = refl
joined_end sep x (y ∷ xs) = append_assoc x (sep ∷ joined sep (y ∷ xs)) (sep ∷ []) ∙ ap (λ t. x ++ sep ∷ t) (joined_end sep y xs)

-- one more text has its byte after it too
pub ended_push : (sep : ℕ) (xs : List (List ℕ)) (y : List ℕ) → ended sep (xs ++ y ∷ []) ≡ ended sep xs ++ (y ++ sep ∷ [])
ended_push sep [] y = refl
ended_push sep (x ∷ xs) y = ap (λ t. x ++ sep ∷ t) (ended_push sep xs y) ∙ sym (append_assoc x (sep ∷ ended sep xs) (y ++ sep ∷ []))

-- the texts of two masks together are those of both
pub texts_together : (a b : Mask) → texts_of (together a b) ≡ texts_of a ++ texts_of b
texts_together none b = refl
texts_together (item p i m) b = ap (λ t. (print_path p ++ print_inner (texts_of i)) ∷ t) (texts_together m b)

-- two masks of items are items together
pub are_together : (a b : Mask) → AreItems a → AreItems b → AreItems (together a b)
are_together none b ia ib = ib
are_together (item p i m) b ia ib = (ia.0, ia.1, are_together m b ia.2 ib)

-- a mask with an item behind it is not empty
pub some_together : (a : Mask) (p : List Name) (i m : Mask) → together a (item p i m) ≢ none
some_together none p i m = λ e. cc
some_together (item q j n) p i m = λ e. cc

-- a path with one more name ends in this name
pub path_push : (path : List Name) (n : Name) → print_path (path ++ n ∷ []) ≡ print_steps path ++ print_name n
path_push path n = ap (joined 47) (map-append print_name path (n ∷ [])) ∙ joined_push 47 (map print_name path) (print_name n)

-- one more item, behind the others
pub print_push : (m : Mask) (p : List Name) (i : Mask) → print (together m (item p i none)) ≡ print_done m ++ (print_path p ++ print_inner (texts_of i))
print_push m p i = ap (joined 44) (texts_together m (item p i none)) ∙ joined_push 44 (texts_of m) (print_path p ++ print_inner (texts_of i))

-- items in brackets are written between `(` and `)`
pub print_inner_some : (i : Mask) → i ≢ none → print_inner (texts_of i) ≡ (40 ∷ print i) ++ 41 ∷ []
print_inner_some none some = absurd (some refl)
print_inner_some (item p i m) some = refl

-- items and a comma are items each with its comma
pub print_end : (m : Mask) → m ≢ none → print m ++ 44 ∷ [] ≡ print_done m
print_end none some = absurd (some refl)
print_end (item p i m) some = joined_end 44 (print_path p ++ print_inner (texts_of i)) (texts_of m)

-- one more open bracket is written last
pub opens_push : (os : List Open) (o : Open) → print_opens (os ++ o ∷ []) ≡ print_opens os ++ print_open o
opens_push [] o = append-nil (print_open o)
opens_push (q ∷ os) o = ap (λ t. print_open q ++ t) (opens_push os o) ∙ sym (append_assoc (print_open q) (print_opens os) (print_open o))

-- the level at one more open bracket comes first
pub firsts_push : (os : List Open) (o : Open) (others : List ℕ) → firsts (os ++ o ∷ []) others ≡ o.first ∷ firsts os others
firsts_push [] o others = refl
firsts_push (q ∷ os) o others = firsts_push os o (q.first ∷ others)

-- one more bracket may be opened within the levels
pub open_push : (level : ℕ) (os : List Open) (o : Open) (first : ℕ) → AreOpen level os o.first → AreItems o.items → IsPath o.path → o.first + levels o.items ≤ 33 → o.first + length o.path + 1 ≤ 32 → first ≡ o.first + length o.path + 1
    → AreOpen level (os ++ o ∷ []) first
open_push level [] o first nest items path low deep e = (nest, items, path, omega (arith, nest, low), omega (arith, nest, deep), omega (arith, nest, e))
open_push level (q ∷ os) o first nest items path low deep e = (nest.0, nest.1, nest.2, nest.3, nest.4, open_push (level + length q.path + 1) os o first nest.5 items path low deep e)

-- what is known of the innermost bracket
pub record Innermost (level : ℕ) (os : List Open) (o : Open) (first : ℕ) : Type 0 where
  pub outer : AreOpen level os o.first
  pub items : AreItems o.items
  pub path : IsPath o.path
  pub low : o.first + levels o.items ≤ 33
  pub deep : o.first + length o.path + 1 ≤ 32
  pub inner : first ≡ o.first + length o.path + 1

-- the innermost bracket may be closed
pub open_pop : (level : ℕ) (os : List Open) (o : Open) (first : ℕ) → AreOpen level (os ++ o ∷ []) first → Innermost level os o first
open_pop level [] o first h = record { outer = h.0; items = h.1; path = h.2; low = omega (arith, h.0, h.3); deep = omega (arith, h.0, h.4); inner = omega (arith, h.0, h.5) }
open_pop level (q ∷ os) o first h =
    let x = open_pop (level + length q.path + 1) os o first h.5 in
    record { outer = (h.0, h.1, h.2, h.3, h.4, x.outer); items = x.items; path = x.path; low = x.low; deep = x.deep; inner = x.inner }

-- each open bracket has one level
pub firsts_length : (os : List Open) (others : List ℕ) → length (firsts os others) ≡ length os + length others
firsts_length [] others = omega arith
firsts_length (o ∷ os) others = omega (arith, firsts_length os (o.first ∷ others))

-- where there is no level no bracket is open
pub firsts_none : (os : List Open) → firsts os [] ≡ [] → os ≡ []
firsts_none [] e = refl
firsts_none (o ∷ os) e = absurd (omega (arith, ap length e, firsts_length (o ∷ os) []))
