-- The text of each mask within the levels is run through
use Rattle.std.proofs.Common.{◌≡◌, ◌≢◌, ℕ, zero, suc, ◌+◌, ◌<◌, ◌≤◌, List, [], ◌∷◌, ◌++◌, Some, None, Bool, true, length, refl, sym, ap, ◌∙◌, arith, append-nil, ne_eqb}
use Rattle.std.specs.Prelude.{if◌then◌else◌, option_and_then}
use Rattle.std.specs.List.{AllByRecursion}
use Rattle.std.proofs.lemmas.Bool.{lt-ltb, false≢true}
use Rattle.std.proofs.Math.Nat.{le-max_left}
use Rattle.gcs_fields.specs.declared.scan.Place.{Place}
use Rattle.gcs_fields.specs.declared.scan.Place.TheVariants as place
use Rattle.gcs_fields.specs.declared.scan.Sign.TheVariants as sign
use Rattle.gcs_fields.specs.Tree.{Name, any, key, Mask, none, item, is_name_byte, print_name, print_path, print_inner, print, texts_of, joined, AreItems, IsPath, IsName, levels, bracketed}
use Rattle.gcs_fields.specs.Scan.{Stop, step, stepped, sign_of, run, IsNamed, IsItem}
use Rattle.gcs_fields.proofs.Running.{run_then}
use Rattle.gcs_fields.proofs.Holding.{low_left, low_right}

abbrev stop : Place → ℕ → ℕ → List ℕ → Stop
stop p l f o = record { place = p; level = l; first = f; outer = o }

abbrev end_of : Name → Place
end_of any = place.Star
end_of (key bytes) = place.Key

is_end : (n : Name) → IsNamed (end_of n)
is_end any = tt
is_end (key bytes) = tt

letter_step : (b l f : ℕ) (o : List ℕ) → is_name_byte b ≡ true → step (stop place.Key l f o) b ≡ Some (stop place.Key l f o)
letter_step b l f o is = ap (λ (x : Bool). stepped (stop place.Key l f o) (if x then sign.Letter else sign_of place.Star b)) is

letters : (bs : List ℕ) (l f : ℕ) (o : List ℕ) → AllByRecursion (λ b. is_name_byte b ≡ true) bs → run (stop place.Key l f o) bs ≡ Some (stop place.Key l f o)
letters [] l f o all = refl
letters (b ∷ bs) l f o all = ap (option_and_then (λ t. run t bs)) (letter_step b l f o all.0) ∙ letters bs l f o all.1

first_letter : (b l f : ℕ) (o : List ℕ) → is_name_byte b ≡ true → step (stop place.Start l f o) b ≡ Some (stop place.Key l f o)
first_letter b l f o is =
    let apart : b ≢ 42 = λ e. false≢true (ap is_name_byte (sym e) ∙ is) in
    ap (λ (x : Bool). stepped (stop place.Start l f o) (if x then sign.Star else (if is_name_byte b then sign.Letter else sign.Bad))) (ne_eqb b 42 apart)
    ∙ ap (λ (x : Bool). stepped (stop place.Start l f o) (if x then sign.Letter else sign.Bad)) is

run_name : (n : Name) (l f : ℕ) (o : List ℕ) → IsName n → run (stop place.Start l f o) (print_name n) ≡ Some (stop (end_of n) l f o)
run_name any l f o is = refl
run_name (key []) l f o is = absurd (omega (arith, is.0))
run_name (key (b ∷ bs)) l f o is = ap (option_and_then (λ t. run t bs)) (first_letter b l f o is.1.0) ∙ letters bs l f o is.1.1

slash_step : (p : Place) (l f : ℕ) (o : List ℕ) → IsNamed p → l < 32 → step (stop p l f o) 47 ≡ Some (stop place.Start (l + 1) f o)
slash_step place.Start l f o named room = absurd named
slash_step place.Key l f o named room = ap (λ (x : Bool). if x then Some (stop place.Start (l + 1) f o) else None) (lt-ltb l 32 room)
slash_step place.Star l f o named room = ap (λ (x : Bool). if x then Some (stop place.Start (l + 1) f o) else None) (lt-ltb l 32 room)
slash_step place.Closed l f o named room = absurd named

open_step : (p : Place) (l f : ℕ) (o : List ℕ) → IsNamed p → l + 1 < 32 → step (stop p l f o) 40 ≡ Some (stop place.Start (l + 2) (l + 2) (f ∷ o))
open_step place.Start l f o named room = absurd named
open_step place.Key l f o named room = ap (λ (x : Bool). if x then Some (stop place.Start (l + 2) (l + 2) (f ∷ o)) else None) (lt-ltb (l + 1) 32 room)
open_step place.Star l f o named room = ap (λ (x : Bool). if x then Some (stop place.Start (l + 2) (l + 2) (f ∷ o)) else None) (lt-ltb (l + 1) 32 room)
open_step place.Closed l f o named room = absurd named

comma_step : (p : Place) (l f : ℕ) (o : List ℕ) → IsItem p → step (stop p l f o) 44 ≡ Some (stop place.Start f f o)
comma_step place.Start l f o is = absurd is
comma_step place.Key l f o is = refl
comma_step place.Star l f o is = refl
comma_step place.Closed l f o is = refl

close_step : (p : Place) (l f g : ℕ) (o : List ℕ) → IsItem p → step (stop p l f (g ∷ o)) 41 ≡ Some (stop place.Closed g g o)
close_step place.Start l f g o is = absurd is
close_step place.Key l f g o is = refl
close_step place.Star l f g o is = refl
close_step place.Closed l f g o is = refl

is_item : (p : Place) → IsNamed p → IsItem p
is_item place.Start named = named
is_item place.Key named = tt
is_item place.Star named = tt
is_item place.Closed named = tt

-- a run goes on with a byte
run_byte : (s t u : Stop) (a : List ℕ) (b : ℕ) (c : List ℕ) → run s a ≡ Some t → step t b ≡ Some u → run s (a ++ b ∷ c) ≡ run u c
run_byte s t u a b c e f = run_then s t a (b ∷ c) e ∙ ap (option_and_then (λ v. run v c)) f

run_path : (n : Name) (ns : List Name) (l f : ℕ) (o : List ℕ) → AllByRecursion IsName (n ∷ ns) → l + length ns ≤ 32
    → (p : Place) × IsNamed p × (run (stop place.Start l f o) (print_path (n ∷ ns)) ≡ Some (stop p (l + length ns) f o))
run_path n [] l f o all room = (end_of n, is_end n, run_name n l f o all.0 ∙ ap (λ k. Some (stop (end_of n) k f o)) (omega arith))
run_path n (m ∷ ns) l f o all room =
    let more = run_path m ns (l + 1) f o all.1 (omega (arith, room)) in
    let under : l < 32 = omega (arith, room) in (
      more.0,
      more.1,
      run_byte (stop place.Start l f o) (stop (end_of n) l f o) (stop place.Start (l + 1) f o) (print_name n) 47 (print_path (m ∷ ns)) (run_name n l f o all.0) (slash_step (end_of n) l f o (is_end n) under)
          ∙ more.2 ∙ ap (λ k. Some (stop more.0 k f o)) (omega arith),
    )

-- a run that ends behind an item
abbrev Through : ℕ → List ℕ → List ℕ → Type 0
Through f o text = (p : Place) × (l : ℕ) × IsItem p × (run (stop place.Start f f o) text ≡ Some (stop p l f o))

some_levels : (p : List Name) (i m : Mask) → IsPath p → 1 ≤ levels (item p i m)
some_levels p i m is = omega (arith, is.0, le-max_left (length p + bracketed (levels i)) (levels m))

above : (n : ℕ) → 1 ≤ n → bracketed n ≡ n + 1
above zero h = absurd (omega (arith, h))
above (suc n) h = omega arith

run_item : (path : List Name) (inner : Mask) (f : ℕ) (o : List ℕ) → IsPath path → AreItems inner → f + (length path + bracketed (levels inner)) ≤ 33
    → ((g : ℕ) (q : List ℕ) → inner ≢ none → g + levels inner ≤ 33 → Through g q (print inner)) → Through f o (print_path path ++ print_inner (texts_of inner))
run_item [] inner f o is items room run_inner = absurd (omega (arith, is.0))
run_item (n ∷ ns) none f o is items room run_inner =
    let p = run_path n ns f f o is.1 (omega (arith, room)) in
    (p.0, f + length ns, is_item p.0 p.1, ap (run (stop place.Start f f o)) (append-nil (print_path (n ∷ ns))) ∙ p.2)
run_item (n ∷ ns) (item path inner more) f o is items room run_inner =
    let i = item path inner more in
    let some = some_levels path inner more items.0 in
    let up = above (levels i) some in
    let under : f + length ns + 1 < 32 = omega (arith, room, some, up) in
    let p = run_path n ns f f o is.1 (omega (arith, under)) in
    let deeper = run_inner (f + length ns + 2) (f ∷ o) (λ e. cc) (omega (arith, room, up)) in
    let inside = run_then (stop place.Start (f + length ns + 2) (f + length ns + 2) (f ∷ o)) (stop deeper.0 deeper.1 (f + length ns + 2) (f ∷ o)) (print i) (41 ∷ []) deeper.3
    ∙ ap (option_and_then (λ v. Some v)) (close_step deeper.0 deeper.1 (f + length ns + 2) f o deeper.2) in
    (place.Closed, f, tt, run_byte (stop place.Start f f o) (stop p.0 (f + length ns) f o) (stop place.Start (f + length ns + 2) (f + length ns + 2) (f ∷ o)) (print_path (n ∷ ns)) 40 (print i ++ 41 ∷ []) p.2 (open_step p.0 (f + length ns) f o p.1 under) ∙ inside)

run_more : (x : List ℕ) (m : Mask) (f : ℕ) (o : List ℕ) → Through f o x → (m ≢ none → Through f o (print m)) → Through f o (joined 44 (x ∷ texts_of m))
run_more x none f o first more = first
run_more x (item path inner m) f o first more =
    let rest = more (λ e. cc) in
    (rest.0, rest.1, rest.2, run_byte (stop place.Start f f o) (stop first.0 first.1 f o) (stop place.Start f f o) x 44 (print (item path inner m)) first.3 (comma_step first.0 first.1 f o first.2) ∙ rest.3)

-- a run goes through the text of items, to a place where an item ends
pub run_items : (m : Mask) (f : ℕ) (o : List ℕ) → m ≢ none → AreItems m → f + levels m ≤ 33 → Through f o (print m)
run_items none f o some items room = absurd (some refl)
run_items (item path inner more) f o some items room =
    run_more (print_path path ++ print_inner (texts_of inner)) more f o
    (run_item path inner f o items.0 items.1 (low_left f (length path + bracketed (levels inner)) (levels more) 33 room) (λ g q is low. run_items inner g q is items.1 low))
    (λ is. run_items more f o is items.2 (low_right f (length path + bracketed (levels inner)) (levels more) 33 room))
