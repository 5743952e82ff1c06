-- What is held after each byte
use Rattle.std.proofs.Common.{◌≡◌, ℕ, zero, suc, ◌+◌, ◌-◌, ◌<◌, ◌≤◌, max, List, [], ◌∷◌, ◌++◌, length, map, refl, sym, ap, ap₂, subst, ◌∙◌, arith, append_assoc, append-nil}
use Rattle.std.proofs.Math.Nat.{max-le, le-max_left, le-max_right}
use Rattle.std.proofs.lemmas.List.{length-append, map-append}
use Rattle.gcs_fields.specs.declared.scan.Place.{Place}
use Rattle.gcs_fields.specs.declared.scan.Place.TheVariants as place
use Rattle.gcs_fields.specs.declared.mask.Item.{Item}
use Rattle.gcs_fields.specs.declared.mask.Item.TheOpen.{Item-F}
use Rattle.gcs_fields.specs.declared.mask.Item.TheViews.{out-Item, roll-Item}
use Rattle.gcs_fields.specs.declared.mask.Item.TheFolds.{fold-roll-Item}
use Rattle.gcs_fields.specs.Views.{path_of, mask_of, item_step}
use Rattle.gcs_fields.proofs.RestLemmas.{mask_of_out}
use Rattle.gcs_fields.specs.Tree.{Name, Mask, none, item, print_name, print_path, print_inner, print, texts_of, IsName, levels, bracketed}
use Rattle.gcs_fields.specs.Select.{together}
use Rattle.gcs_fields.specs.Scan.{IsNamed}
use Rattle.gcs_fields.specs.Reading.{ended, print_done, print_steps, Open, print_open, print_opens, Held, print_here, IsAt, name_at}
use Rattle.gcs_fields.proofs.Printing.{all_push, ended_push, are_together, some_together, path_push, print_push, print_inner_some, print_end, opens_push, open_push, open_pop}

plus_max : (f x y k : ℕ) → f + x ≤ k → f + y ≤ k → f + max x y ≤ k
plus_max f x y k hx hy =
    let a : x ≤ k - f = omega arith in
    let b : y ≤ k - f = omega arith in
    let m : max x y ≤ k - f = max-le a b in
    omega (arith, m, hx)

-- a bound on the greater of two levels bounds the first
pub low_left : (f x y k : ℕ) → f + max x y ≤ k → f + x ≤ k
low_left f x y k h = omega (arith, h, le-max_left x y)

-- and the second
pub low_right : (f x y k : ℕ) → f + max x y ≤ k → f + y ≤ k
low_right f x y k h = omega (arith, h, le-max_right x y)

-- the levels of two masks together are no more than those of both
pub low_together : (f : ℕ) (a b : Mask) (k : ℕ) → f + levels a ≤ k → f + levels b ≤ k → f + levels (together a b) ≤ k
low_together f none b k ha hb = hb
low_together f (item p i m) b k ha hb =
    plus_max f (length p + bracketed (levels i)) (levels (together m b)) k (low_left f _ (levels m) k ha) (low_together f m b k (low_right f (length p + bracketed (levels i)) (levels m) k ha) hb)

-- an item alone has the levels of its path and its brackets
pub low_item : (f : ℕ) (p : List Name) (i : Mask) (k : ℕ) → f + (length p + bracketed (levels i)) ≤ k → f + levels (item p i none) ≤ k
low_item f p i k h = plus_max f (length p + bracketed (levels i)) 0 k h (omega (arith, h))

-- brackets add at least one level
pub bracketed_le : (n : ℕ) → bracketed n ≤ n + 1
bracketed_le zero = omega arith
bracketed_le (suc n) = omega arith

-- a path with one more name has a name
pub some_path : (path : List Name) (n : Name) → 0 < length (path ++ n ∷ [])
some_path path n = omega (arith, length-append path (n ∷ []))

is_name : (p : Place) (items : Mask) (path : List Name) (bytes : List ℕ) → IsNamed p → IsAt p items path bytes → IsName (name_at p bytes)
is_name place.Start items path bytes named at = absurd named
is_name place.Key items path bytes named at = at
is_name place.Star items path bytes named at = tt
is_name place.Closed items path bytes named at = absurd named

-- what was read up to a whole name is the items, the names and this name
pub here_named : (p : Place) (items : Mask) (path : List Name) (bytes : List ℕ) → IsNamed p → print_here p items path bytes ≡ print_done items ++ (print_steps path ++ print_name (name_at p bytes))
here_named place.Start items path bytes named = absurd named
here_named place.Key items path bytes named = refl
here_named place.Star items path bytes named = refl
here_named place.Closed items path bytes named = absurd named

-- the name ends, and its item with it
pub ends_item : (os : List Open) (f : ℕ) (p : Place) (items : Mask) (path : List Name) (bytes text : List ℕ) → IsNamed p → Held os f p items path bytes text
    → Held os f place.Closed (together items (item (path ++ name_at p bytes ∷ []) none none)) [] [] text
ends_item os f p items path bytes text named h =
    let n = name_at p bytes in
    let whole = path ++ n ∷ [] in
    let same : print (together items (item whole none none)) ≡ print_here p items path bytes =
    print_push items whole none ∙ ap (λ t. print_done items ++ t) (append-nil (print_path whole) ∙ path_push path n) ∙ sym (here_named p items path bytes named) in
    let deep : f + (length whole + 0) ≤ 33 = omega (arith, h.deep, length-append path (n ∷ [])) in
    record {
      spelled = h.spelled ∙ ap (λ t. print_opens os ++ t) (sym same);
      nested = h.nested;
      items_are = are_together items (item whole none none) h.items_are ((some_path path n, all_push IsName path n h.names (is_name p items path bytes named h.at)), tt, tt);
      low = low_together f items (item whole none none) 33 h.low (low_item f whole none 33 deep);
      names = tt;
      deep = omega (arith, h.deep);
      at = (refl, refl, some_together items whole none none);
    }

-- the slash behind a name
pub takes_slash : (os : List Open) (f : ℕ) (p : Place) (items : Mask) (path : List Name) (bytes text : List ℕ) → IsNamed p → Held os f p items path bytes text → f + length path + 1 ≤ 32
    → Held os f place.Start items (path ++ name_at p bytes ∷ []) [] (text ++ 47 ∷ [])
takes_slash os f p items path bytes text named h room =
    let n = name_at p bytes in
    let steps : print_steps (path ++ n ∷ []) ≡ print_steps path ++ (print_name n ++ 47 ∷ []) = ap (ended 47) (map-append print_name path (n ∷ [])) ∙ ended_push 47 (map print_name path) (print_name n) in
    record {
      spelled = ap (λ t. t ++ 47 ∷ []) (h.spelled ∙ ap (λ t. print_opens os ++ t) (here_named p items path bytes named))
          ∙ append_assoc (print_opens os) (print_done items ++ (print_steps path ++ print_name n)) (47 ∷ [])
          ∙ ap (λ t. print_opens os ++ t) (append_assoc (print_done items) (print_steps path ++ print_name n) (47 ∷ [])
          ∙ ap (λ t. print_done items ++ t) (append_assoc (print_steps path) (print_name n) (47 ∷ []) ∙ sym steps ∙ sym (append-nil (print_steps (path ++ n ∷ [])))));
      nested = h.nested;
      items_are = h.items_are;
      low = h.low;
      names = all_push IsName path n h.names (is_name p items path bytes named h.at);
      deep = omega (arith, length-append path (n ∷ []), room);
      at = refl;
    }

-- the comma behind an item
pub takes_comma : (os : List Open) (f : ℕ) (items : Mask) (path : List Name) (bytes text : List ℕ) → Held os f place.Closed items path bytes text
    → Held os f place.Start items path bytes (text ++ 44 ∷ [])
takes_comma os f items path bytes text h =
    let here : print items ++ 44 ∷ [] ≡ print_done items ++ (print_steps path ++ bytes) =
    print_end items h.at.2 ∙ sym (append-nil (print_done items)) ∙ ap₂ (λ (ns : List Name) (bs : List ℕ). print_done items ++ (print_steps ns ++ bs)) (sym h.at.1) (sym h.at.0) in
    record {
      spelled = ap (λ t. t ++ 44 ∷ []) h.spelled ∙ append_assoc (print_opens os) (print items) (44 ∷ []) ∙ ap (λ t. print_opens os ++ t) here;
      nested = h.nested;
      items_are = h.items_are;
      low = h.low;
      names = h.names;
      deep = h.deep;
      at = h.at.0;
    }

-- the bracket behind a name
pub takes_open : (os : List Open) (f : ℕ) (p : Place) (items : Mask) (path : List Name) (bytes text : List ℕ) (first : ℕ) → IsNamed p → Held os f p items path bytes text → f + length path + 2 ≤ 32 → first ≡ f + length path + 2
    → Held (os ++ record { items = items; path = path ++ name_at p bytes ∷ []; first = f } ∷ []) first place.Start none [] [] (text ++ 40 ∷ [])
takes_open os f p items path bytes text first named h room e =
    let n = name_at p bytes in
    let whole = path ++ n ∷ [] in
    let o : Open = record { items = items; path = whole; first = f } in
    let len = length-append path (n ∷ []) in
    record {
      spelled = ap (λ t. t ++ 40 ∷ []) (h.spelled ∙ ap (λ t. print_opens os ++ t) (here_named p items path bytes named ∙ ap (λ t. print_done items ++ t) (sym (path_push path n))))
          ∙ append_assoc (print_opens os) (print_done items ++ print_path whole) (40 ∷ [])
          ∙ ap (λ t. print_opens os ++ t) (append_assoc (print_done items) (print_path whole) (40 ∷ []))
          ∙ sym (opens_push os o) ∙ sym (append-nil (print_opens (os ++ o ∷ [])));
      nested = open_push 1 os o first h.nested h.items_are (some_path path n, all_push IsName path n h.names (is_name p items path bytes named h.at)) h.low (omega (arith, len, room)) (omega (arith, len, e));
      items_are = tt;
      low = omega (arith, e, room);
      names = tt;
      deep = omega (arith, e, room);
      at = refl;
    }

-- the bracket behind an item
pub takes_close : (os : List Open) (o : Open) (f : ℕ) (items : Mask) (path : List Name) (bytes text : List ℕ) → Held (os ++ o ∷ []) f place.Closed items path bytes text
    → Held os o.first place.Closed (together o.items (item o.path items none)) path bytes (text ++ 41 ∷ [])
takes_close os o f items path bytes text h =
    let x = open_pop 1 os o f h.nested in
    let inner : print_path o.path ++ ((40 ∷ print items) ++ 41 ∷ []) ≡ print_path o.path ++ print_inner (texts_of items) = ap (λ t. print_path o.path ++ t) (sym (print_inner_some items h.at.2)) in
    let new = item o.path items none in
    let deep : o.first + (length o.path + bracketed (levels items)) ≤ 33 = omega (arith, x.inner, h.low, bracketed_le (levels items)) in
    record {
      spelled = ap (λ t. t ++ 41 ∷ []) (h.spelled ∙ ap (λ t. t ++ print items) (opens_push os o) ∙ append_assoc (print_opens os) (print_open o) (print items))
          ∙ append_assoc (print_opens os) (print_open o ++ print items) (41 ∷ [])
          ∙ ap (λ t. print_opens os ++ t) (
          ap (λ t. t ++ 41 ∷ []) (append_assoc (print_done o.items) (print_path o.path ++ 40 ∷ []) (print items))
          ∙ append_assoc (print_done o.items) ((print_path o.path ++ 40 ∷ []) ++ print items) (41 ∷ [])
          ∙ ap (λ t. print_done o.items ++ t) (ap (λ t. t ++ 41 ∷ []) (append_assoc (print_path o.path) (40 ∷ []) (print items)) ∙ append_assoc (print_path o.path) (40 ∷ print items) (41 ∷ []) ∙ inner)
          ∙ sym (print_push o.items o.path items));
      nested = x.outer;
      items_are = are_together o.items new x.items (x.path, h.items_are, tt);
      low = low_together o.first o.items new 33 x.low (low_item o.first o.path items 33 deep);
      names = h.names;
      deep = omega (arith, ap length h.at.1, x.deep);
      at = (h.at.0, h.at.1, some_together o.items o.path items none);
    }

-- the same, of what is equal
pub held_same : (os os' : List Open) (f f' : ℕ) (p : Place) (items items' : Mask) (path path' : List Name) (bytes bytes' text : List ℕ) → Held os f p items path bytes text
    → os ≡ os' → f ≡ f' → items ≡ items' → path ≡ path' → bytes ≡ bytes' → Held os' f' p items' path' bytes' text
held_same os os' f f' p items items' path path' bytes bytes' text h eo ef ei ep eb =
    subst (λ (x : List Open). Held x f' p items' path' bytes' text) eo
    (subst (λ (x : ℕ). Held os x p items' path' bytes' text) ef
    (subst (λ (x : Mask). Held os f p x path' bytes' text) ei
    (subst (λ (x : List Name). Held os f p items x bytes' text) ep
    (subst (λ (x : List ℕ). Held os f p items path x text) eb h))))

-- one more item at the end of a list is one more at the end of its tree
pub mask_push : (is : List Item) (x : Item-F Item) → mask_of (is ++ roll-Item x ∷ []) ≡ together (mask_of is) (item (path_of x.path.items) (mask_of x.inner.items) none)
mask_push [] x = ap (λ (f : Mask → Mask). f none) (fold-roll-Item (Mask → Mask) item_step x)
mask_push (i ∷ is) x = mask_of_out i (is ++ roll-Item x ∷ []) ∙ ap (item (path_of (out-Item i).path.items) (mask_of (out-Item i).inner.items)) (mask_push is x) ∙ ap (λ (m : Mask). together m (item (path_of x.path.items) (mask_of x.inner.items) none)) (sym (mask_of_out i is))
