-- Which texts begin a mask, and which don't
use Rattle.std.proofs.Common.{◌≡◌, ◌≢◌, ℕ, zero, suc, ◌+◌, ◌<◌, ◌≤◌, List, [], ◌∷◌, ◌++◌, Option, Some, None, Bool, true, false, length, take, drop, subst, refl, sym, ap, ◌∙◌, ⊎_elim, arith, ◌⊎◌, inl, inr, append_assoc, append-nil, ◌==◌}
use Rattle.std.specs.Prelude.{if◌then◌else◌, option_and_then}
use Rattle.std.proofs.lemmas.List.{length-append, take-append-drop, take-take, take_all}
use Rattle.gcs_fields.specs.declared.scan.Place.{Place}
use Rattle.gcs_fields.specs.declared.scan.Place.TheVariants as place
use Rattle.gcs_fields.specs.declared.scan.Sign.{Sign}
use Rattle.gcs_fields.specs.declared.scan.Sign.TheVariants as sign
use Rattle.gcs_fields.specs.Tree.{Name, Mask, none, item, is_name_byte, print, AreItems, levels, IsMask, BeginsMask, IsNoMask, IsPlace}
use Rattle.gcs_fields.specs.Select.{together}
use Rattle.gcs_fields.specs.Scan.{Stop, start, step, stepped, sign_of, run, needed_at, needed_of, IsWhole, IsNamed, IsItem}
use Rattle.gcs_fields.specs.Reading.{Open, Held, Stands, stop_of, opens_of, items_of, names_of, firsts, print_opens, print_done, print_steps, name_at}
use Rattle.std.proofs.lemmas.Bool.{cases_lt}
use Rattle.gcs_fields.specs.declared.read.Reader.{Reader}
use Rattle.gcs_fields.proofs.Printing.{firsts_length}
use Rattle.gcs_fields.proofs.Running.{run_append, run_then}
use Rattle.gcs_fields.proofs.Holding.{ends_item, takes_close}
use Rattle.gcs_fields.proofs.Complete.{run_items}

-- a mask that the text begins, and what is missing
record Finish (text : List ℕ) (missing : ℕ) : Type 0 where
  mask : Mask
  some : mask ≢ none
  items : AreItems mask
  low : levels mask ≤ 32
  rest : List ℕ
  spelled : print mask ≡ text ++ rest
  long : length rest ≡ missing

last_of : {X : Type 0} (x : X) (xs : List X) → (front : List X) × (y : X) × (x ∷ xs ≡ front ++ y ∷ []) × (length front ≡ length xs)
last_of x [] = ([], x, refl, refl)
last_of x (z ∷ xs) = let l = last_of z xs in (x ∷ l.0, l.1, ap (λ t. x ∷ t) l.2, ap (λ n. suc n) l.3)

finished : (n : ℕ) (os : List Open) (f : ℕ) (items : Mask) (path : List Name) (bytes text : List ℕ) → length os ≡ n → Held os f place.Closed items path bytes text → Finish text n
finished n [] f items path bytes text len h =
    record { mask = items; some = h.at.2; items = h.items_are; low = omega (arith, h.low, h.nested); rest = []; spelled = sym h.spelled ∙ sym (append-nil text); long = len }
finished zero (o ∷ os) f items path bytes text len h = absurd (omega (arith, len))
finished (suc n) (o ∷ os) f items path bytes text len h =
    let l = last_of o os in
    let h' = subst (λ (x : List Open). Held x f place.Closed items path bytes text) l.2 h in
    let more = finished n l.0 (l.1).first (together (l.1).items (item (l.1).path items none)) path bytes (text ++ 41 ∷ []) (omega (arith, len, l.3)) (takes_close l.0 l.1 f items path bytes text h') in
    record { mask = more.mask; some = more.some; items = more.items; low = more.low; rest = 41 ∷ more.rest; spelled = more.spelled ∙ append_assoc text (41 ∷ []) more.rest; long = omega (arith, more.long) }

takes_star : (os : List Open) (f : ℕ) (items : Mask) (path : List Name) (bytes text : List ℕ) → Held os f place.Start items path bytes text → Held os f place.Star items path bytes (text ++ 42 ∷ [])
takes_star os f items path bytes text h = record {
  spelled = ap (λ t. t ++ 42 ∷ []) (h.spelled ∙ ap (λ bs. print_opens os ++ (print_done items ++ (print_steps path ++ bs))) h.at)
      ∙ append_assoc (print_opens os) (print_done items ++ (print_steps path ++ [])) (42 ∷ [])
      ∙ ap (λ t. print_opens os ++ t) (append_assoc (print_done items) (print_steps path ++ []) (42 ∷ []) ∙ ap (λ t. print_done items ++ t) (append_assoc (print_steps path) [] (42 ∷ [])));
  nested = h.nested;
  items_are = h.items_are;
  low = h.low;
  names = h.names;
  deep = h.deep;
  at = h.at;
}

ends_named : (os : List Open) (f : ℕ) (p : Place) (items : Mask) (path : List Name) (bytes text : List ℕ) → IsNamed p → Held os f p items path bytes text → Finish text (length os)
ends_named os f p items path bytes text named h = finished (length os) os f (together items (item (path ++ name_at p bytes ∷ []) none none)) [] [] text refl (ends_item os f p items path bytes text named h)

ends_held : (os : List Open) (f : ℕ) (p : Place) (items : Mask) (path : List Name) (bytes text : List ℕ) → Held os f p items path bytes text → Finish text (needed_at p (length os))
ends_held os f place.Start items path bytes text h =
    let more = ends_named os f place.Star items path bytes (text ++ 42 ∷ []) tt (takes_star os f items path bytes text h) in
    record { mask = more.mask; some = more.some; items = more.items; low = more.low; rest = 42 ∷ more.rest; spelled = more.spelled ∙ append_assoc text (42 ∷ []) more.rest; long = omega (arith, more.long) }
ends_held os f place.Key items path bytes text h = ends_named os f place.Key items path bytes text tt h
ends_held os f place.Star items path bytes text h = ends_named os f place.Star items path bytes text tt h
ends_held os f place.Closed items path bytes text h = finished (length os) os f items path bytes text refl h

-- what is held begins a mask, where there is room for what is missing
pub held_begins : (os : List Open) (f : ℕ) (p : Place) (items : Mask) (path : List Name) (bytes text : List ℕ) → Held os f p items path bytes text → length text + needed_at p (length os) ≤ 4096 → BeginsMask text
held_begins os f p items path bytes text h room =
    let e = ends_held os f p items path bytes text h in
    record { mask = e.mask; is_mask = record { some = e.some; items = e.items; short = omega (arith, ap length e.spelled, length-append text e.rest, e.long, room); shallow = e.low }; rest = e.rest; spelled = e.spelled }

needed : Option Stop → ℕ
needed None = 0
needed (Some t) = needed_of t

needed_le : (p : Place) (n : ℕ) → needed_at p n ≤ n + 1
needed_le place.Start n = omega arith
needed_le place.Key n = omega arith
needed_le place.Star n = omega arith
needed_le place.Closed n = omega arith

needed_item : (p : Place) (n : ℕ) → IsItem p → needed_at p n ≡ n
needed_item place.Start n is = absurd is
needed_item place.Key n is = refl
needed_item place.Star n is = refl
needed_item place.Closed n is = refl

none_some : (t : Stop) → None ≡ Some t → ⊥
none_some t e = cc

need_if : (b : Bool) (u t : Stop) (n : ℕ) → n ≤ 1 + needed_of u → (if b then Some u else None) ≡ Some t → n ≤ 1 + needed_of t
unfolding needed
need_if true u t n low e = omega (arith, low, ap needed e)
need_if false u t n low e = absurd (none_some t e)

need_sign : (p : Place) (l f : ℕ) (o : List ℕ) (sg : Sign) (t : Stop) → (sg ≡ sign.Close → IsItem p) → stepped record { place = p; level = l; first = f; outer = o } sg ≡ Some t → needed_at p (length o) ≤ 1 + needed_of t
unfolding needed
need_sign p l f o sign.Bad t closes e = absurd (none_some t e)
need_sign p l f o sign.Star t closes e = omega (arith, ap needed e, needed_le p (length o))
need_sign p l f o sign.Letter t closes e = omega (arith, ap needed e, needed_le p (length o))
need_sign p l f o sign.Slash t closes e = need_if _ record { place = place.Start; level = l + 1; first = f; outer = o } t (needed_at p (length o)) (omega (arith, needed_le p (length o))) e
need_sign p l f o sign.Open t closes e = need_if _ record { place = place.Start; level = l + 2; first = l + 2; outer = f ∷ o } t (needed_at p (length o)) (omega (arith, needed_le p (length o))) e
need_sign p l f o sign.Comma t closes e = omega (arith, ap needed e, needed_le p (length o))
need_sign p l f [] sign.Close t closes e = absurd (none_some t e)
need_sign p l f (g ∷ o) sign.Close t closes e = omega (arith, ap needed e, needed_item p (length (g ∷ o)) (closes refl))

starts_closed : (x y : Bool) → (if x then sign.Star else (if y then sign.Letter else sign.Bad)) ≡ sign.Close → ⊥
starts_closed true y e = cc
starts_closed false true e = cc
starts_closed false false e = cc

closes_item : (p : Place) (b : ℕ) → sign_of p b ≡ sign.Close → IsItem p
closes_item place.Start b e = starts_closed (b == 42) (is_name_byte b) e
closes_item place.Key b e = tt
closes_item place.Star b e = tt
closes_item place.Closed b e = tt

need_then : (s t : Stop) (b : ℕ) (bs : List ℕ) → ((u : Stop) → run u bs ≡ Some t → needed_of u ≤ length bs + needed_of t) → (o : Option Stop) → step s b ≡ o
    → option_and_then (λ u. run u bs) o ≡ Some t → needed_of s ≤ length (b ∷ bs) + needed_of t
need_then s t b bs more None d e = absurd (none_some t e)
need_then s t b bs more (Some u) d e = omega (arith, more u e, need_sign s.place s.level s.first s.outer (sign_of s.place b) u (closes_item s.place b) d)

-- each byte is one that was missing, at most
run_need : (s t : Stop) (bs : List ℕ) → run s bs ≡ Some t → needed_of s ≤ length bs + needed_of t
unfolding needed
run_need s t [] e = omega (arith, ap needed e)
run_need s t (b ∷ bs) e = need_then s t b bs (λ u f. run_need u t bs f) (step s b) refl e

-- the text of a mask is run through to its end
through : (m : Mask) → IsMask m → (t : Stop) × IsItem t.place × (t.outer ≡ []) × (run start (print m) ≡ Some t)
through m is =
    let r = run_items m 1 [] is.some is.items (omega (arith, is.shallow)) in
    (record { place = r.0; level = r.1; first = 1; outer = [] }, r.2, refl, r.3)

-- no mask begins where a run fails
pub none_begins : (m : Mask) (text rest : List ℕ) → IsMask m → run start text ≡ None → print m ≡ text ++ rest → ⊥
none_begins m text rest is fails e =
    let t = through m is in
    none_some t.0 (sym (run_append start text rest ∙ ap (option_and_then (λ u. run u rest)) fails) ∙ ap (run start) (sym e) ∙ t.3)

-- nor where too much is missing
pub needy_begins : (m : Mask) (text rest : List ℕ) (s : Stop) → IsMask m → run start text ≡ Some s → 4096 < length text + needed_of s → print m ≡ text ++ rest → ⊥
needy_begins m text rest s is runs needy e =
    let t = through m is in
    let left = run_need s t.0 rest (sym (run_then start s text rest runs) ∙ ap (run start) (sym e) ∙ t.3) in
    let done : needed_of t.0 ≡ 0 = needed_item t.0.place (length t.0.outer) t.1 ∙ ap length t.2 in
    omega (arith, left, done, is.short, ap length e, length-append text rest, needy)

-- nor where the text is too long
pub long_begins : (m : Mask) (text rest : List ℕ) → IsMask m → 4096 < length text → print m ≡ text ++ rest → ⊥
long_begins m text rest is long e = omega (arith, is.short, ap length e, length-append text rest, long)

or_start : Option Stop → Stop
or_start None = start
or_start (Some t) = t

-- and a text that stops within a mask is none
pub open_none : (text : List ℕ) (s : Stop) → run start text ≡ Some s → (IsWhole s → ⊥) → IsNoMask text
unfolding or_start
open_none text s runs open_still m is e =
    let t = through m is in
    let same : t.0 ≡ s = ap or_start (sym t.3 ∙ ap (run start) e ∙ runs) in
    let P : Stop → Type 0 = λ x. IsItem x.place × (x.outer ≡ []) in
    open_still (subst P same (t.1, t.2))

-- what is in front of a begin of a mask begins it too
pub begins_less : (n p : ℕ) (text : List ℕ) → p ≤ n → BeginsMask (take n text) → BeginsMask (take p text)
begins_less n p text le b = record {
  mask = b.mask;
  is_mask = b.is_mask;
  rest = drop p (take n text) ++ b.rest;
  spelled = b.spelled ∙ ap (λ t. t ++ b.rest) (sym (take-append-drop p (take n text))) ∙ append_assoc (take p (take n text)) (drop p (take n text)) b.rest
      ∙ ap (λ t. t ++ (drop p (take n text) ++ b.rest)) (take-take p n text le);
}

le_or_more : (n p : ℕ) → (n ≤ p) ⊎ (p < n)
le_or_more n p = ⊎_elim (λ less. inr less) (λ le. inl le) (cases_lt p n)

-- what a reader has read begins a mask
pub reader_begins : (r : Reader) (text : List ℕ) → Stands r text → length text + needed_of (stop_of r) ≤ 4096 → BeginsMask text
reader_begins r text s room =
    let len : length (firsts (opens_of r) []) ≡ length (opens_of r) = omega (arith, firsts_length (opens_of r) []) in
    held_begins (opens_of r) r.first r.place (items_of r) (names_of r) r.name.items text s.holds (omega (arith, room, ap (needed_at r.place) len))

-- a place within the text, behind which no mask goes on
pub place_within : (text : List ℕ) (p : ℕ) → p < length text → BeginsMask (take p text) → ((m : Mask) (rest : List ℕ) → IsMask m → print m ≡ take (p + 1) text ++ rest → ⊥)
    → IsPlace text p × IsNoMask text
place_within text p within begins ends = (
  record { within = omega (arith, within); begins = begins; longest = λ n le b. at_most n b },
  λ m is e. ends m (drop (p + 1) text) is (e ∙ sym (take-append-drop (p + 1) text)),
)
  where
    beyond : (n : ℕ) → p + 1 ≤ n → BeginsMask (take n text) → ⊥
    beyond n le b = let l = begins_less n (p + 1) text le b in ends l.mask l.rest l.is_mask l.spelled

    at_most : (n : ℕ) → BeginsMask (take n text) → n ≤ p
    at_most n b = ⊎_elim (λ (le : n ≤ p). le) (λ (gt : p < n). absurd (beyond n (omega (arith, gt)) b)) (le_or_more n p)

-- the place at the text's end
pub place_end : (text : List ℕ) → BeginsMask text → IsNoMask text → IsPlace text (length text) × IsNoMask text
place_end text begins no_mask = (record { within = omega arith; begins = subst BeginsMask (sym (take_all (length text) text (omega arith))) begins; longest = λ n le b. le }, no_mask)
