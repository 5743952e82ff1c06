-- What each byte makes of what is held.
use Rattle.std.proofs.Common.{subst, ◌≡◌, ◌≢◌, ℕ, ◌+◌, ◌<◌, ◌≤◌, List, [], ◌∷◌, ◌++◌, Some, None, Bool, true, false, length, take, get_or, set, ◌⊎◌, inl, inr, ⊎_elim, refl, sym, ap, ◌∙◌, ne_eqb, ◌==◌, append_assoc, append-nil, arith}
use Rattle.std.specs.Prelude.{if◌then◌else◌}
use Rattle.std.specs.List.{AllByRecursion}
use Rattle.std.proofs.lemmas.Bool.{eqb-true, eq-eqb}
use Rattle.std.proofs.lemmas.List.{take_more, length-append, length-take-le, take_all}
use Rattle.std.proofs.Math.Seq.{get_or-append_seam}
use Rattle.gcs_multipart.specs.declared.mark.Mark.{Mark}
use Rattle.gcs_multipart.specs.declared.mark.Sought.TheVariants as sought
use Rattle.gcs_multipart.specs.Delimiter.{needle, print_mark, IsBoundary, EndsAt}
use Rattle.gcs_multipart.specs.Seek.{Stop, left, return, dash, restart, step, IsHeld, IsFor, Sees, NextOf}
use Rattle.gcs_multipart.proofs.Running.{run_byte, has_none}

-- nothing was seen
pub sees_none : (buffer b : List ℕ) → IsFor b buffer → Sees buffer 0 b [] []
sees_none buffer b e = record { spare = e.0; whole = e.1; within = omega arith; stop = left (needle b); stops = refl; held = refl; spelled = refl }

-- a CR LF was seen
pub sees_line : (buffer b : List ℕ) → IsFor b buffer → Sees buffer 2 b (13 ∷ 10 ∷ []) []
sees_line buffer b e =
    let two : take 2 buffer ≡ 13 ∷ 10 ∷ [] = ap (take 2) e.1 in
    record { spare = e.0; whole = e.1; within = omega arith; stop = left (45 ∷ 45 ∷ b); stops = refl; held = ap (λ t. t ++ 45 ∷ 45 ∷ b) two; spelled = sym two }

-- what is held doesn't go on with the byte
pub sees_again : (buffer b text content : List ℕ) (count byte : ℕ) (s : Sees buffer count b text content) → step b s.stop byte ≡ Some (restart b byte) → (x : Bool) → x ≡ (byte == 13)
    → NextOf buffer (if x then 1 else 0) count b (if x then sought.Given else sought.Passed) byte text content
sees_again buffer b text content count byte s e true is =
    let first : byte ≡ 13 = eqb-true byte 13 (sym is) in
    let one : take 1 buffer ≡ 13 ∷ [] = ap (take 1) s.whole in
    let stops = run_byte b (left (needle b)) s.stop text byte s.stops ∙ e ∙ ap (λ (c : Bool). Some (if c then left (10 ∷ 45 ∷ 45 ∷ b) else left (needle b))) (sym is) in (
      first,
      refl,
      record {
        spare = s.spare;
        whole = s.whole;
        within = omega arith;
        stop = left (10 ∷ 45 ∷ 45 ∷ b);
        stops = stops;
        held = ap (λ t. t ++ (10 ∷ 45 ∷ 45 ∷ b)) one;
        spelled = ap (λ t. t ++ byte ∷ []) s.spelled ∙ ap (λ y. (content ++ take count buffer) ++ y ∷ []) first ∙ ap (λ t. (content ++ take count buffer) ++ t) (sym one);
      },
    )
sees_again buffer b text content count byte s e false is =
    let stops = run_byte b (left (needle b)) s.stop text byte s.stops ∙ e ∙ ap (λ (c : Bool). Some (if c then left (10 ∷ 45 ∷ 45 ∷ b) else left (needle b))) (sym is) in (
      refl,
      record {
        spare = s.spare;
        whole = s.whole;
        within = omega arith;
        stop = left (needle b);
        stops = stops;
        held = refl;
        spelled = ap (λ t. t ++ byte ∷ []) s.spelled ∙ append_assoc content (take count buffer) (byte ∷ []) ∙ sym (append-nil (content ++ (take count buffer ++ byte ∷ [])));
      },
    )

get_at : (p : List ℕ) (x : ℕ) (q : List ℕ) (n d : ℕ) → length p ≡ n → get_or (p ++ x ∷ q) n d ≡ x
get_at p x q n d e = sym (ap (λ k. get_or (p ++ x ∷ q) k d) e) ∙ get_or-append_seam p x q d

-- the byte that goes on
record GoesOn (b : List ℕ) (st : Stop) (buffer : List ℕ) (count : ℕ) : Type 0 where
  more : List ℕ
  stop_is : st ≡ left (get_or buffer count 0 ∷ more)
  whole : take count buffer ++ get_or buffer count 0 ∷ more ≡ needle b

count_of : (buffer b : List ℕ) (spare count : ℕ) → buffer ≡ needle b ++ spare ∷ [] → count ≤ length (needle b) + 1 → length (take count buffer) ≡ count
count_of buffer b spare count e le = length-take-le count buffer (omega (arith, le, ap length e, length-append (needle b) (spare ∷ [])))

goes_on : (b : List ℕ) (st : Stop) (buffer : List ℕ) (spare count : ℕ) → buffer ≡ needle b ++ spare ∷ [] → count < length (needle b) → IsHeld b st (take count buffer) → GoesOn b st buffer count
goes_on b (left []) buffer spare count e lt held =
    absurd (omega (arith, ap length held, length-append (take count buffer) [], count_of buffer b spare count e (omega (arith, lt)), lt))
goes_on b (left (x ∷ xs)) buffer spare count e lt held =
    let long = count_of buffer b spare count e (omega (arith, lt)) in
    let it : get_or buffer count 0 ≡ x = ap (λ t. get_or t count 0) (e ∙ ap (λ t. t ++ spare ∷ []) (sym held) ∙ append_assoc (take count buffer) (x ∷ xs) (spare ∷ [])) ∙ get_at (take count buffer) x (xs ++ spare ∷ []) count 0 long in
    record { more = xs; stop_is = ap (λ y. left (y ∷ xs)) (sym it); whole = ap (λ y. take count buffer ++ y ∷ xs) it ∙ held }
goes_on b return buffer spare count e lt held =
    absurd (omega (arith, ap length held, length-append (needle b) (13 ∷ []), count_of buffer b spare count e (omega (arith, lt)), lt))
goes_on b dash buffer spare count e lt held =
    absurd (omega (arith, ap length held, length-append (needle b) (45 ∷ []), count_of buffer b spare count e (omega (arith, lt)), lt))

-- a byte that goes on in the needle
pub sees_more : (buffer b text content : List ℕ) (count byte : ℕ) (s : Sees buffer count b text content) → count < length (needle b) → byte ≡ get_or buffer count 0 → Sees buffer (count + 1) b (text ++ byte ∷ []) content
sees_more buffer b text content count byte s lt same =
    let g = goes_on b s.stop buffer s.spare count s.whole lt s.held in
    let x = get_or buffer count 0 in
    let room : count < length buffer = omega (arith, lt, ap length s.whole, length-append (needle b) (s.spare ∷ [])) in
    let taken : take (count + 1) buffer ≡ take count buffer ++ x ∷ [] = take_more buffer count 0 room in
    let stepped : step b s.stop byte ≡ Some (left g.more) =
    ap (λ st. step b st byte) g.stop_is ∙ ap (λ (c : Bool). if c then Some (left g.more) else Some (restart b byte)) (eq-eqb byte x same) in
    record {
      spare = s.spare;
      whole = s.whole;
      within = omega (arith, lt);
      stop = left g.more;
      stops = run_byte b (left (needle b)) s.stop text byte s.stops ∙ stepped;
      held = ap (λ t. t ++ g.more) taken ∙ append_assoc (take count buffer) (x ∷ []) g.more ∙ g.whole;
      spelled = ap (λ t. t ++ byte ∷ []) s.spelled ∙ append_assoc content (take count buffer) (byte ∷ []) ∙ ap (λ y. content ++ (take count buffer ++ y ∷ [])) same ∙ ap (λ t. content ++ t) (sym taken);
    }

-- and one that doesn't
pub parts_within : (buffer b text content : List ℕ) (count byte : ℕ) (s : Sees buffer count b text content) → count < length (needle b) → byte ≢ get_or buffer count 0 → step b s.stop byte ≡ Some (restart b byte)
parts_within buffer b text content count byte s lt apart =
    let g = goes_on b s.stop buffer s.spare count s.whole lt s.held in
    ap (λ st. step b st byte) g.stop_is ∙ ap (λ (c : Bool). if c then Some (left g.more) else Some (restart b byte)) (ne_eqb byte (get_or buffer count 0) apart)

-- the needle is whole
at_full : (b : List ℕ) (st : Stop) (buffer : List ℕ) (spare count : ℕ) → buffer ≡ needle b ++ spare ∷ [] → count ≡ length (needle b) → IsHeld b st (take count buffer) → (st ≡ left []) × (take count buffer ≡ needle b)
at_full b (left []) buffer spare count e full held = (refl, sym (append-nil (take count buffer)) ∙ held)
at_full b (left (x ∷ xs)) buffer spare count e full held =
    absurd (omega (arith, ap length held, length-append (take count buffer) (x ∷ xs), count_of buffer b spare count e (omega (arith, full)), full))
at_full b return buffer spare count e full held =
    absurd (omega (arith, ap length held, length-append (needle b) (13 ∷ []), count_of buffer b spare count e (omega (arith, full)), full))
at_full b dash buffer spare count e full held =
    absurd (omega (arith, ap length held, length-append (needle b) (45 ∷ []), count_of buffer b spare count e (omega (arith, full)), full))

pub parts_behind : (buffer b text content : List ℕ) (count byte : ℕ) (s : Sees buffer count b text content) → count ≡ length (needle b) → byte ≢ 13 → byte ≢ 45 → step b s.stop byte ≡ Some (restart b byte)
parts_behind buffer b text content count byte s full no_return no_dash =
    let g = at_full b s.stop buffer s.spare count s.whole full s.held in
    ap (λ st. step b st byte) g.0 ∙ ap (λ (c : Bool). if c then Some return else (if byte == 45 then Some dash else Some (restart b byte))) (ne_eqb byte 13 no_return)
    ∙ ap (λ (c : Bool). if c then Some dash else Some (restart b byte)) (ne_eqb byte 45 no_dash)

set_at : (p : List ℕ) (x y : ℕ) → set (p ++ x ∷ []) (length p) y ≡ p ++ y ∷ []
set_at [] x y = refl
set_at (z ∷ p) x y = ap (λ t. z ∷ t) (set_at p x y)

-- the first byte of a mark
pub sees_mark : (buffer b text content : List ℕ) (count byte : ℕ) (s : Sees buffer count b text content) → count ≡ length (needle b) → (byte ≡ 13) ⊎ (byte ≡ 45)
    → Sees (set buffer count byte) (count + 1) b (text ++ byte ∷ []) content
sees_mark buffer b text content count byte s full which =
    let g = at_full b s.stop buffer s.spare count s.whole full s.held in
    let new : set buffer count byte ≡ needle b ++ byte ∷ [] = ap (λ t. set t count byte) s.whole ∙ ap (λ n. set (needle b ++ s.spare ∷ []) n byte) full ∙ set_at (needle b) s.spare byte in
    let all : take (count + 1) (set buffer count byte) ≡ needle b ++ byte ∷ [] = take_all (count + 1) (set buffer count byte) (omega (arith, full, ap length new, length-append (needle b) (byte ∷ []))) ∙ new in
    let stops = run_byte b (left (needle b)) s.stop text byte s.stops ∙ ap (λ st. step b st byte) g.0 in
    let spelled = ap (λ t. t ++ byte ∷ []) s.spelled ∙ append_assoc content (take count buffer) (byte ∷ []) ∙ ap (λ t. content ++ (t ++ byte ∷ [])) g.1 ∙ ap (λ t. content ++ t) (sym all) in
    ⊎_elim
    (λ (e : byte ≡ 13). record { spare = byte; whole = new; within = omega (arith, full); stop = return; stops = stops ∙ ap (step b (left [])) e; held = all ∙ ap (λ y. needle b ++ y ∷ []) e; spelled = spelled })
    (λ (e : byte ≡ 45). record { spare = byte; whole = new; within = omega (arith, full); stop = dash; stops = stops ∙ ap (step b (left [])) e; held = all ∙ ap (λ y. needle b ++ y ∷ []) e; spelled = spelled })
    which

all_held : (buffer b text content : List ℕ) (count : ℕ) (s : Sees buffer count b text content) → length (needle b) < count → take count buffer ≡ needle b ++ s.spare ∷ []
all_held buffer b text content count s over = take_all count buffer (omega (arith, over, ap length s.whole, length-append (needle b) (s.spare ∷ []))) ∙ s.whole

-- the last byte of a delimiter
pub found : (buffer b text content : List ℕ) (count byte : ℕ) (mark : Mark) (s : Sees buffer count b text content) → IsBoundary b → length (needle b) < count → s.spare ∷ byte ∷ [] ≡ print_mark mark
    → EndsAt b (text ++ byte ∷ []) content mark × IsFor b buffer
found buffer b text content count byte mark s is over e = (
  record {
    spelled = ap (λ t. t ++ byte ∷ []) (s.spelled ∙ ap (λ t. content ++ t) (all_held buffer b text content count s over))
        ∙ append_assoc content (needle b ++ s.spare ∷ []) (byte ∷ []) ∙ ap (λ t. content ++ t) (append_assoc (needle b) (s.spare ∷ []) (byte ∷ []) ∙ ap (λ t. needle b ++ t) e);
    front = text;
    last = byte;
    split = refl;
    none = has_none b text s.stop is s.stops;
  },
  (s.spare, s.whole),
)

last_same : (p : List ℕ) (x y : ℕ) → p ++ x ∷ [] ≡ p ++ y ∷ [] → x ≡ y
last_same p x y e = sym (get_or-append_seam p x [] 0) ∙ ap (λ t. get_or t (length p) 0) e ∙ get_or-append_seam p y [] 0

at_mark : (b : List ℕ) (st : Stop) (held : List ℕ) (spare : ℕ) → held ≡ needle b ++ spare ∷ [] → IsHeld b st held → ((st ≡ return) × (spare ≡ 13)) ⊎ ((st ≡ dash) × (spare ≡ 45))
at_mark b (left xs) held spare e h = absurd (omega (arith, ap length h, length-append held xs, ap length e, length-append (needle b) (spare ∷ [])))
at_mark b return held spare e h = inl (refl, last_same (needle b) spare 13 (sym e ∙ h))
at_mark b dash held spare e h = inr (refl, last_same (needle b) spare 45 (sym e ∙ h))

-- another byte behind the first one of a mark
pub parts_return : (buffer b text content : List ℕ) (count byte : ℕ) (s : Sees buffer count b text content) → length (needle b) < count → s.spare ≡ 13 → byte ≢ 10 → step b s.stop byte ≡ Some (restart b byte)
parts_return buffer b text content count byte s over spare apart =
    ⊎_elim
    (λ (t : (s.stop ≡ return) × (s.spare ≡ 13)). ap (λ st. step b st byte) t.0 ∙ ap (λ (c : Bool). if c then None else Some (restart b byte)) (ne_eqb byte 10 apart))
    (λ (t : (s.stop ≡ dash) × (s.spare ≡ 45)). absurd (omega (arith, t.1, spare)))
    (at_mark b s.stop (take count buffer) s.spare (all_held buffer b text content count s over) s.held)

pub parts_dash : (buffer b text content : List ℕ) (count byte : ℕ) (s : Sees buffer count b text content) → length (needle b) < count → s.spare ≢ 13 → byte ≢ 45 → (s.spare ≡ 45) × (step b s.stop byte ≡ Some (restart b byte))
parts_dash buffer b text content count byte s over spare apart =
    ⊎_elim
    (λ (t : (s.stop ≡ return) × (s.spare ≡ 13)). absurd (spare t.1))
    (λ (t : (s.stop ≡ dash) × (s.spare ≡ 45)). (t.1, ap (λ st. step b st byte) t.0 ∙ ap (λ (c : Bool). if c then None else Some (restart b byte)) (ne_eqb byte 45 apart)))
    (at_mark b s.stop (take count buffer) s.spare (all_held buffer b text content count s over) s.held)

pub is_dash : (buffer b text content : List ℕ) (count : ℕ) (s : Sees buffer count b text content) → length (needle b) < count → s.spare ≢ 13 → s.spare ≡ 45
is_dash buffer b text content count s over spare =
    ⊎_elim (λ (t : (s.stop ≡ return) × (s.spare ≡ 13)). absurd (spare t.1)) (λ (t : (s.stop ≡ dash) × (s.spare ≡ 45)). t.1)
    (at_mark b s.stop (take count buffer) s.spare (all_held buffer b text content count s over) s.held)

-- bytes that are no CR, where nothing is held
pub sees_run : (buffer b text content xs : List ℕ) → AllByRecursion (λ x. x ≢ 13) xs → Sees buffer 0 b text content → Sees buffer 0 b (text ++ xs) (content ++ xs)
sees_run buffer b text content [] all s =
    let P : List ℕ → Type 0 = λ t. Sees buffer 0 b t (content ++ []) in
    subst P (sym (append-nil text)) (subst (λ (u : List ℕ). Sees buffer 0 b text u) (sym (append-nil content)) s)
sees_run buffer b text content (x ∷ xs) all s =
    let apart : x ≢ get_or buffer 0 0 = λ e. all.0 (e ∙ ap (λ (t : List ℕ). get_or t 0 0) s.whole) in
    let more = sees_again buffer b text content 0 x s (parts_within buffer b text content 0 x s (omega arith) apart) false (sym (ne_eqb x 13 all.0)) in
    let rest = sees_run buffer b (text ++ x ∷ []) (content ++ x ∷ []) xs all.1 more.1 in
    subst (λ (u : List ℕ). Sees buffer 0 b (text ++ x ∷ xs) u) (append_assoc content (x ∷ []) xs)
    (subst (λ (t : List ℕ). Sees buffer 0 b t ((content ++ x ∷ []) ++ xs)) (append_assoc text (x ∷ []) xs) rest)
