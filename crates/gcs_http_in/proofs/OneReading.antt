-- A text has one reading, and what a framer stands for is it.
use Rattle.std.proofs.Common.{◌≡◌, ℕ, zero, suc, ◌+◌, ◌-◌, ◌<◌, Bool, true, List, [], ◌∷◌, ◌++◌, length, refl, ap, sym, ◌∙◌, subst, arith, append_assoc, append-nil, add-zero, inl, length-append}
use Rattle.gcs_http_in.specs.declared.limits.Limits.{Limits}
use Rattle.gcs_http_in.specs.declared.fault.FrameFault.TheVariants as fault
use Rattle.gcs_http_in.specs.Lines.{IsLine, OpensHead}
use Rattle.gcs_http_in.specs.Message.{Message, refused, IsSpelling, IsSpelled, AllKeep, keeps_of, BeginsNone, Spells}
use Rattle.gcs_http_in.proofs.HeadUnique.{open_none}
use Rattle.gcs_http_in.proofs.RequestLines.{line_append}
use Rattle.gcs_http_in.proofs.OneMessage.{one_message}

-- the same reading, from a place where another message may come or may not
readings : (limits : Limits) (live : Bool) (n : ℕ) (ms ks : List Message) (a b r s : List ℕ) → IsSpelled limits n ms a → IsSpelled limits n ks b → a ++ r ≡ b ++ s
    → (0 < length ms → live ≡ true) → (0 < length ks → live ≡ true)
    → (live ≡ true → AllKeep ms → BeginsNone limits (n + length ms) r) → (live ≡ true → AllKeep ks → BeginsNone limits (n + length ks) s)
    → (ms ≡ ks) × (r ≡ s)
readings limits live n [] [] a b r s p q e lm lk nm nk = (refl, sym (ap (λ (t : List ℕ). t ++ r) p) ∙ e ∙ ap (λ (t : List ℕ). t ++ s) q)
readings limits live n [] (k ∷ ks) a b r s p q e lm lk nm nk =
    let same : r ≡ q.0 ++ (q.1 ++ s) = sym (ap (λ (t : List ℕ). t ++ r) p) ∙ e ∙ ap (λ (t : List ℕ). t ++ s) q.2 ∙ append_assoc q.0 q.1 s in
    absurd (nm (lk (omega arith)) tt q.0 (q.1 ++ s) k same (subst (λ (i : ℕ). IsSpelling limits i k q.0) (sym (add-zero n)) q.3))
readings limits live n (m ∷ ms) [] a b r s p q e lm lk nm nk =
    let same : s ≡ p.0 ++ (p.1 ++ r) = sym (ap (λ (t : List ℕ). t ++ s) q) ∙ sym e ∙ ap (λ (t : List ℕ). t ++ r) p.2 ∙ append_assoc p.0 p.1 r in
    absurd (nk (lm (omega arith)) tt p.0 (p.1 ++ r) m same (subst (λ (i : ℕ). IsSpelling limits i m p.0) (sym (add-zero n)) p.3))
readings limits live n (m ∷ ms) (k ∷ ks) a b r s p q e lm lk nm nk =
    let one = one_message limits n m k p.0 q.0 (p.1 ++ r) (q.1 ++ s) p.3 q.3
    (sym (append_assoc p.0 p.1 r) ∙ ap (λ (t : List ℕ). t ++ r) (sym p.2) ∙ e ∙ ap (λ (t : List ℕ). t ++ s) q.2 ∙ append_assoc q.0 q.1 s) in
    let same : keeps_of m ≡ keeps_of k = ap keeps_of one.0 in
    let up : live ≡ true = lm (omega arith) in
    let rest = readings limits (keeps_of m) (n + 1) ms ks p.1 q.1 r s p.4 q.4 one.2 p.5 (λ lt. same ∙ q.5 lt)
    (λ l all. subst (λ (i : ℕ). BeginsNone limits i r) (omega arith) (nm up (l, all)))
    (λ l all. subst (λ (i : ℕ). BeginsNone limits i s) (omega arith) (nk up (sym same ∙ l, all))) in
    ((λ i. one.0 i ∷ rest.0 i), rest.1)

-- the number of the message that comes next
swap_number : (limits : Limits) (ms : List Message) (r : List ℕ) → BeginsNone limits (length ms + 1) r → BeginsNone limits (1 + length ms) r
swap_number limits ms r h = subst (λ (i : ℕ). BeginsNone limits i r) (omega arith) h

-- a text has one reading
pub one_reading : (limits : Limits) (bytes : List ℕ) (ms ks : List Message) (r s : List ℕ) → Spells limits bytes ms r → Spells limits bytes ks s → (ms ≡ ks) × (r ≡ s)
one_reading limits bytes ms ks r s p q =
    readings limits true 1 ms ks p.front q.front r s p.spelled q.spelled (sym p.split ∙ q.split) (λ lt. refl) (λ lt. refl)
    (λ l all. swap_number limits ms r (p.no_more all)) (λ l all. swap_number limits ks s (q.no_more all))

-- what can still become a message isn't one, and begins with none
pub open_by : (limits : Limits) (n : ℕ) (m : Message) (part more : List ℕ) → IsSpelling limits n m (part ++ more) → 0 < length more → BeginsNone limits n part
open_by limits n m part more p some front rest k e q =
    let one = one_message limits n m k (part ++ more) front [] (rest ++ more) p q
    (append-nil (part ++ more) ∙ ap (λ (t : List ℕ). t ++ more) e ∙ append_assoc front rest more) in
    let len : length part + length more ≡ length front = sym (length-append part more) ∙ ap length one.1 in
    let len' : length part ≡ length front + length rest = ap length e ∙ length-append front rest in
    omega arith

-- so many bytes without a LF
pub fill : ℕ → List ℕ
fill zero = []
fill (suc n) = 120 ∷ fill n

-- the fill bytes are no LF
pub fill_line : (n : ℕ) → IsLine (fill n)
unfolding fill
fill_line zero = tt
fill_line (suc n) = ((λ e. omega arith), fill_line n)

-- the fill has that many bytes
pub length_fill : (n : ℕ) → length (fill n) ≡ n
unfolding fill
length_fill zero = refl
length_fill (suc n) = ap suc (length_fill n)

-- no fill
pub fill_none : (t : List ℕ) → fill 0 ++ t ≡ t
unfolding fill
fill_none t = refl

-- a head that isn't whole may get too long
pub open_head : (limits : Limits) (n : ℕ) (text : List ℕ) (blank lines : List (List ℕ)) (tail : List ℕ) → OpensHead text blank lines tail → length text < limits.head
    → BeginsNone limits n text
open_head limits n text blank lines tail o lt =
    let k = limits.head - length text in
    let longer : OpensHead (text ++ fill k) blank lines (tail ++ fill k) = record {
      spelled = rw o.spelled (simp append_assoc);
      all_blank = o.all_blank;
      all_filled = o.all_filled;
      open_line = line_append tail (fill k) o.open_line (fill_line k);
    } in
    open_by limits n (refused fault.HeadTooLong) text (fill k) (inl (inl (
      refl,
      record {
        full = rw (length-append, length_fill) (omega arith);
        none = λ front rest blank' lines' last head same. open_none (text ++ fill k) front rest blank blank' lines lines' (tail ++ fill k) last longer head same;
      },
    ))) (rw length_fill (omega arith))
