-- Two heads that begin one text are the same.
use Rattle.std.proofs.Common.{◌≡◌, ℕ, ◌+◌, ◌<◌, ◌≤◌, List, [], ◌∷◌, ◌++◌, length, refl, ap, sym, ◌∙◌, subst, arith, inl, inr, ◌⊎◌, Ok, Err, Result}
use Rattle.httparse.proofs.GrammarLemmas.{request_unique}
use Rattle.gcs_http_in.specs.declared.limits.Limits.{Limits}
use Rattle.gcs_http_in.specs.declared.fault.FrameFault.{FrameFault}
use Rattle.gcs_http_in.specs.declared.fault.FrameFault.TheVariants as fault
use Rattle.gcs_http_in.specs.declared.fields.Framing.{Framing}
use Rattle.gcs_http_in.specs.Lines.{print_line, print_lines, IsHeadText}
use Rattle.gcs_http_in.specs.Fields.{framing_of}
use Rattle.gcs_http_in.specs.Head.{Head, head_of, IsRequestText, stripped, IsGoodHead, HasBadFields, IsBadHead}
use Rattle.gcs_http_in.specs.Message.{IsGoodHeadText, IsOverlong, IsRefusedHead}
use Rattle.gcs_http_in.proofs.HeadUnique.{head_unique}

-- of two fronts of one text the longer begins with the shorter
pub front_of_longer : (a b x y : List ℕ) → a ++ x ≡ b ++ y → length b ≤ length a → (more : List ℕ) × (a ≡ b ++ more)
front_of_longer a [] x y e le = (a, refl)
front_of_longer [] (c ∷ b) x y e le = absurd (omega arith)
front_of_longer (d ∷ a) (c ∷ b) x y e le =
    let r = front_of_longer a b x y (cc) (omega arith) in
    let h : d ≡ c = cc in
    (r.0, cc)

-- two fronts of one length are one
pub same_fronts : (a b x y : List ℕ) → a ++ x ≡ b ++ y → length a ≡ length b → (a ≡ b) × (x ≡ y)
same_fronts [] [] x y e len = (refl, e)
same_fronts [] (c ∷ b) x y e len = absurd (omega arith)
same_fronts (d ∷ a) [] x y e len = absurd (omega arith)
same_fronts (d ∷ a) (c ∷ b) x y e len =
    let r = same_fronts a b x y (cc) (omega arith) in
    let h : d ≡ c = cc in
    (cc, r.1)

-- a request head says one thing
same_request : (t : List ℕ) (h k : Head) → IsRequestText t h → IsRequestText t k → h ≡ k
same_request t h k p q = p.says ∙ ap head_of (request_unique t p.tree q.tree [] [] p.reads q.reads).0 ∙ sym q.says

-- a cut is one
same_ok : (f g : Framing) (r : Result Framing FrameFault) → r ≡ Ok f → r ≡ Ok g → f ≡ g
same_ok f g r p q = cc

-- a fault is one
same_err : (f g : FrameFault) (r : Result Framing FrameFault) → r ≡ Err f → r ≡ Err g → f ≡ g
same_err f g r p q = cc

-- a cut is no fault
ok_err : (f : Framing) (g : FrameFault) (r : Result Framing FrameFault) → r ≡ Ok f → r ≡ Err g → ⊥
ok_err f g r p q = cc

-- what a bad head is
bad_cases : (limits : Limits) (lines : List (List ℕ)) (last : List ℕ) (f : FrameFault) → IsBadHead limits lines last f
    → ((f ≡ fault.TooManyFields) × (limits.fields + 1 < length lines))
    ⊎ (((f ≡ fault.BadHead) × (length lines ≤ limits.fields + 1) × ((head : Head) → IsRequestText (stripped lines last) head → ⊥))
    ⊎ HasBadFields limits lines last f)
bad_cases limits lines last fault.HeadTooLong b = absurd b
bad_cases limits lines last fault.TooManyFields b = inl (refl, b)
bad_cases limits lines last fault.BadHead b = inr (inl (refl, b.0, b.1))
bad_cases limits lines last fault.BadCoding b = inr (inr b)
bad_cases limits lines last fault.BothLengths b = inr (inr b)
bad_cases limits lines last fault.BadLength b = inr (inr b)
bad_cases limits lines last fault.BodyTooLong b = inr (inr b)
bad_cases limits lines last fault.BadChunk b = absurd b

-- a good head is no bad one
good_bad : (limits : Limits) (lines : List (List ℕ)) (last : List ℕ) (h : Head) (c : Framing) (f : FrameFault) → IsGoodHead limits lines last h c → IsBadHead limits lines last f → ⊥
good_bad limits lines last h c f g b = elim (bad_cases limits lines last f b) [
  | inl p ↦ omega (arith, g.few, p.1)
  | inr q ↦ elim q [
    | inl p ↦ p.2 h g.request
    | inr p ↦ let same = same_request (stripped lines last) h p.head g.request p.request in
        ok_err c f (framing_of limits.body h.fields) g.cut (subst (λ (k : Head). framing_of limits.body k.fields ≡ Err f) (sym same) p.cut)
  ]
]

-- a bad head has one first fault
bad_bad : (limits : Limits) (lines : List (List ℕ)) (last : List ℕ) (f g : FrameFault) → IsBadHead limits lines last f → IsBadHead limits lines last g → f ≡ g
bad_bad limits lines last f g a b = elim (bad_cases limits lines last f a) [
  | inl p ↦ elim (bad_cases limits lines last g b) [
    | inl q ↦ p.0 ∙ sym q.0
    | inr r ↦ elim r [ inl q ↦ absurd (omega (arith, p.1, q.1)) | inr q ↦ absurd (omega (arith, p.1, q.few)) ]
  ]
  | inr s ↦ elim s [
    | inl p ↦ elim (bad_cases limits lines last g b) [
      | inl q ↦ absurd (omega (arith, p.1, q.1))
      | inr r ↦ elim r [ inl q ↦ p.0 ∙ sym q.0 | inr q ↦ absurd (p.2 q.head q.request) ]
    ]
    | inr p ↦ elim (bad_cases limits lines last g b) [
      | inl q ↦ absurd (omega (arith, p.few, q.1))
      | inr r ↦ elim r [
        | inl q ↦ absurd (q.2 p.head p.request)
        | inr q ↦ let same = same_request (stripped lines last) p.head q.head p.request q.request in
            same_err f g (framing_of limits.body p.head.fields) p.cut (subst (λ (k : Head). framing_of limits.body k.fields ≡ Err g) (sym same) q.cut)
      ]
    ]
  ]
]

-- two head texts at the front of a text are one
same_text : (a b x y : List ℕ) (blank blank' lines lines' : List (List ℕ)) (last last' : List ℕ)
    → IsHeadText a blank lines last → IsHeadText b blank' lines' last' → a ++ x ≡ b ++ y → (lines ≡ lines') × (last ≡ last') × (a ≡ b) × (x ≡ y)
same_text a b x y blank blank' lines lines' last last' h k e =
    let r = head_unique a b x y blank blank' lines lines' last last' h k e in
    (r.1, r.2, h.spelled ∙ spell r.0 r.1 r.2 ∙ sym k.spelled, r.3)
  where
    spell : {p q r s : List (List ℕ)} {t u : List ℕ} → p ≡ q → r ≡ s → t ≡ u → print_lines p ++ (print_lines r ++ print_line t) ≡ print_lines q ++ (print_lines s ++ print_line u)
    spell a b c = λ i. print_lines (a i) ++ (print_lines (b i) ++ print_line (c i))

-- two good heads are one
pub good_texts : (limits : Limits) (a b x y : List ℕ) (h k : Head) (c d : Framing) → IsGoodHeadText limits a h c → IsGoodHeadText limits b k d → a ++ x ≡ b ++ y
    → (h ≡ k) × (c ≡ d) × (a ≡ b) × (x ≡ y)
good_texts limits a b x y h k c d p q e =
    let s = same_text a b x y p.blank q.blank p.lines q.lines p.last q.last p.whole q.whole e in
    let g : IsGoodHead limits q.lines q.last h c = subst (λ (l : List ℕ). IsGoodHead limits q.lines l h c) s.1 (subst (λ (l : List (List ℕ)). IsGoodHead limits l p.last h c) s.0 p.good) in
    let same = same_request (stripped q.lines q.last) h k g.request q.good.request in
    (same, same_ok c d (framing_of limits.body h.fields) g.cut (subst (λ (m : Head). framing_of limits.body m.fields ≡ Ok d) (sym same) q.good.cut), s.2, s.3)

-- a head that fits is not overlong
overlong_head : (limits : Limits) (t a x y : List ℕ) (blank lines : List (List ℕ)) (last : List ℕ) → IsOverlong limits t → IsHeadText a blank lines last → length a ≤ limits.head → t ++ x ≡ a ++ y → ⊥
overlong_head limits t a x y blank lines last o h le e =
    let r = front_of_longer t a x y e (omega (arith, o.full)) in o.none a r.0 blank lines last h r.1

-- a good head is not refused
pub good_refused : (limits : Limits) (a b x y : List ℕ) (h : Head) (c : Framing) (f : FrameFault) → IsGoodHeadText limits a h c → IsRefusedHead limits b f → a ++ x ≡ b ++ y → ⊥
good_refused limits a b x y h c f p r e = elim r [
  | inl o ↦ overlong_head limits b a y x p.blank p.lines p.last o.1 p.whole p.fits (sym e)
  | inr q ↦ let s = same_text a b x y p.blank q.blank p.lines q.lines p.last q.last p.whole q.whole e in
      good_bad limits q.lines q.last h c f (subst (λ (l : List ℕ). IsGoodHead limits q.lines l h c) s.1 (subst (λ (l : List (List ℕ)). IsGoodHead limits l p.last h c) s.0 p.good)) q.bad
]

-- two refused heads are one
pub refused_texts : (limits : Limits) (a b x y : List ℕ) (f g : FrameFault) → IsRefusedHead limits a f → IsRefusedHead limits b g → a ++ x ≡ b ++ y → (f ≡ g) × (a ≡ b)
refused_texts limits a b x y f g p r e = elim p [
  | inl o ↦ elim r [
    | inl q ↦ (o.0 ∙ sym q.0, (same_fronts a b x y e (o.1.full ∙ sym q.1.full)).0)
    | inr q ↦ absurd (overlong_head limits a b x y q.blank q.lines q.last o.1 q.whole q.fits e)
  ]
  | inr o ↦ elim r [
    | inl q ↦ absurd (overlong_head limits b a y x o.blank o.lines o.last q.1 o.whole o.fits (sym e))
    | inr q ↦ let s = same_text a b x y o.blank q.blank o.lines q.lines o.last q.last o.whole q.whole e in
        (bad_bad limits q.lines q.last f g (subst (λ (l : List ℕ). IsBadHead limits q.lines l f) s.1 (subst (λ (l : List (List ℕ)). IsBadHead limits l o.last f) s.0 o.bad)) q.bad, s.2)
  ]
]
