-- The lines of a request head of `httparse`'s grammar.
use Rattle.std.proofs.Common.{◌≡◌, ◌≢◌, ℕ, ◌+◌, ◌<◌, Bool, true, false, List, [], ◌∷◌, ◌++◌, length, map, refl, ap, sym, ◌∙◌, subst, arith, append_assoc, append-nil}
use Rattle.std.specs.Prelude.{IsTrue}
use Rattle.std.specs.List.{AllByRecursion, flat_map}
use Rattle.std.proofs.lemmas.Bool.{false≢true}
use Rattle.std.proofs.lemmas.List.Elements.{recursion_from_All}
use Rattle.std.proofs.lemmas.List.{length-map}
use Rattle.httparse.specs.Grammar.{is_token_byte, is_uri_byte, is_value_byte, AllPass, LineEnd, crlf, lf, print_end, print_blank, print_version, Field, print_field, IsField, RequestHead, print_request, IsRequestHead, ReadsRequest}
use Rattle.httparse.proofs.GrammarLemmas.{print_request-append, cons-append}
use Rattle.gcs_http_in.specs.Lines.{print_line, print_lines, is_blank, IsBlank, IsFilled, IsLine}
use Rattle.gcs_http_in.specs.Head.{stripped}
use Rattle.gcs_http_in.proofs.HeadUnique.{run_unique}

-- two texts without LF
pub line_append : (a b : List ℕ) → IsLine a → IsLine b → IsLine (a ++ b)
line_append [] b f g = g
line_append (x ∷ a) b f g = (f.0, line_append a b f.1 g)

-- bytes of a kind that has no LF
line_weaken : (P : ℕ → Type 0) → ((b : ℕ) → P b → b ≢ 10) → (a : List ℕ) → AllByRecursion P a → IsLine a
line_weaken P other [] f = tt
line_weaken P other (x ∷ a) f = (other x f.0, line_weaken P other a f.1)

-- bytes of a class that has no LF
pub line_pass : (test : ℕ → Bool) → test 10 ≡ false → (a : List ℕ) → AllPass test a → IsLine a
line_pass test fails a all =
    let P : ℕ → Type 0 = λ b. IsTrue (test b) in
    line_weaken P (λ b h e. false≢true (sym fails ∙ subst P e h)) a (recursion_from_All P a all)

-- a token has no LF
token_no_lf : is_token_byte 10 ≡ false
unfolding is_token_byte
token_no_lf = refl

-- the bytes of a line end before its LF
abbrev pub before_lf : LineEnd → List ℕ
before_lf crlf = 13 ∷ []
before_lf lf = []

-- a line end is an empty line
pub end_is_line : (e : LineEnd) → print_end e ≡ print_line (before_lf e)
end_is_line crlf = refl
end_is_line lf = refl

-- what stands before its LF is nothing or CR
pub end_is_blank : (e : LineEnd) → IsBlank (before_lf e)
end_is_blank crlf = (((λ (h : 13 ≡ 10). omega arith), tt), refl)
end_is_blank lf = (tt, refl)

-- a line of two bytes or more is nonempty
two_fill : (a b : List ℕ) (c : ℕ) → 0 < length a → is_blank (a ++ c ∷ b) ≡ false
two_fill [] b c lt = absurd (omega arith)
two_fill (x ∷ []) b c lt = refl
two_fill (x ∷ y ∷ a) b c lt = refl

-- a field as a line
abbrev pub field_line : Field → List ℕ
field_line f = f.name ++ (58 ∷ (f.raw ++ before_lf f.end))

-- a field is a line
pub field_is_line : (f : Field) → print_field f ≡ print_line (field_line f)
field_is_line f = rw (end_is_line f.end) (simp (append_assoc, cons-append))

-- a colon is no LF
colon_no_lf : ◌≡◌ {A = ℕ} 58 10 → ⊥
colon_no_lf e = omega arith

-- a space is no LF
space_no_lf : ◌≡◌ {A = ℕ} 32 10 → ⊥
space_no_lf e = omega arith

-- a field is a nonempty line
pub field_is_filled : (f : Field) → IsField f → IsFilled (field_line f)
field_is_filled f h = (
  line_append f.name _ (line_pass is_token_byte token_no_lf f.name h.name.1)
      (colon_no_lf, line_append f.raw _ (line_pass is_value_byte refl f.raw h.raw) (end_is_blank f.end).0),
  two_fill f.name _ 58 h.name.0,
)

-- fields are lines
pub fields_are_lines : (fs : List Field) → flat_map print_field fs ≡ print_lines (map field_line fs)
fields_are_lines [] = refl
fields_are_lines (f ∷ fs) = rw (field_is_line f, fields_are_lines fs) refl

-- fields are nonempty lines
pub fields_are_filled : (fs : List Field) → AllByRecursion IsField fs → AllByRecursion IsFilled (map field_line fs)
fields_are_filled [] h = tt
fields_are_filled (f ∷ fs) h = (field_is_filled f h.0, fields_are_filled fs h.1)

-- the request line
abbrev pub start_line : RequestHead → List ℕ
start_line h = h.method ++ (32 ∷ (h.target ++ (32 ∷ (print_version h.minor ++ before_lf h.line_end))))

-- a version has no LF
version_line : (minor : ℕ) → IsLine (print_version minor)
version_line minor = ((λ e. omega arith), ((λ e. omega arith), ((λ e. omega arith), ((λ e. omega arith), ((λ e. omega arith), ((λ e. omega arith), ((λ e. omega arith), ((λ e. omega arith), tt))))))))

-- a request line is a nonempty line
pub start_is_filled : (h : RequestHead) → IsRequestHead h → IsFilled (start_line h)
start_is_filled h r = (
  line_append h.method _ (line_pass is_token_byte token_no_lf h.method r.method.1) (
    space_no_lf,
    line_append h.target _ (line_pass is_uri_byte refl h.target r.target.1)
        (space_no_lf, line_append (print_version h.minor) _ (version_line h.minor) (end_is_blank h.line_end).0),
  ),
  two_fill h.method _ 32 r.method.0,
)

-- line ends are empty lines
blank_are_lines : (es : List LineEnd) → print_blank es ≡ print_lines (map before_lf es)
blank_are_lines [] = refl
blank_are_lines (e ∷ es) = rw (end_is_line e, blank_are_lines es) refl

-- and all of them are empty
blank_are_blank : (es : List LineEnd) → AllByRecursion IsBlank (map before_lf es)
blank_are_blank [] = tt
blank_are_blank (e ∷ es) = (end_is_blank e, blank_are_blank es)

-- a head, by its lines
pub request_lines : (h : RequestHead) → print_request h ≡ print_lines (map before_lf h.blank)
    ++ (print_line (start_line h) ++ (print_lines (map field_line h.fields) ++ print_line (before_lf h.last)))
request_lines h =
    sym (append-nil (print_request h)) ∙ print_request-append h []
    ∙ rw (blank_are_lines h.blank, end_is_line h.line_end, fields_are_lines h.fields, end_is_line h.last)
    (ap (λ (t : List ℕ). print_lines (map before_lf h.blank) ++ t) (regroup h.method h.target (print_version h.minor) (before_lf h.line_end) (print_lines (map field_line h.fields)) (print_line (before_lf h.last))))
  where
    regroup : (m t v e a b : List ℕ) → m ++ 32 ∷ (t ++ 32 ∷ (v ++ ((e ++ 10 ∷ []) ++ ((a ++ b) ++ []))))
        ≡ ((m ++ 32 ∷ (t ++ 32 ∷ (v ++ e))) ++ 10 ∷ []) ++ (a ++ b)
    regroup m t v e a b = simp (append_assoc, append-nil, cons-append)

-- each nonempty line after the first is a field
pub field_count : (text : List ℕ) (lines : List (List ℕ)) (last : List ℕ) (h : RequestHead)
    → AllByRecursion IsFilled lines → 0 < length lines → IsBlank last → text ≡ stripped lines last → ReadsRequest text h []
    → length lines ≡ length h.fields + 1
field_count text [] last h filled some ends e reads = absurd (omega arith)
field_count text (l ∷ ls) last h filled some ends e reads =
    let f : AllByRecursion IsField h.fields = recursion_from_All IsField h.fields reads.0.fields in
    let spelled = sym (append-nil (print_request h)) ∙ sym reads.1 ∙ e ∙ append_assoc (print_line l) (print_lines ls) (print_line last) in
    let r = run_unique true (map before_lf h.blank) [] (start_line h) l _ _ (blank_are_blank h.blank) tt (start_is_filled h reads.0) filled.0
    (sym (request_lines h) ∙ spelled) in
    let s = run_unique false (map field_line h.fields) ls (before_lf h.last) last [] [] (fields_are_filled h.fields f) filled.1 (end_is_blank h.last) ends
    (ap (λ (t : List ℕ). print_lines (map field_line h.fields) ++ t) (append-nil (print_line (before_lf h.last))) ∙ r.2 ∙ ap (λ (t : List ℕ). print_lines ls ++ t) (sym (append-nil (print_line last)))) in
    let n : length ls ≡ length h.fields = ap length (sym s.0) ∙ length-map h.fields field_line in
    omega arith
