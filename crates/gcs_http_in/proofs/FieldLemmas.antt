-- One more field, and one more value of a name.
use Rattle.std.proofs.Common.{◌≡◌, ℕ, ◌+◌, ◌<◌, Bool, true, false, cond, List, [], ◌∷◌, ◌++◌, length, take, map, get_or, zero, suc, Some, refl, arith}
use Rattle.std.proofs.lemmas.List.{take_more, map-append}
use Rattle.httparse.specs.declared.spans.HeaderSpan.{HeaderSpan}
use Rattle.httparse.specs.Spans.{header_bytes}
use Rattle.gcs_http_in.specs.Fields.{is_same_word, values_of, first_of}

-- the fields after one more header
pub fields_more : (text : List ℕ) (headers : List HeaderSpan) (i : ℕ) (d : HeaderSpan) → i < length headers
    → map (header_bytes text) (take (i + 1) headers)
    ≡ map (header_bytes text) (take i headers) ++ header_bytes text (get_or headers i d) ∷ []
fields_more text headers i d lt = rw (take_more headers i d lt, map-append) refl

-- a header in the place of one past the end
abbrev pub no_header : HeaderSpan
no_header = record { name = record { start = 0; end = 0 }; value = record { start = 0; end = 0 } }

-- a kept field is the first
first_kept : (b : Bool) (f : List ℕ × List ℕ) (fs : List (List ℕ × List ℕ)) → map (λ (g : List ℕ × List ℕ). g.1) (cond b (f ∷ fs) fs) ≡ []
    → (b ≡ false) × (map (λ (g : List ℕ × List ℕ). g.1) fs ≡ [])
first_kept true f fs e = absurd (cc)
first_kept false f fs e = (refl, e)

-- the first header of the name, after others
pub first_found : (name text : List ℕ) (headers : List HeaderSpan) (i : ℕ) → i < length headers
    → values_of name (map (header_bytes text) (take i headers)) ≡ [] → is_same_word (header_bytes text (get_or headers i no_header)).0 name ≡ true
    → first_of (values_of name (map (header_bytes text) headers)) ≡ Some (header_bytes text (get_or headers i no_header)).1
first_found name text [] i lt none same = absurd (omega arith)
first_found name text (h ∷ hs) zero lt none same = rw same refl
first_found name text (h ∷ hs) (suc i) lt none same =
    let r = first_kept (is_same_word (header_bytes text h).0 name) (header_bytes text h) _ none in
    rw r.0 (first_found name text hs i (omega arith) r.1 same)
