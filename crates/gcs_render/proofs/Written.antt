-- Fields whose keys rise are written as the text of their object.
use Rattle.std.proofs.Common.{◌≡◌, ℕ, List, [], ◌∷◌, ◌++◌, true, false, ◌==◌, length, Option, Some, None, Ordering, Less, Equal, Greater, nat_cmp, map, refl, sym, ap, ◌∙◌, append_assoc}
use Rattle.std.proofs.lemmas.Bool.{and_parts}
use Rattle.std.proofs.lemmas.Cmp.{nat_list_cmp_total}
use Rattle.std.specs.Cmp.Lexicographic.{slice_cmp}
use Rattle.std.specs.List.{AllByRecursion}
use Rattle.std.specs.Ordering.{is_gt, ordering_reverse}
use Rattle.gcs_meaning.specs.Pairs.{AreRising}
use Rattle.json.specs.Token.{Token, key, begin_object, end_object, begin_array, end_array}
use Rattle.json.specs.Tree.{json_tokens, items_tokens, members_tokens}
use Rattle.serde_json.specs.Data.{Data, string, object, array, Members, no_members, member, put}
use Rattle.serde_json.specs.View.{items_of}
use Rattle.serde_json.specs.Written.{outline, items_outline, members_outline, compact_text}
use Rattle.serde_json.proofs.Texts.{print-outline}
use Rattle.json.specs.Print.{print}
use Rattle.gcs_render.specs.Fields.{Field, put_where, with_fields, object_of, with_pairs, array_if, inner}
use Rattle.gcs_render.specs.Laws.{is_below, rise}
use Rattle.gcs_render.specs.Shown.{Sent, with_token, with_value, send_pairs, send_values, in_value, in_text, show_where, show_fields}

-- the keys of fields
abbrev keys : List Field → List (List ℕ)
keys fields = map (λ field. field.0) fields

-- ---- what is put above a member comes after it

greater_from : (order : Ordering) → is_gt order ≡ true → order ≡ Greater
greater_from Less is = cc
greater_from Equal is = cc
greater_from Greater is = refl

put-above : (name : List ℕ) (value : Data) (first : List ℕ) (held : Data) (rest : Members) → slice_cmp nat_cmp name first ≡ Greater
    → put name value (member first held rest) ≡ member first held (put name value rest)
put-above name value first held rest above = rw above refl

put_where-above : (name : List ℕ) (value : Option Data) (first : List ℕ) (held : Data) (rest : Members) → slice_cmp nat_cmp name first ≡ Greater
    → put_where name value (member first held rest) ≡ member first held (put_where name value rest)
put_where-above name None first held rest above = refl
put_where-above name (Some value) first held rest above = put-above name value first held rest above

with_fields-above : (first : List ℕ) (held : Data) (rest : Members) (fields : List Field) → is_below first (keys fields) ≡ true
    → with_fields fields (member first held rest) ≡ member first held (with_fields fields rest)
with_fields-above first held rest [] below = refl
with_fields-above first held rest (field ∷ fields) below =
    let parts = and_parts (is_gt (slice_cmp nat_cmp field.0 first)) (is_below first (keys fields)) below in
    ap (with_fields fields) (put_where-above field.0 field.1 first held rest (greater_from _ parts.0)) ∙ with_fields-above first held (put_where field.0 field.1 rest) fields parts.1

-- ---- where fields go

-- to a value: its members with the fields
show_where-value : (name : List ℕ) (value : Option Data) (held : Members) → show_where name value (in_value held) ≡ in_value (put_where name value held)
unfolding show_where
show_where-value name None held = refl
show_where-value name (Some value) held = refl

pub show_fields-value : (fields : List Field) (held : Members) → show_fields fields (in_value held) ≡ in_value (with_fields fields held)
show_fields-value [] held = refl
show_fields-value (field ∷ fields) held =
    ap (show_fields fields) (show_where-value field.0 field.1 held) ∙ show_fields-value fields (put_where field.0 field.1 held)

-- so an object that has shown them is their object
pub object-shown : (fields : List Field) (held : Members) → in_value held ≡ show_fields fields (in_value no_members) → object held ≡ object_of fields
object-shown fields held shown =
    let same : in_value held ≡ in_value (with_fields fields no_members) = shown ∙ show_fields-value fields no_members in
    cc

-- to a text: its tokens with those of the fields
abbrev send_where : List ℕ → Option Data → Sent → Sent
send_where name None before = before
send_where name (Some value) before = with_value value (with_token (key name) before)

abbrev send_fields : List Field → Sent → Sent
send_fields [] before = before
send_fields (field ∷ fields) before = send_fields fields (send_where field.0 field.1 before)

show_where-text : (name : List ℕ) (value : Option Data) (before : Sent) → show_where name value (in_text before) ≡ in_text (send_where name value before)
unfolding show_where
show_where-text name None before = refl
show_where-text name (Some value) before = refl

show_fields-text : (fields : List Field) (before : Sent) → show_fields fields (in_text before) ≡ in_text (send_fields fields before)
show_fields-text [] before = refl
show_fields-text (field ∷ fields) before =
    ap (show_fields fields) (show_where-text field.0 field.1 before) ∙ show_fields-text fields (send_where field.0 field.1 before)

-- ---- objects

-- the tokens of these members, with the closing bracket
abbrev members_after : Members → Sent → Sent
members_after members before = (before.0, before.1 ++ members_tokens (members_outline members))

regroup : (before : List Token) (name : Token) (value rest : List Token) → ((before ++ name ∷ []) ++ value) ++ rest ≡ before ++ name ∷ (value ++ rest)
regroup before name value rest = simp append_assoc

-- one field, before the others
send_where-object : (name : List ℕ) (value : Option Data) (fields : List Field) (before : Sent) → is_below name (keys fields) ≡ true
    → ((b : Sent) → with_token end_object (send_fields fields b) ≡ members_after (with_fields fields no_members) b)
    → with_token end_object (send_fields fields (send_where name value before)) ≡ members_after (with_fields fields (put_where name value no_members)) before
send_where-object name None fields before below others = others before
send_where-object name (Some value) fields before below others =
    others _
    ∙ ap (λ tokens. (before.0, tokens)) (regroup before.1 (key name) (json_tokens (outline value)) (members_tokens (members_outline (with_fields fields no_members))))
    ∙ ap (λ members. members_after members before) (sym (with_fields-above name value no_members fields below))

send_fields-object : (fields : List Field) (before : Sent) → rise (keys fields) ≡ true
    → with_token end_object (send_fields fields before) ≡ members_after (with_fields fields no_members) before
send_fields-object [] before rising = refl
send_fields-object (field ∷ fields) before rising =
    let parts = and_parts (is_below field.0 (keys fields)) (rise (keys fields)) rising in
    send_where-object field.0 field.1 fields before parts.0 (λ b. send_fields-object fields b parts.1)

-- fields whose keys rise, between brackets, are the object
sent-object : (fields : List Field) (before : Sent) → rise (keys fields) ≡ true
    → with_token end_object (send_fields fields (with_token begin_object before)) ≡ with_value (object_of fields) before
sent-object fields before rising =
    send_fields-object fields (with_token begin_object before) rising
    ∙ ap (λ tokens. (before.0, tokens)) (append_assoc before.1 (begin_object ∷ []) (members_tokens (members_outline (with_fields fields no_members))))

-- so what has shown them has written the object
pub object-written : (fields : List Field) (before after : Sent) → rise (keys fields) ≡ true → in_text after ≡ show_fields fields (in_text (with_token begin_object before))
    → with_token end_object after ≡ with_value (object_of fields) before
object-written fields before after rising shown =
    let same : in_text after ≡ in_text (send_fields fields (with_token begin_object before)) = shown ∙ show_fields-text fields (with_token begin_object before) in
    let sent : after ≡ send_fields fields (with_token begin_object before) = cc in
    ap (with_token end_object) sent ∙ sent-object fields before rising

-- and behind its key the field of an object inside
pub inner-written : (name : List ℕ) (fields : List Field) (before after : Sent) → rise (keys fields) ≡ true
    → in_text after ≡ show_fields fields (in_text (with_token begin_object (with_token (key name) before)))
    → in_text (with_token end_object after) ≡ show_where name (inner fields) (in_text before)
unfolding show_where
inner-written name fields before after rising shown = ap in_text (object-written fields (with_token (key name) before) after rising shown)

-- ---- pairs of texts

greater_back : (a b : List ℕ) → slice_cmp nat_cmp a b ≡ Less → slice_cmp nat_cmp b a ≡ Greater
greater_back a b less = nat_list_cmp_total.antisymm b a ∙ ap ordering_reverse less

with_pairs-above : (first : List ℕ) (held : Data) (rest : Members) (pairs : List (List ℕ × List ℕ)) → AllByRecursion (λ q. slice_cmp nat_cmp first q.0 ≡ Less) pairs
    → with_pairs pairs (member first held rest) ≡ member first held (with_pairs pairs rest)
with_pairs-above first held rest [] below = refl
with_pairs-above first held rest (pair ∷ pairs) below =
    ap (with_pairs pairs) (put-above pair.0 (string pair.1) first held rest (greater_back first pair.0 below.0)) ∙ with_pairs-above first held (put pair.0 (string pair.1) rest) pairs below.1

send_pairs-object : (pairs : List (List ℕ × List ℕ)) (before : Sent) → AreRising pairs
    → with_token end_object (send_pairs pairs before) ≡ members_after (with_pairs pairs no_members) before
send_pairs-object [] before rising = refl
send_pairs-object (pair ∷ pairs) before rising =
    send_pairs-object pairs _ rising.1
    ∙ ap (λ tokens. (before.0, tokens)) (regroup before.1 (key pair.0) (json_tokens (outline (string pair.1))) (members_tokens (members_outline (with_pairs pairs no_members))))
    ∙ ap (λ members. members_after members before) (sym (with_pairs-above pair.0 (string pair.1) no_members pairs rising.0))

-- rising pairs, between brackets, are their object
pub pairs-written : (pairs : List (List ℕ × List ℕ)) (before : Sent) → AreRising pairs
    → with_token end_object (send_pairs pairs (with_token begin_object before)) ≡ with_value (object (with_pairs pairs no_members)) before
pairs-written pairs before rising =
    send_pairs-object pairs (with_token begin_object before) rising
    ∙ ap (λ tokens. (before.0, tokens)) (append_assoc before.1 (begin_object ∷ []) (members_tokens (members_outline (with_pairs pairs no_members))))

-- ---- lists

send_values-array : (values : List Data) (before : Sent) → with_token end_array (send_values values before) ≡ (before.0, before.1 ++ items_tokens (items_outline (items_of values)))
send_values-array [] before = refl
send_values-array (value ∷ values) before =
    send_values-array values (with_value value before)
    ∙ ap (λ tokens. (before.0, tokens)) (append_assoc before.1 (json_tokens (outline value)) (items_tokens (items_outline (items_of values))))

-- values, between brackets, are their array
pub array-written : (values : List Data) (before : Sent) → with_token end_array (send_values values (with_token begin_array before)) ≡ with_value (array (items_of values)) before
array-written values before =
    send_values-array values (with_token begin_array before)
    ∙ ap (λ tokens. (before.0, tokens)) (append_assoc before.1 (begin_array ∷ []) (items_tokens (items_outline (items_of values))))

-- and behind its key the field of a list that is not empty
pub list-written : {A : Type 0} (name : List ℕ) (shown : A → Data) (items : List A) (before after : Sent) → (length items == 0) ≡ false
    → after ≡ with_token end_array (send_values (map shown items) (with_token begin_array (with_token (key name) before)))
    → in_text after ≡ show_where name (array_if (map shown items)) (in_text before)
unfolding show_where
list-written name shown [] before after some is = cc
list-written name shown (item ∷ items) before after some is = ap in_text (is ∙ array-written (map shown (item ∷ items)) (with_token (key name) before))

-- ---- texts

-- what a writer leaves once it has written one value
pub text-written : (value : Data) (before text : List ℕ) (after : Sent) → after ≡ with_value value (before, []) → text ≡ after.0 ++ print after.1 → text ≡ before ++ compact_text value
text-written value before text after is left = left ∙ ap (λ s. s.0 ++ print s.1) is ∙ ap (λ s. before ++ s) (print-outline value)
