-- A head that is written line by line is the text of its parts.
use Rattle.std.proofs.Common.{◌≡◌, ◌∙◌, ℕ, Bool, true, false, List, [], ◌∷◌, ◌++◌, Option, Some, None, if◌then◌else◌, refl, sym, ap, append_assoc, append-nil}
use Rattle.std.proofs.lemmas.List.{flat_map_more}
use Rattle.gcs_http_out.specs.declared.head.Ending.{Ending}
use Rattle.gcs_http_out.specs.Head.{status_line, field_line, field_lines, length_line, ending_line, line_end, head_text}
use Rattle.gcs_reply.specs.declared.form.Form.{Form}
use Rattle.gcs_reply.specs.Replies.{Line, field_where, head_and_body, with_lines, standing, line_text, lines_behind}

-- one field more
line-behind : (name : List ℕ) (value : Option (List ℕ)) (text : List ℕ) (fields : List (List ℕ × List ℕ))
    → (text ++ field_lines fields) ++ line_text name value ≡ text ++ field_lines (fields ++ field_where name value)
line-behind name None text fields = append-nil _ ∙ ap (λ (fs : List (List ℕ × List ℕ)). text ++ field_lines fs) (sym (append-nil fields))
line-behind name (Some value) text fields = flat_map_more field_line text fields (name, value)

-- all of them
lines-from : (lines : List Line) (text : List ℕ) (fields : List (List ℕ × List ℕ)) → lines_behind lines (text ++ field_lines fields) ≡ text ++ field_lines (with_lines lines fields)
lines-from [] text fields = refl
lines-from (line ∷ lines) text fields =
    ap (lines_behind lines) (line-behind line.0 line.1 text fields) ∙ lines-from lines text (fields ++ field_where line.0 line.1)

regroup : (before status fields length ending end : List ℕ) → ((before ++ status) ++ fields) ++ (length ++ (ending ++ end)) ≡ before ++ ((((status ++ fields) ++ length) ++ ending) ++ end)
regroup before status fields length ending end = simp append_assoc

-- a status line, the lines of the fields that stand, and the end
pub head-written : (status : ℕ) (lines : List Line) (size : Option ℕ) (ending : Ending) (before : List ℕ)
    → lines_behind lines (before ++ status_line status) ++ (length_line size ++ (ending_line ending ++ line_end)) ≡ before ++ head_text status (standing lines) size ending
unfolding head_text
head-written status lines size ending before =
    let start : List ℕ = before ++ status_line status in
    let fields : lines_behind lines start ≡ start ++ field_lines (standing lines) = ap (lines_behind lines) (sym (append-nil start)) ∙ lines-from lines start [] in
    ap (λ (text : List ℕ). text ++ (length_line size ++ (ending_line ending ++ line_end))) fields
    ∙ regroup before (status_line status) (field_lines (standing lines)) (length_line size) (ending_line ending) line_end

-- an empty body stays empty where the head alone is asked for
no-body : (b : Bool) (body : List ℕ) → body ≡ [] → (if b then [] else body) ≡ []
no-body true body none = refl
no-body false body none = none

-- the same, where no body follows
pub alone-written : (form : Form) (status : ℕ) (lines : List Line)
    → lines_behind lines ([] ++ status_line status) ++ (length_line (Some 0) ++ (ending_line form.ending ++ line_end)) ≡ head_and_body form status (standing lines) []
alone-written form status lines =
    let head : List ℕ = head_text status (standing lines) (Some 0) form.ending in
    head-written status lines (Some 0) form.ending [] ∙ sym (append-nil head) ∙ ap (λ (body : List ℕ). head ++ body) (sym (no-body form.head_only [] refl))
