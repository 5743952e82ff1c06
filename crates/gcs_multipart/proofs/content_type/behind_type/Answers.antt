use Rattle.std.proofs.Common.{◌≡◌, ◌∙◌, ℕ, ◌-◌, Bool, true, false, List, length, take, drop, codes, Some, None, ap, sym, arith, length-drop}
use Rattle.std.specs.Prelude.{if◌then◌else◌}
use Rattle.std.proofs.lemmas.List.{take_all}
use Rattle.std.specs.Str.{str_eq_ignore_ascii_case}
use Rattle.gcs_multipart.specs.ContentType.{behind_type}
use Rattle.gcs_multipart.proofs.content_type.behind_type.Goals as goal

-- behind the second type, where the first one isn't there
second : (text : List ℕ) → str_eq_ignore_ascii_case (take 17 text) (codes "multipart/related") ≡ false → str_eq_ignore_ascii_case (take 15 text) (codes "multipart/mixed") ≡ true → behind_type text ≡ Some (drop 15 text)
unfolding behind_type
second text p q =
    ap (λ (t : Bool). if t then Some (drop 17 text) else (if str_eq_ignore_ascii_case (take 15 text) (codes "multipart/mixed") then Some (drop 15 text) else None)) p
    ∙ ap (λ (t : Bool). if t then Some (drop 15 text) else None) q

pub returns-then-begins_with-2 : goal.returns-then-begins_with-2
returns-then-begins_with-2 c =
    let text = c.args.text.now in
    ap Some (take_all (length text - 15) (drop 15 text) (omega (arith, length-drop 15 text)))
    ∙ sym (second text (sym c.if-begins_with.ensures.value) (sym c.if-begins_with-2.ensures.value))
