use Rattle.std.proofs.Common.{◌≡◌, ◌≢◌, ℕ, ◌+◌, ◌-◌, ◌<◌, ◌++◌, List, [], ◌∷◌, Vec, Global, Some, length, get_or, set, vec_len, inl, inr, subst, refl, sym, ap, ◌∙◌, ◌==◌, arith}
use Rattle.std.specs.Prelude.{if◌then◌else◌}
use Rattle.std.proofs.lemmas.List.{get_or_read, length-append}
use Rattle.std.proofs.Math.Seq.{get_or-append_seam}
use Rattle.gcs_multipart.specs.declared.mark.Mark.TheVariants.{Next as AtNext, Last as AtLast}
use Rattle.gcs_multipart.specs.declared.mark.Sought.{Sought}
use Rattle.gcs_multipart.specs.declared.mark.Sought.TheVariants.{Given, Passed}
use Rattle.gcs_multipart.specs.declared.seek.Seeker.{Seeker}
use Rattle.gcs_multipart.specs.Delimiter.{needle}
use Rattle.gcs_multipart.specs.Seek.{restart, step, Sees, Seeks, NextOf, Next}
use Rattle.gcs_multipart.proofs.Seeking.{sees_again, sees_more, sees_mark, found, parts_within, parts_behind, parts_return, parts_dash, is_dash}
use Rattle.gcs_multipart.proofs.seek.Seeker.push.Goals as goal
use Rattle.gcs_multipart.proofs.seek.Seeker.push.Goals.{then-byte-eq-CR-via-then-byte-eq-CR, then-byte-eq-CR-via-else-byte-eq-CR+then-byte-eq-DASH}

-- the buffer has one byte more than the needle
size : (r : Seeker) (b text content : List ℕ) → Seeks r b text content → vec_len r.text ≡ length (needle b) + 1
size r b text content s = omega (arith, r.text.ok.0, ap length s.whole, length-append (needle b) (s.spare ∷ []))

-- and that is the spare one
spare_is : (r : Seeker) (b text content : List ℕ) (n x : ℕ) (s : Seeks r b text content) → n ≡ length (needle b) → x ≡ get_or r.text.items n x → x ≡ s.spare
spare_is r b text content n x s full e =
    e ∙ ap (λ t. get_or t n x) s.whole ∙ ap (λ k. get_or (needle b ++ s.spare ∷ []) k x) full ∙ get_or-append_seam (needle b) s.spare [] x

again : (r new : Seeker) (result : Sought) (b text content : List ℕ) (byte : ℕ) (s : Seeks r b text content) → step b s.stop byte ≡ Some (restart b byte)
    → new.text ≡ r.text → new.given ≡ r.held → new.held ≡ (if byte == 13 then 1 else 0) → result ≡ (if byte == 13 then Given else Passed) → Next new b result byte text content
again r new result b text content byte s parts et eg eh er =
    subst (λ (x : Sought). NextOf new.text.items new.held new.given b x byte text content) (sym er)
    (subst (λ (x : ℕ). NextOf new.text.items x new.given b (if byte == 13 then Given else Passed) byte text content) (sym eh)
    (subst (λ (x : ℕ). NextOf new.text.items (if byte == 13 then 1 else 0) x b (if byte == 13 then Given else Passed) byte text content) (sym eg)
    (subst (λ (x : Vec ℕ Global). NextOf x.items (if byte == 13 then 1 else 0) r.held b (if byte == 13 then Given else Passed) byte text content) (sym et)
    (sees_again r.text.items b text content r.held byte s parts (byte == 13) refl))))

pub returns-then-byte-index-clause-next : goal.returns-then-byte-index-clause-next
returns-then-byte-index-clause-next c = λ b text content is s.
    let r = c.args.self.now in
    let n = size r b text content s in
    sees_more r.text.items b text content r.held c.args.byte s (omega (arith, n, c.len-last.ensures, c.if-self-last.true))
    (c.if-byte-index.true ∙ get_or_read r.text.items _ _ (omega (arith, r.text.ok.0, c.len-last.ensures, c.if-self-last.true)) c.index.ensures 0)

pub returns-then-self-last-clause-next : goal.returns-then-self-last-clause-next
returns-then-self-last-clause-next c = λ b text content is s.
    let r = c.args.self.now in
    let n = size r b text content s in
    let it = get_or_read r.text.items _ _ (omega (arith, r.text.ok.0, c.len-last.ensures, c.if-self-last.true)) c.index.ensures 0 in
    let apart : c.args.byte ≢ get_or r.text.items r.held 0 = λ e. c.if-byte-index.false (e ∙ sym it) in
    again r c.restart.new.self c.restart.result b text content c.args.byte s (parts_within r.text.items b text content r.held c.args.byte s (omega (arith, n, c.len-last.ensures, c.if-self-last.true)) apart)
    c.restart.ensures.text c.restart.ensures.given c.restart.ensures.held c.restart.ensures.result

pub returns-then-byte-eq-CR-clause-next : goal.returns-then-byte-eq-CR-clause-next
returns-then-byte-eq-CR-clause-next c = λ b text content is s.
    let r = c.args.self.now in
    let n = size r b text content s in
    let full : r.held ≡ length (needle b) = omega (arith, n, c.len-last.ensures, c.if-self-last-2.true) in
    let at : r.held ≡ c.len-last.result - 1 = omega (arith, c.if-self-last-2.true) in
    let P : ℕ → Type 0 = λ k. Sees (set r.text.items k c.args.byte) (r.held + 1) b (text ++ c.args.byte ∷ []) content in
    subst P at (sees_mark r.text.items b text content r.held c.args.byte s full
    (elim c.then-byte-eq-CR.branch [ then-byte-eq-CR-via-then-byte-eq-CR w ↦ inl w.if-byte-eq-CR.true | then-byte-eq-CR-via-else-byte-eq-CR+then-byte-eq-DASH w ↦ inr w.if-byte-eq-DASH.true ]))

pub returns-then-self-last-2-clause-next : goal.returns-then-self-last-2-clause-next
returns-then-self-last-2-clause-next c = λ b text content is s.
    let r = c.args.self.now in
    let n = size r b text content s in
    let e = c.restart-then-self-last-2.ensures in
    again r c.restart-then-self-last-2.new.self c.restart-then-self-last-2.result b text content c.args.byte s
    (parts_behind r.text.items b text content r.held c.args.byte s (omega (arith, n, c.len-last.ensures, c.if-self-last-2.true)) c.if-byte-eq-CR.false c.if-byte-eq-DASH.false)
    e.text e.given e.held e.result

pub returns-then-byte-eq-LF-clause-next : goal.returns-then-byte-eq-LF-clause-next
returns-then-byte-eq-LF-clause-next c = λ b text content is s.
    let r = c.args.self.now in
    let n = size r b text content s in
    let spare = spare_is r b text content (c.len-last.result - 1) c.index-2.result.now s (omega (arith, n, c.len-last.ensures)) c.index-2.ensures in
    let same : s.spare ∷ c.args.byte ∷ [] ≡ 13 ∷ 10 ∷ [] = ap (λ x. x ∷ c.args.byte ∷ []) (sym spare ∙ c.if-index-eq-CR.true) ∙ ap (λ x. 13 ∷ x ∷ []) c.if-byte-eq-LF.true in
    found r.text.items b text content r.held c.args.byte AtNext s is (omega (arith, n, c.len-last.ensures, c.if-self-last.false, c.if-self-last-2.false)) same

pub returns-then-index-eq-CR-clause-next : goal.returns-then-index-eq-CR-clause-next
returns-then-index-eq-CR-clause-next c = λ b text content is s.
    let r = c.args.self.now in
    let n = size r b text content s in
    let e = c.restart-then-index-eq-CR.ensures in
    let spare = spare_is r b text content (c.len-last.result - 1) c.index-2.result.now s (omega (arith, n, c.len-last.ensures)) c.index-2.ensures in
    again r c.restart-then-index-eq-CR.new.self c.restart-then-index-eq-CR.result b text content c.args.byte s
    (parts_return r.text.items b text content r.held c.args.byte s (omega (arith, n, c.len-last.ensures, c.if-self-last.false, c.if-self-last-2.false)) (sym spare ∙ c.if-index-eq-CR.true) c.if-byte-eq-LF.false)
    e.text e.given e.held e.result

pub returns-then-byte-eq-DASH-2-clause-next : goal.returns-then-byte-eq-DASH-2-clause-next
returns-then-byte-eq-DASH-2-clause-next c = λ b text content is s.
    let r = c.args.self.now in
    let n = size r b text content s in
    let spare = spare_is r b text content (c.len-last.result - 1) c.index-2.result.now s (omega (arith, n, c.len-last.ensures)) c.index-2.ensures in
    let over : length (needle b) < r.held = omega (arith, n, c.len-last.ensures, c.if-self-last.false, c.if-self-last-2.false) in
    let dash = is_dash r.text.items b text content r.held s over (λ e. c.if-index-eq-CR.false (spare ∙ e)) in
    let same : s.spare ∷ c.args.byte ∷ [] ≡ 45 ∷ 45 ∷ [] = ap (λ x. x ∷ c.args.byte ∷ []) dash ∙ ap (λ x. 45 ∷ x ∷ []) c.if-byte-eq-DASH-2.true in
    found r.text.items b text content r.held c.args.byte AtLast s is over same

pub returns-clause-next : goal.returns-clause-next
returns-clause-next c = λ b text content is s.
    let r = c.args.self.now in
    let n = size r b text content s in
    let e = c.restart-2.ensures in
    let spare = spare_is r b text content (c.len-last.result - 1) c.index-2.result.now s (omega (arith, n, c.len-last.ensures)) c.index-2.ensures in
    let over : length (needle b) < r.held = omega (arith, n, c.len-last.ensures, c.if-self-last.false, c.if-self-last-2.false) in
    let parts = parts_dash r.text.items b text content r.held c.args.byte s over (λ i. c.if-index-eq-CR.false (spare ∙ i)) c.if-byte-eq-DASH-2.false in
    again r c.restart-2.new.self c.restart-2.result b text content c.args.byte s parts.1 e.text e.given e.held e.result
