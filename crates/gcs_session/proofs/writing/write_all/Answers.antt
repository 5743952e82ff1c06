use Rattle.std.proofs.Common.{◌∙◌, ◌++◌, ℕ, List, ap, sym, take, drop, append_assoc, arith}
use Rattle.std.proofs.lemmas.List.{take-append-drop}
use Rattle.gcs_session.proofs.Tellings.{gains-trans}
use Rattle.gcs_session.proofs.Drops.{rest-whole}
use Rattle.gcs_session.proofs.writing.write_all.Goals as goal

pub loop-rest-preserved : goal.loop-rest-preserved
loop-rest-preserved g c =
    let x = c.loop-rest.invariant.written in
    let rest = c.loop-rest.rest.now in
    let n = c.in-Ok.count in
    record {
      written = (
        x.0 ++ take n rest,
        gains-trans _ _ _ x.0 (take n rest) x.1 c.in-Ok.ensures.written,
        x.2 ∙ ap (λ (l : List ℕ). x.0 ++ l) (sym (take-append-drop n rest)) ∙ sym (append_assoc x.0 (take n rest) (drop n rest)) ∙ ap (λ (l : List ℕ). (x.0 ++ take n rest) ++ l) (sym (rest-whole rest n)),
      );
      faults = omega (arith, c.loop-rest.invariant.faults, c.write.ensures.cause.later);
    }
