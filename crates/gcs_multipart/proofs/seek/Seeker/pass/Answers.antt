use Rattle.std.proofs.Common.{ℕ, ◌+◌, ◌-◌, ◌<◌, ◌++◌, List, length, take, get_or, subst, sym, ap, ◌∙◌, append_assoc, arith}
use Rattle.std.proofs.lemmas.List.{get_or_read}
use Rattle.gcs_multipart.proofs.Feeding.{one_more, run_at, run_within, take_run}
use Rattle.gcs_multipart.proofs.Passing.{Saw, saw_more, saw_return, saw_run}
use Rattle.gcs_multipart.proofs.seek.Seeker.pass.Goals as goal

pub loop-at-preserved-then-byte-index : goal.loop-at-preserved-then-byte-index
loop-at-preserved-then-byte-index c =
    let i = c.loop-at.invariant in
    let s = c.loop-at.self in
    let piece = c.args.piece.now in
    let at = c.loop-at.at in
    let lt = c.loop-at-test.true in
    let room : s.held < length s.text.items - 1 = omega (arith, s.text.ok.0, c.len-whole.ensures, c.if-self-whole.true, ap (λ t. length t.items) i.text) in
    let it = get_or_read s.text.items _ _ (omega (arith, room)) c.index.ensures 0 in
    record {
      within = omega (arith, lt);
      held = omega (arith, i.held);
      text = i.text;
      given = i.given;
      seen = λ b text content is.
          subst (λ (t : List ℕ). Saw s.text.items (s.held + 1) b t) (one_more text piece at lt)
          (saw_more s.text.items b (text ++ take at piece) s.held (get_or piece at 0) room (c.if-byte-index.true ∙ it) (i.seen b text content is));
    }

pub loop-at-preserved-then-byte-eq-CR : goal.loop-at-preserved-then-byte-eq-CR
loop-at-preserved-then-byte-eq-CR c =
    let i = c.loop-at.invariant in
    let s = c.loop-at.self in
    let piece = c.args.piece.now in
    let at = c.loop-at.at in
    let lt = c.loop-at-test.true in
    let room : s.held < length s.text.items - 1 = omega (arith, s.text.ok.0, c.len-whole.ensures, c.if-self-whole.true, ap (λ t. length t.items) i.text) in
    let it = get_or_read s.text.items _ _ (omega (arith, room)) c.index.ensures 0 in
    record {
      within = omega (arith, lt);
      held = omega arith;
      text = i.text;
      given = i.given;
      seen = λ b text content is.
          subst (λ (t : List ℕ). Saw s.text.items 1 b t) (one_more text piece at lt)
          (saw_return s.text.items b (text ++ take at piece) s.held (get_or piece at 0) room (λ e. c.if-byte-index.false (e ∙ sym it)) c.if-byte-eq-CR.true (i.seen b text content is));
    }

pub loop-at-preserved : goal.loop-at-preserved
loop-at-preserved c =
    let i = c.loop-at.invariant in
    let s = c.loop-at.self in
    let piece = c.args.piece.now in
    let at = c.loop-at.at in
    let lt = c.loop-at-test.true in
    let room : s.held < length s.text.items - 1 = omega (arith, s.text.ok.0, c.len-whole.ensures, c.if-self-whole.true, ap (λ t. length t.items) i.text) in
    let it = get_or_read s.text.items _ _ (omega (arith, room)) c.index.ensures 0 in
    let m = c.plain_bytes-at.result in
    let fits = c.plain_bytes-at.ensures.within in
    record {
      within = run_within piece at m lt fits;
      held = omega arith;
      text = i.text;
      given = i.given;
      seen = λ b text content is.
          subst (λ (t : List ℕ). Saw s.text.items 0 b t)
          (ap (λ (t : List ℕ). t ++ run_at piece at m) (one_more text piece at lt) ∙ append_assoc text (take (at + 1) piece) (run_at piece at m)
          ∙ ap (λ (t : List ℕ). text ++ t) (sym (take_run piece at m lt fits)))
          (saw_run s.text.items b (text ++ take at piece) (run_at piece at m) s.held (get_or piece at 0) room (λ e. c.if-byte-index.false (e ∙ sym it)) c.if-byte-eq-CR.false c.plain_bytes-at.ensures.plain
          (i.seen b text content is));
    }
