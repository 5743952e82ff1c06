use Rattle.std.proofs.Common.{◌-◌, Some, ◌≡◌, ℕ, ◌+◌, ◌≤◌, ◌++◌, List, take, get_or, inl, inr, subst, sym, arith}
use Rattle.std.specs.Prelude.{slice_range}
use Rattle.gcs_multipart.specs.declared.parts.Step.{Step}
use Rattle.gcs_multipart.specs.declared.parts.Step.TheVariants as step
use Rattle.gcs_multipart.specs.Grammar.{Part}
use Rattle.gcs_multipart.specs.Stands.{HoldsFew, Pushed, StandsIn}
use Rattle.gcs_multipart.proofs.Feeding.{IsTold, bad_told, one_more, run_within, given_told, passed_told}
use Rattle.gcs_multipart.proofs.parts.Parts.feed.Goals as goal

-- content has come: the byte was a CR that is held, or content
pub returns-in-Given-clause-told : goal.returns-in-Given-clause-told
returns-in-Given-clause-told c = λ b bytes parts current is h.
    let piece = c.args.piece.now in
    let at = c.loop-at.at in
    let p = c.push-step.new.self in
    let new = c.pass.new.self in
    let m = c.pass.result in
    let lt = c.loop-at-test.true in
    let passed = c.pass.ensures in
    let x = get_or piece at 0 in
    let front = bytes ++ take (at + 1) piece in
    let brought : Pushed p b c.push-step.result x front parts current =
    subst (λ (t : List ℕ). Pushed p b c.push-step.result x t parts current) (one_more bytes piece at lt)
    (c.push-step.ensures.brought b (bytes ++ take at piece) parts current is (c.loop-at.invariant.stands b bytes parts current is h)) in
    let few : p.seeker.held ≤ 1 = elim c.in-Given.is [
      | inl e ↦ subst (λ (s : Step). HoldsFew p s) e c.push-step.ensures.few
      | inr e ↦ subst (λ (s : Step). HoldsFew p s) e c.push-step.ensures.few
    ] in
    let told : IsTold p new b bytes piece at m parts current = elim c.in-Given.is [
      | inl e ↦ given_told p new b bytes piece at m parts current lt passed.within passed.held passed.given (passed.seen b)
          (subst (λ (s : Step). Pushed p b s x front parts current) e brought)
      | inr e ↦ passed_told p new b bytes piece at m parts current lt passed.within passed.held passed.given (passed.seen b)
          (subst (λ (s : Step). Pushed p b s x front parts current) e brought)
    ] in
    let P = λ (held : ℕ). (it : Part) × (current ≡ Some it) × StandsIn new p.head p.state b (bytes ++ take (at + 1 + m) piece) parts
    (Some record { head = it.head; content = it.content ++ (take new.given new.text.items ++ slice_range piece (at + 1 - 1) (at + 1 + m - held)) }) in (
      omega arith,
      run_within piece at m lt passed.within,
      omega (arith, few, passed.held, c.held.ensures),
      omega arith,
      subst P (sym c.held.ensures) told,
    )

pub returns-in-Last-clause-told : goal.returns-in-Last-clause-told
returns-in-Last-clause-told c = λ b bytes parts current is h.
    let piece = c.args.piece.now in
    let at = c.loop-at.at in
    let p = c.push-step.new.self in
    let n = c.in-Last.ensures.brought b (bytes ++ take at piece) parts current is (c.loop-at.invariant.stands b bytes parts current is h) in
    (omega arith, omega (arith, c.loop-at-test.true), subst (λ (t : List ℕ). Pushed p b step.Last 0 t parts current) (one_more bytes piece at c.loop-at-test.true) n)

pub returns-in-Bad-clause-told : goal.returns-in-Bad-clause-told
returns-in-Bad-clause-told c = λ b bytes parts current is h.
    let piece = c.args.piece.now in
    let at = c.loop-at.at in
    let p = c.push-step.new.self in
    let n = c.in-Bad.ensures.brought b (bytes ++ take at piece) parts current is (c.loop-at.invariant.stands b bytes parts current is h) in
    let front = subst (λ (t : List ℕ). Pushed p b step.Bad 0 t parts current) (one_more bytes piece at c.loop-at-test.true) n in
    (omega (arith, c.loop-at-test.true), omega arith, (front.0, bad_told b bytes piece (at + 1) parts current front.1))

pub returns-in-Given-clause-within : goal.returns-in-Given-clause-within
returns-in-Given-clause-within c =
    let piece = c.args.piece.now in
    let p = c.push-step.new.self in
    let few : p.seeker.held ≤ 1 = elim c.in-Given.is [
      | inl e ↦ subst (λ (s : Step). HoldsFew p s) e c.push-step.ensures.few
      | inr e ↦ subst (λ (s : Step). HoldsFew p s) e c.push-step.ensures.few
    ] in (
      omega arith,
      run_within piece c.loop-at.at c.pass.result c.loop-at-test.true c.pass.ensures.within,
      omega (arith, few, c.pass.ensures.held, c.held.ensures),
      omega arith,
    )
