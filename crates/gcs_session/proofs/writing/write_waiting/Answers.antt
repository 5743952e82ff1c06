use Rattle.std.proofs.Common.{◌≡◌, ◌∙◌, ◌++◌, ◌<◌, ℕ, List, Result, Ok, Err, length, take, drop, ap, sym, subst, append_assoc, append-nil, length-append, arith}
use Rattle.std.specs.Result.{IsErr}
use Rattle.std.proofs.lemmas.List.{take-append-drop}
use Rattle.std.proofs.lemmas.Bool.{false≢true}
use Rattle.gcs_session.specs.Session.{waiting_in, IsSession}
use Rattle.gcs_session.specs.Writing.{IsWritten}
use Rattle.gcs_session.proofs.Tellings.{gains-trans}
use Rattle.gcs_session.proofs.writing.write_waiting.Goals as goal

-- after a part of what waits, its rest waits
written-on : (whole w waiting part rest : List ℕ) (n : ℕ) → whole ≡ w ++ waiting → part ≡ take n waiting → rest ≡ drop n waiting → whole ≡ (w ++ part) ++ rest
written-on whole w waiting part rest n e p r =
    e ∙ ap (λ (l : List ℕ). w ++ l) (sym (take-append-drop n waiting) ∙ ap (λ (l : List ℕ). l ++ drop n waiting) (sym p) ∙ ap (λ (l : List ℕ). part ++ l) (sym r))
    ∙ sym (append_assoc w part rest)

-- a proper prefix of a part is one of the whole
written-short : (whole w waiting part front more rest : List ℕ) (n : ℕ) → whole ≡ w ++ waiting → part ≡ take n waiting → rest ≡ drop n waiting → part ≡ front ++ more
    → whole ≡ (w ++ front) ++ (more ++ rest)
written-short whole w waiting part front more rest n e p r f =
    written-on whole w waiting part rest n e p r ∙ append_assoc w part rest ∙ ap (λ (l : List ℕ). w ++ (l ++ rest)) f
    ∙ ap (λ (l : List ℕ). w ++ l) (append_assoc front more rest) ∙ sym (append_assoc w front (more ++ rest))

-- at a fault a proper prefix was written
written-err : {A E : Type 0} (whole w : List ℕ) (r : Result A E) → IsErr r → (more : List ℕ) → whole ≡ w ++ more → 0 < length more → IsWritten whole w r
written-err whole w (Ok a) bad more e some = absurd (false≢true bad)
written-err whole w (Err x) bad more e some = (more, e, some)

pub waiting-preserved : goal.waiting-preserved
waiting-preserved g c =
    let i = c.waiting.invariant in
    let d = c.drain-count.ensures in
    let n : ℕ = c.drain-count.result in
    let waiting : List ℕ = waiting_in c.waiting.session in
    let rest : List ℕ = waiting_in c.drain-count.new.self in
    let told = c.in_ok-write_all.ensures.written in
    record {
      block = omega (arith, i.block, c.drain-count.auto.into);
      lies = d.lies;
      limits = d.limits ∙ i.limits;
      closed = d.closed ∙ i.closed;
      session = λ bytes messages text drained x.
          let y = i.session bytes messages text drained x in
          (y.0 ++ take n waiting, d.session bytes messages text y.0 y.1);
      written = (
        i.written.0 ++ told.0,
        gains-trans _ _ _ i.written.0 told.0 i.written.1 told.1,
        written-on (waiting_in c.args.session.now) i.written.0 waiting told.0 rest n i.written.2 (told.2 ∙ d.bytes) d.rest,
      );
      faults = omega (arith, i.faults, c.write_all.ensures.cause.later);
    }

pub returns-in_err-write_all-clause-written : goal.returns-in_err-write_all-clause-written
returns-in_err-write_all-clause-written g c =
    let i = c.waiting.invariant in
    let d = c.drain-count.ensures in
    let n : ℕ = c.drain-count.result in
    let whole : List ℕ = waiting_in c.args.session.now in
    let waiting : List ℕ = waiting_in c.waiting.session in
    let rest : List ℕ = waiting_in c.drain-count.new.self in
    let told = c.in_err-write_all.ensures.written in
    let more : List ℕ = told.2.0 in
    let some : 0 < length (more ++ rest) = omega (arith, told.2.2, length-append more rest) in (
      i.written.0 ++ told.0,
      gains-trans _ _ _ i.written.0 told.0 i.written.1 told.1,
      written-err whole (i.written.0 ++ told.0) c.from_residual.result c.from_residual.ensures.0 (more ++ rest)
          (written-short whole i.written.0 waiting _ told.0 more rest n i.written.2 d.bytes d.rest told.2.1) some,
    )

pub returns-clause-drained : goal.returns-clause-drained
returns-clause-drained g c =
    let i = c.waiting.invariant in
    record {
      limits = i.limits;
      closed = i.closed;
      session = λ bytes messages text drained x.
          let y = i.session bytes messages text drained x in
          subst (λ (l : List ℕ). IsSession c.waiting.session bytes messages text l)
          (sym (y.1.0.waits ∙ ap (λ (l : List ℕ). y.0 ++ l) (c.waits.ensures.none c.waiting-test.false) ∙ append-nil y.0)) y.1;
    }
