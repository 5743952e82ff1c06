use Rattle.std.proofs.Common.{◌≡◌, ◌∙◌, ◌<◌, ◌+◌, ◌⊎◌, inl, inr, ℕ, List, [], Some, None, length, take, refl, ap, sym, subst, arith}
use Rattle.std.proofs.lemmas.List.{length-take}
use Rattle.gcs_io.specs.Told.{Gains, Loses}
use Rattle.gcs_http_in.specs.declared.limits.Limits.{Limits}
use Rattle.gcs_http_in.specs.Usual.{IsAllowed}
use Rattle.gcs_http_in.proofs.Bounds.{bound_small, bytes_bounded}
use Rattle.gcs_session.specs.declared.ends.SessionEnd.{SessionEnd}
use Rattle.gcs_session.specs.declared.ends.SessionEnd.TheVariants.{Cut, Ended, NoMemory, ReadFault, WriteFault}
use Rattle.gcs_session.specs.declared.session.Session.{Session}
use Rattle.gcs_session.specs.Along.{AlongTo, IsAlong}
use Rattle.gcs_session.specs.Connection.{IsServed, Outside}
use Rattle.gcs_session.specs.Session.{limits_in, IsSession}
use Rattle.gcs_session.proofs.Alongs.{along-fault, along-read, along-read-by, kept-open}
use Rattle.gcs_session.proofs.Blocks.{read-ended, read-failed, read-some, refilled}
use Rattle.gcs_session.proofs.Closings.{along-over}
use Rattle.gcs_session.proofs.Steps.{grows_same}
use Rattle.gcs_session.proofs.Tellings.{gains-none, loses-none}
use Rattle.gcs_session.proofs.Standings.{same_caller, same_chunks}
use Rattle.gcs_session.proofs.connection.serve_connection.Goals as goal

pub returns-in-Err-read-clause-served : goal.returns-in-Err-read-clause-served
returns-in-Err-read-clause-served g c =
    let d = g.D.Desk in
    let i = c.pieces.invariant in
    let before : Outside = record { left = g.S.Source.rest c.args.source.now; taken = g.S.Source.taken c.args.source.now; written = g.K.Sink.written c.args.sink.now; given = g.C.Clock.given c.args.clock.now; saw = d.seen c.args.desk.now; own = d.mine c.args.desk.now } in
    let here : Outside = record { left = g.S.Source.rest c.pieces.source; taken = g.S.Source.taken c.pieces.source; written = g.K.Sink.written c.pieces.sink; given = g.C.Clock.given c.pieces.clock; saw = d.seen c.pieces.desk; own = d.mine c.pieces.desk } in
    let there : Outside = record { left = g.S.Source.rest c.read.new.self; taken = g.S.Source.taken c.read.new.self; written = g.K.Sink.written c.pieces.sink; given = g.C.Clock.given c.pieces.clock; saw = d.seen c.pieces.desk; own = d.mine c.pieces.desk } in
    let served = along-fault c.args.limits.now (d.stands c.args.desk.now).caller before here (g.S.Source.rest c.read.new.self) (g.S.Source.taken c.read.new.self) c.pieces.wire.session c.in-Err-read.ensures.rest c.in-Err-read.ensures.taken i.along.0 i.stays in
    subst (λ e. IsServed c.args.limits.now (d.stands c.args.desk.now).caller before there e ReadFault) (sym (c.read.ensures.ended ∙ read-failed c.read.result c.in-Err-read.field-0 c.read.new.into c.in-Err-read.is)) served

pub returns-then-count-eq0-clause-served : goal.returns-then-count-eq0-clause-served
returns-then-count-eq0-clause-served g c =
    let d = g.D.Desk in
    let i = c.pieces.invariant in
    let before : Outside = record { left = g.S.Source.rest c.args.source.now; taken = g.S.Source.taken c.args.source.now; written = g.K.Sink.written c.args.sink.now; given = g.C.Clock.given c.args.clock.now; saw = d.seen c.args.desk.now; own = d.mine c.args.desk.now } in
    let here : Outside = record { left = g.S.Source.rest c.pieces.source; taken = g.S.Source.taken c.pieces.source; written = g.K.Sink.written c.pieces.sink; given = g.C.Clock.given c.pieces.clock; saw = d.seen c.pieces.desk; own = d.mine c.pieces.desk } in
    let there : Outside = record { left = g.S.Source.rest c.read.new.self; taken = g.S.Source.taken c.read.new.self; written = g.K.Sink.written c.pieces.sink; given = g.C.Clock.given c.pieces.clock; saw = d.seen c.pieces.desk; own = d.mine c.pieces.desk } in
    let size : length c.read.new.into ≡ 65536 = c.read.auto.into ∙ ap length c.deref_mut.ensures.value ∙ i.reads in
    let nothing : Gains (g.S.Source.taken c.pieces.source) (g.S.Source.taken c.read.new.self) [] =
    subst (λ n. Gains (g.S.Source.taken c.pieces.source) (g.S.Source.taken c.read.new.self) (take n c.read.new.into)) c.if-count-eq0.true c.in-Ok-read.ensures.taken in
    let none : Loses (g.S.Source.rest c.pieces.source) (g.S.Source.rest c.read.new.self) [] =
    subst (λ n. Loses (g.S.Source.rest c.pieces.source) (g.S.Source.rest c.read.new.self) (take n c.read.new.into)) c.if-count-eq0.true c.in-Ok-read.ensures.rest in
    let along = along-read c.args.limits.now (d.stands c.args.desk.now).caller before here (g.S.Source.rest c.read.new.self) (g.S.Source.taken c.read.new.self) c.pieces.wire.session [] none nothing i.along.0 in
    let served = c.end_of.ensures.served c.args.limits.now (d.stands c.args.desk.now).caller before there along i.stays in
    subst (λ e. IsServed c.args.limits.now (d.stands c.args.desk.now).caller before there e c.end_of.result)
    (sym (c.read.ensures.ended ∙ read-ended c.read.result c.in-Ok-read.count c.read.new.into c.in-Ok-read.is c.if-count-eq0.true size)) served

pub returns-then-count-eq0-clause-memory : goal.returns-then-count-eq0-clause-memory
returns-then-count-eq0-clause-memory g c e = absurd (no-memory c.end_of.result c.end_of.ensures.ends e)
  where
    no-memory : (r : SessionEnd) → (r ≡ Ended) ⊎ (r ≡ Cut) → r ≡ NoMemory → ⊥
    no-memory r (inl is) e = let other : Ended ≡ NoMemory = sym is ∙ e in cc
    no-memory r (inr is) e = let other : Cut ≡ NoMemory = sym is ∙ e in cc

pub returns-then-count-eq0-clause-read_fault : goal.returns-then-count-eq0-clause-read_fault
returns-then-count-eq0-clause-read_fault g c e = absurd (no-fault c.end_of.result c.end_of.ensures.ends e)
  where
    no-fault : (r : SessionEnd) → (r ≡ Ended) ⊎ (r ≡ Cut) → r ≡ ReadFault → ⊥
    no-fault r (inl is) e = let other : Ended ≡ ReadFault = sym is ∙ e in cc
    no-fault r (inr is) e = let other : Cut ≡ ReadFault = sym is ∙ e in cc

pub returns-then-count-eq0-clause-write_fault : goal.returns-then-count-eq0-clause-write_fault
returns-then-count-eq0-clause-write_fault g c e = absurd (no-fault c.end_of.result c.end_of.ensures.ends e)
  where
    no-fault : (r : SessionEnd) → (r ≡ Ended) ⊎ (r ≡ Cut) → r ≡ WriteFault → ⊥
    no-fault r (inl is) e = let other : Ended ≡ WriteFault = sym is ∙ e in cc
    no-fault r (inr is) e = let other : Cut ≡ WriteFault = sym is ∙ e in cc

pub serve_piece-requires-clause-chunks : goal.serve_piece-requires-clause-chunks
serve_piece-requires-clause-chunks g c = same_chunks c.pieces.invariant.stands ∙ c.requires.chunks

pub serve_piece-requires-clause-along : goal.serve_piece-requires-clause-along
serve_piece-requires-clause-along g c =
    let d = g.D.Desk in
    let i = c.pieces.invariant in
    let k : ℕ = (d.stands c.args.desk.now).caller in
    let left = g.S.Source.rest c.read.new.self in
    let taken = g.S.Source.taken c.read.new.self in
    let before : Outside = record { left = g.S.Source.rest c.args.source.now; taken = g.S.Source.taken c.args.source.now; written = g.K.Sink.written c.args.sink.now; given = g.C.Clock.given c.args.clock.now; saw = d.seen c.args.desk.now; own = d.mine c.args.desk.now } in
    let here : Outside = record { left = g.S.Source.rest c.pieces.source; taken = g.S.Source.taken c.pieces.source; written = g.K.Sink.written c.pieces.sink; given = g.C.Clock.given c.pieces.clock; saw = d.seen c.pieces.desk; own = d.mine c.pieces.desk } in
    let same : c.deref.result.now ≡ c.read.new.into = c.deref.ensures.value
    ∙ refilled c.read.new.into c.pieces.wire.reads.items _ (sym (c.read.auto.into ∙ c.deref_mut.ensures.len)) (c.read.auto.into ∙ ap length c.deref_mut.ensures.value) in
    let read = along-read-by c.args.limits.now k (d.stands c.pieces.desk).caller before here left taken c.pieces.wire.session c.in-Ok-read.count c.read.new.into c.deref.result.now (same_caller i.stands) same c.in-Ok-read.ensures.rest c.in-Ok-read.ensures.taken i.along.0 in
    (c.args.limits.now, before, left, taken, read.0)

pub returns-in-Some-clause-served : goal.returns-in-Some-clause-served
returns-in-Some-clause-served g c =
    let d = g.D.Desk in
    let i = c.pieces.invariant in
    let k : ℕ = (d.stands c.args.desk.now).caller in
    let left = g.S.Source.rest c.read.new.self in
    let taken = g.S.Source.taken c.read.new.self in
    let before : Outside = record { left = g.S.Source.rest c.args.source.now; taken = g.S.Source.taken c.args.source.now; written = g.K.Sink.written c.args.sink.now; given = g.C.Clock.given c.args.clock.now; saw = d.seen c.args.desk.now; own = d.mine c.args.desk.now } in
    let here : Outside = record { left = g.S.Source.rest c.pieces.source; taken = g.S.Source.taken c.pieces.source; written = g.K.Sink.written c.pieces.sink; given = g.C.Clock.given c.pieces.clock; saw = d.seen c.pieces.desk; own = d.mine c.pieces.desk } in
    let same : c.deref.result.now ≡ c.read.new.into = c.deref.ensures.value
    ∙ refilled c.read.new.into c.pieces.wire.reads.items _ (sym (c.read.auto.into ∙ c.deref_mut.ensures.len)) (c.read.auto.into ∙ ap length c.deref_mut.ensures.value) in
    let read = along-read-by c.args.limits.now k (d.stands c.pieces.desk).caller before here left taken c.pieces.wire.session c.in-Ok-read.count c.read.new.into c.deref.result.now (same_caller i.stands) same c.in-Ok-read.ensures.rest c.in-Ok-read.ensures.taken i.along.0 in
    let there : Outside = record { left = left; taken = taken; written = g.K.Sink.written c.serve_piece.new.sink; given = g.C.Clock.given c.serve_piece.new.clock; saw = d.seen c.serve_piece.new.desk; own = d.mine c.serve_piece.new.desk } in
    let over : AlongTo (Some c.in-Some.end) (length read.0.fed + length (take c.in-Ok-read.count c.deref.result.now)) c.args.limits.now k before there c.serve_piece.new.session =
    subst (λ n. AlongTo (Some c.in-Some.end) (length read.0.fed + length (take c.in-Ok-read.count c.deref.result.now)) c.args.limits.now n before there c.serve_piece.new.session) (same_caller i.stands)
    (c.in-Some.ensures.along c.args.limits.now before left taken read.0) in
    let count : 0 < c.in-Ok-read.count = omega (arith, c.if-count-eq0.false) in
    subst (λ e. IsServed c.args.limits.now k before there e c.in-Some.end) (sym (c.read.ensures.ended ∙ read-some c.read.result c.in-Ok-read.count c.read.new.into c.in-Ok-read.is count))
    (along-over c.in-Some.end (length read.0.fed + length (take c.in-Ok-read.count c.deref.result.now)) c.args.limits.now k before there c.serve_piece.new.session over)

pub returns-in-Some-clause-memory : goal.returns-in-Some-clause-memory
returns-in-Some-clause-memory g c e =
    let d = g.D.Desk in
    let i = c.pieces.invariant in
    let k : ℕ = (d.stands c.args.desk.now).caller in
    let left = g.S.Source.rest c.read.new.self in
    let taken = g.S.Source.taken c.read.new.self in
    let before : Outside = record { left = g.S.Source.rest c.args.source.now; taken = g.S.Source.taken c.args.source.now; written = g.K.Sink.written c.args.sink.now; given = g.C.Clock.given c.args.clock.now; saw = d.seen c.args.desk.now; own = d.mine c.args.desk.now } in
    let here : Outside = record { left = g.S.Source.rest c.pieces.source; taken = g.S.Source.taken c.pieces.source; written = g.K.Sink.written c.pieces.sink; given = g.C.Clock.given c.pieces.clock; saw = d.seen c.pieces.desk; own = d.mine c.pieces.desk } in
    let same : c.deref.result.now ≡ c.read.new.into = c.deref.ensures.value
    ∙ refilled c.read.new.into c.pieces.wire.reads.items _ (sym (c.read.auto.into ∙ c.deref_mut.ensures.len)) (c.read.auto.into ∙ ap length c.deref_mut.ensures.value) in
    let read = along-read-by c.args.limits.now k (d.stands c.pieces.desk).caller before here left taken c.pieces.wire.session c.in-Ok-read.count c.read.new.into c.deref.result.now (same_caller i.stands) same c.in-Ok-read.ensures.rest c.in-Ok-read.ensures.taken i.along.0 in
    let there : Outside = record { left = left; taken = taken; written = g.K.Sink.written c.serve_piece.new.sink; given = g.C.Clock.given c.serve_piece.new.clock; saw = d.seen c.serve_piece.new.desk; own = d.mine c.serve_piece.new.desk } in
    let over : AlongTo (Some c.in-Some.end) (length read.0.fed + length (take c.in-Ok-read.count c.deref.result.now)) c.args.limits.now k before there c.serve_piece.new.session =
    subst (λ n. AlongTo (Some c.in-Some.end) (length read.0.fed + length (take c.in-Ok-read.count c.deref.result.now)) c.args.limits.now n before there c.serve_piece.new.session) (same_caller i.stands)
    (c.in-Some.ensures.along c.args.limits.now before left taken read.0) in
    absurd (subst (λ end. AlongTo (Some end) (length read.0.fed + length (take c.in-Ok-read.count c.deref.result.now)) c.args.limits.now k before there c.serve_piece.new.session) e over)

pub returns-in-Some-clause-read_fault : goal.returns-in-Some-clause-read_fault
returns-in-Some-clause-read_fault g c e =
    let d = g.D.Desk in
    let i = c.pieces.invariant in
    let k : ℕ = (d.stands c.args.desk.now).caller in
    let left = g.S.Source.rest c.read.new.self in
    let taken = g.S.Source.taken c.read.new.self in
    let before : Outside = record { left = g.S.Source.rest c.args.source.now; taken = g.S.Source.taken c.args.source.now; written = g.K.Sink.written c.args.sink.now; given = g.C.Clock.given c.args.clock.now; saw = d.seen c.args.desk.now; own = d.mine c.args.desk.now } in
    let here : Outside = record { left = g.S.Source.rest c.pieces.source; taken = g.S.Source.taken c.pieces.source; written = g.K.Sink.written c.pieces.sink; given = g.C.Clock.given c.pieces.clock; saw = d.seen c.pieces.desk; own = d.mine c.pieces.desk } in
    let same : c.deref.result.now ≡ c.read.new.into = c.deref.ensures.value
    ∙ refilled c.read.new.into c.pieces.wire.reads.items _ (sym (c.read.auto.into ∙ c.deref_mut.ensures.len)) (c.read.auto.into ∙ ap length c.deref_mut.ensures.value) in
    let read = along-read-by c.args.limits.now k (d.stands c.pieces.desk).caller before here left taken c.pieces.wire.session c.in-Ok-read.count c.read.new.into c.deref.result.now (same_caller i.stands) same c.in-Ok-read.ensures.rest c.in-Ok-read.ensures.taken i.along.0 in
    let there : Outside = record { left = left; taken = taken; written = g.K.Sink.written c.serve_piece.new.sink; given = g.C.Clock.given c.serve_piece.new.clock; saw = d.seen c.serve_piece.new.desk; own = d.mine c.serve_piece.new.desk } in
    let over : AlongTo (Some c.in-Some.end) (length read.0.fed + length (take c.in-Ok-read.count c.deref.result.now)) c.args.limits.now k before there c.serve_piece.new.session =
    subst (λ n. AlongTo (Some c.in-Some.end) (length read.0.fed + length (take c.in-Ok-read.count c.deref.result.now)) c.args.limits.now n before there c.serve_piece.new.session) (same_caller i.stands)
    (c.in-Some.ensures.along c.args.limits.now before left taken read.0) in
    absurd (subst (λ end. AlongTo (Some end) (length read.0.fed + length (take c.in-Ok-read.count c.deref.result.now)) c.args.limits.now k before there c.serve_piece.new.session) e over)

pub pieces-preserved : goal.pieces-preserved
pieces-preserved g c =
    let d = g.D.Desk in
    let i = c.pieces.invariant in
    let k : ℕ = (d.stands c.args.desk.now).caller in
    let left = g.S.Source.rest c.read.new.self in
    let taken = g.S.Source.taken c.read.new.self in
    let before : Outside = record { left = g.S.Source.rest c.args.source.now; taken = g.S.Source.taken c.args.source.now; written = g.K.Sink.written c.args.sink.now; given = g.C.Clock.given c.args.clock.now; saw = d.seen c.args.desk.now; own = d.mine c.args.desk.now } in
    let here : Outside = record { left = g.S.Source.rest c.pieces.source; taken = g.S.Source.taken c.pieces.source; written = g.K.Sink.written c.pieces.sink; given = g.C.Clock.given c.pieces.clock; saw = d.seen c.pieces.desk; own = d.mine c.pieces.desk } in
    let same : c.deref.result.now ≡ c.read.new.into = c.deref.ensures.value
    ∙ refilled c.read.new.into c.pieces.wire.reads.items _ (sym (c.read.auto.into ∙ c.deref_mut.ensures.len)) (c.read.auto.into ∙ ap length c.deref_mut.ensures.value) in
    let read = along-read-by c.args.limits.now k (d.stands c.pieces.desk).caller before here left taken c.pieces.wire.session c.in-Ok-read.count c.read.new.into c.deref.result.now (same_caller i.stands) same c.in-Ok-read.ensures.rest c.in-Ok-read.ensures.taken i.along.0 in
    let there : Outside = record { left = left; taken = taken; written = g.K.Sink.written c.serve_piece.new.sink; given = g.C.Clock.given c.serve_piece.new.clock; saw = d.seen c.serve_piece.new.desk; own = d.mine c.serve_piece.new.desk } in
    let size : length c.read.new.into ≡ 65536 = c.read.auto.into ∙ ap length c.deref_mut.ensures.value ∙ i.reads in
    let room : length c.serve_piece.new.block ≡ 65536 = c.serve_piece.auto.block ∙ ap length c.deref_mut-in-pieces.ensures.value ∙ i.writes in
    let piece : List ℕ = take c.in-Ok-read.count c.deref.result.now in
    let z = subst (λ n. AlongTo None (length read.0.fed + length piece) c.args.limits.now n before there c.serve_piece.new.session) (same_caller i.stands) (c.in_default.ensures.along c.args.limits.now before left taken read.0) in
    let most : length c.deref.result.now ≡ 65536 = ap length same ∙ size in
    record {
      reads = ap length (refilled c.read.new.into c.pieces.wire.reads.items _ (sym (c.read.auto.into ∙ c.deref_mut.ensures.len)) (c.read.auto.into ∙ ap length c.deref_mut.ensures.value)) ∙ size;
      writes = ap length (refilled c.serve_piece.new.block c.pieces.wire.writes.items _ (sym (c.serve_piece.auto.block ∙ c.deref_mut-in-pieces.ensures.len)) (c.serve_piece.auto.block ∙ ap length c.deref_mut-in-pieces.ensures.value)) ∙ room;
      stays = z.1;
      stands = c.serve_piece.ensures.stands ∙ i.stands;
      lies = c.serve_piece.ensures.lies;
      along = (z.0, omega (arith, z.2, read.1, i.along.1, length-take c.in-Ok-read.count c.deref.result.now, most, c.if-count-eq0.false));
      source_faults = omega (arith, i.source_faults, c.read.ensures.cause.later);
      sink_faults = omega (arith, i.sink_faults, c.serve_piece.ensures.faults);
    }

pub unreachable-requires : goal.unreachable-requires
unreachable-requires g c =
    let i = c.pieces.invariant in
    let x = i.along.0 in
    let keep = kept-open c.args.limits.now (g.D.Desk.stands c.args.desk.now).caller _ _ c.pieces.wire.session x i.stays in
    let small : IsAllowed (limits_in c.pieces.wire.session) = subst IsAllowed (sym x.limits_are) x.allowed in
    let few = bytes_bounded c.pieces.wire.session.framer x.fed x.messages x.session.0.current x.session.0.stands keep in
    omega (arith, few, bound_small (limits_in c.pieces.wire.session) small, i.along.1, c.pieces-test.false)

-- a session that has taken nothing
along-start : (limits : Limits) (caller : ℕ) (a : Outside) (s : Session) → IsAllowed limits → limits_in s ≡ limits → IsSession s [] [] [] [] → IsAlong limits caller a a s []
along-start limits caller a s allowed is session =
    record {
      allowed = allowed;
      limits_are = is;
      fed = [];
      moments = [];
      messages = [];
      text = [];
      moved = record {
        lost = loses-none a.left;
        read = gains-none a.taken;
        wrote = gains-none a.written;
        clocked = gains-none a.given;
        grows = grows_same a.saw a.saw (λ n. refl);
        sound = λ lists. lists;
      };
      session = session;
      served = (refl, refl, λ n. refl);
    }

pub pieces-init : goal.pieces-init
pieces-init g c =
    let d = g.D.Desk in
    let o = c.in-Ok.ensures in
    let before : Outside = record { left = g.S.Source.rest c.args.source.now; taken = g.S.Source.taken c.args.source.now; written = g.K.Sink.written c.args.sink.now; given = g.C.Clock.given c.args.clock.now; saw = d.seen c.args.desk.now; own = d.mine c.args.desk.now } in
    record {
      reads = o.reads;
      writes = o.writes;
      stays = o.closed;
      stands = refl;
      lies = o.lies c.args.chunks.now;
      along = (along-start c.args.limits.now (d.stands c.args.desk.now).caller before c.in-Ok.wire.session c.requires.allowed o.limits o.session, omega arith);
      source_faults = omega arith;
      sink_faults = omega arith;
    }
