use Rattle.std.proofs.Common.{◌≡◌, ◌∙◌, ◌+◌, ◌-◌, ℕ, List, Option, length, take, drop, refl, sym, subst, arith}
use Rattle.gcs_http_in.specs.declared.limits.Limits.{Limits}
use Rattle.gcs_http_in.proofs.Bounds.{messages_bounded}
use Rattle.gcs_http_in.specs.Usual.{IsAllowed}
use Rattle.gcs_session.specs.Along.{IsAlong}
use Rattle.gcs_session.specs.Connection.{Outside}
use Rattle.gcs_session.specs.Session.{IsDrained, IsFed, limits_in, waiting_in}
use Rattle.gcs_session.proofs.Alongs.{along-broken, fed-close, fed-drained, fed-more, seen_of}
use Rattle.gcs_session.proofs.Blocks.{on-ok, written-part, written-whole}
use Rattle.gcs_session.proofs.Drops.{rest-whole}
use Rattle.gcs_session.proofs.Standings.{same_caller, same_chunks}
use Rattle.gcs_session.proofs.connection.serve_piece.Goals as goal

pub feed-fed-requires-clause-chunks : goal.feed-fed-requires-clause-chunks
feed-fed-requires-clause-chunks g c = same_chunks c.messages.invariant.stands ∙ c.requires.chunks

pub returns-in-More-clause-along : goal.returns-in-More-clause-along
returns-in-More-clause-along g c = λ limits a left taken entry.
    let d = g.D.Desk in
    let i = c.messages.invariant in
    let e = c.feed-fed.ensures in
    let k : ℕ = (d.stands c.args.desk.now).caller in
    let b : Outside = record { left = left; taken = taken; written = g.K.Sink.written c.messages.sink; given = g.C.Clock.given c.messages.clock; saw = d.seen c.messages.desk; own = d.mine c.messages.desk } in
    let f : Outside = record { left = left; taken = taken; written = g.K.Sink.written c.messages.sink; given = g.C.Clock.given c.feed-fed.new.clock; saw = d.seen c.feed-fed.new.desk; own = d.mine c.feed-fed.new.desk } in
    let x = (i.along limits a left taken entry).0 in
    let fed = subst (λ n. IsFed n (seen_of b) (seen_of f) c.feed-fed.new.self c.messages.rest.now c.feed-fed.result x.fed x.messages x.text x.text) (same_caller i.stands) (e.fed x.fed x.messages x.text x.text x.session) in
    let z = fed-more limits k a b f c.messages.session c.feed-fed.new.self c.messages.rest.now c.feed-fed.result x (record { left = refl; taken = refl; written = refl }) fed e.limits e.want c.in-More.is in
    (z.0, z.1, omega (arith, z.2, (i.along limits a left taken entry).1))

pub returns-in-Close-clause-along : goal.returns-in-Close-clause-along
returns-in-Close-clause-along g c = λ limits a left taken entry ended.
    let d = g.D.Desk in
    let i = c.messages.invariant in
    let e = c.feed-fed.ensures in
    let k : ℕ = (d.stands c.args.desk.now).caller in
    let b : Outside = record { left = left; taken = taken; written = g.K.Sink.written c.messages.sink; given = g.C.Clock.given c.messages.clock; saw = d.seen c.messages.desk; own = d.mine c.messages.desk } in
    let f : Outside = record { left = left; taken = taken; written = g.K.Sink.written c.messages.sink; given = g.C.Clock.given c.feed-fed.new.clock; saw = d.seen c.feed-fed.new.desk; own = d.mine c.feed-fed.new.desk } in
    let x = (i.along limits a left taken entry).0 in
    let fed = subst (λ n. IsFed n (seen_of b) (seen_of f) c.feed-fed.new.self c.messages.rest.now c.feed-fed.result x.fed x.messages x.text x.text) (same_caller i.stands) (e.fed x.fed x.messages x.text x.text x.session) in
    fed-close limits k a b f c.messages.session c.feed-fed.new.self c.messages.rest.now c.feed-fed.result x (record { left = refl; taken = refl; written = refl }) fed e.limits e.want c.in-Close.is ended

pub returns-then-is_err-clause-along : goal.returns-then-is_err-clause-along
returns-then-is_err-clause-along g c = λ limits a left taken entry.
    let d = g.D.Desk in
    let i = c.messages.invariant in
    let e = c.feed-fed.ensures in
    let k : ℕ = (d.stands c.args.desk.now).caller in
    let b : Outside = record { left = left; taken = taken; written = g.K.Sink.written c.messages.sink; given = g.C.Clock.given c.messages.clock; saw = d.seen c.messages.desk; own = d.mine c.messages.desk } in
    let f : Outside = record { left = left; taken = taken; written = g.K.Sink.written c.messages.sink; given = g.C.Clock.given c.feed-fed.new.clock; saw = d.seen c.feed-fed.new.desk; own = d.mine c.feed-fed.new.desk } in
    let x = (i.along limits a left taken entry).0 in
    let fed = subst (λ n. IsFed n (seen_of b) (seen_of f) c.feed-fed.new.self c.messages.rest.now c.feed-fed.result x.fed x.messages x.text x.text) (same_caller i.stands) (e.fed x.fed x.messages x.text x.text x.session) in
    let told = c.write_waiting.ensures.written in
    let part = written-part (waiting_in c.feed-fed.new.self) told.0 c.write_waiting.result (sym c.is_err.ensures.value ∙ c.if-is_err.true) told.2 in
    along-broken limits k a b f (g.K.Sink.written c.write_waiting.new.sink) c.messages.session c.feed-fed.new.self c.messages.rest.now c.feed-fed.result told.0 part.0 x (record { left = refl; taken = refl; written = refl })
    fed (e.limits ∙ x.limits_are) told.1 part.1 part.2

pub messages-preserved : goal.messages-preserved
messages-preserved g c =
    let d = g.D.Desk in
    let i = c.messages.invariant in
    let e = c.feed-fed.ensures in
    let k : ℕ = (d.stands c.args.desk.now).caller in
    let rest : List ℕ = c.messages.rest.now in
    let n : ℕ = c.feed-fed.result.taken in
    let ok = sym c.is_err.ensures.value ∙ c.if-is_err.false in
    let told = c.write_waiting.ensures.written in
    let drained = on-ok (IsDrained c.feed-fed.new.self c.write_waiting.new.session) c.write_waiting.result ok c.write_waiting.ensures.drained in
    let step : (limits : Limits) (a : Outside) (left taken : Option (List ℕ))
    → (x : IsAlong limits k a (record { left = left; taken = taken; written = g.K.Sink.written c.messages.sink; given = g.C.Clock.given c.messages.clock; saw = d.seen c.messages.desk; own = d.mine c.messages.desk }) c.messages.session rest)
    → (z : IsAlong limits k a (record { left = left; taken = taken; written = g.K.Sink.written c.write_waiting.new.sink; given = g.C.Clock.given c.feed-fed.new.clock; saw = d.seen c.feed-fed.new.desk; own = d.mine c.feed-fed.new.desk }) c.write_waiting.new.session (take (length rest - n) (drop n rest)))
    × (length z.messages ≡ length x.messages + 1) × (length z.fed + length (take (length rest - n) (drop n rest)) ≡ length x.fed + length rest) = λ limits a left taken x.
    let b : Outside = record { left = left; taken = taken; written = g.K.Sink.written c.messages.sink; given = g.C.Clock.given c.messages.clock; saw = d.seen c.messages.desk; own = d.mine c.messages.desk } in
    let f : Outside = record { left = left; taken = taken; written = g.K.Sink.written c.messages.sink; given = g.C.Clock.given c.feed-fed.new.clock; saw = d.seen c.feed-fed.new.desk; own = d.mine c.feed-fed.new.desk } in
    let fed = subst (λ n. IsFed n (seen_of b) (seen_of f) c.feed-fed.new.self rest c.feed-fed.result x.fed x.messages x.text x.text) (same_caller i.stands) (e.fed x.fed x.messages x.text x.text x.session) in
    fed-drained limits k a b f (g.K.Sink.written c.write_waiting.new.sink) c.messages.session c.feed-fed.new.self c.write_waiting.new.session rest (take (length rest - n) (drop n rest)) told.0 c.feed-fed.result x
    (record { left = refl; taken = refl; written = refl }) fed e.limits e.want c.in-Drain.is drained told.1 (written-whole (waiting_in c.feed-fed.new.self) told.0 c.write_waiting.result ok told.2) (rest-whole rest n) in
    let s = i.some in
    let here = step s.0 s.1 s.2 s.3 s.4 in
    record {
      block = omega (arith, i.block, c.write_waiting.auto.block);
      stands = e.stands ∙ i.stands;
      lies = c.write_waiting.ensures.lies;
      faults = omega (arith, i.faults, c.write_waiting.ensures.cause.later);
      some = (s.0, s.1, s.2, s.3, here.0, omega (arith, here.1, s.5));
      along = λ limits a left taken entry.
          let x = i.along limits a left taken entry in
          let z = step limits a left taken x.0 in
          (z.0, omega (arith, z.2, x.1));
    }

pub unreachable-requires : goal.unreachable-requires
unreachable-requires g c =
    let s = c.messages.invariant.some in
    let x = s.4 in
    let small : IsAllowed (limits_in c.messages.session) = subst IsAllowed (sym x.limits_are) x.allowed in
    let few = messages_bounded c.messages.session.framer x.fed x.messages x.session.0.current x.session.0.stands small in
    omega (arith, few, small.requests.1, s.5, c.messages-test.false)

pub messages-init : goal.messages-init
messages-init g c =
    let w = c.requires.along in
    record {
      block = c.requires.block;
      stands = refl;
      lies = c.requires.lies;
      faults = omega arith;
      some = (w.0, w.1, w.2, w.3, w.4, omega arith);
      along = λ limits a left taken entry. (entry, omega arith);
    }
