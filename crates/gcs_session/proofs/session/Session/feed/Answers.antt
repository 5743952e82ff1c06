use Rattle.std.proofs.Common.{◌≡◌, ◌∙◌, ◌++◌, true, false, [], take, refl, ap, sym, subst, arith}
use Rattle.std.specs.Prelude.{IfSome}
use Rattle.gcs_chunks.specs.Content.{ChunksValue}
use Rattle.gcs_http_in.specs.Message.{Message, whole, AllKeep}
use Rattle.gcs_session.specs.declared.session.Session.{Session}
use Rattle.gcs_session.specs.Contents.{ComingLiesIn}
use Rattle.gcs_session.specs.Session.{IsClosedBy, IsGatheredTo, IsReplied, Seen}
use Rattle.gcs_session.specs.Unsent.{unsent_bytes}
use Rattle.gcs_reply.proofs.Some.{fixed-some}
use Rattle.gcs_session.proofs.Feeding.{answer-some, fed-end, fed-fault, fed-none, fed-quiet}
use Rattle.gcs_session.proofs.Gathering.{gathered-lies}
use Rattle.gcs_session.proofs.Standings.{same_caller, same_chunks}
use Rattle.gcs_session.proofs.session.Session.feed.Goals as goal

-- where bytes wait, or the connection is closed, nothing was taken
pub returns-then-waits-clause-want : goal.returns-then-waits-clause-want
returns-then-waits-clause-want g c =
    rw c.nothing.ensures (record { within = omega arith; want = c.waits.ensures.some c.if-waits.true; whole = λ e. absurd (cc); waits = λ some. refl; shut = λ e. refl })

pub returns-then-waits-clause-fed : goal.returns-then-waits-clause-fed
returns-then-waits-clause-fed g c = rw c.nothing.ensures (λ bytes messages text drained x. fed-none _ _ _ _ _ bytes messages text drained x)

pub returns-then-self-clause-want : goal.returns-then-self-clause-want
returns-then-self-clause-want g c =
    rw c.nothing-then-self.ensures (record {
      within = omega arith;
      want = (c.waits.ensures.none c.if-waits.false, c.if-self.true);
      whole = λ e. absurd (cc);
      waits = λ some. refl;
      shut = λ e. refl;
    })

pub returns-then-self-clause-fed : goal.returns-then-self-clause-fed
returns-then-self-clause-fed g c = rw c.nothing-then-self.ensures (λ bytes messages text drained x. fed-none _ _ _ _ _ bytes messages text drained x)

-- nothing waits, and the connection is open: so it stays where nothing was answered
pub returns-in-More-clause-want : goal.returns-in-More-clause-want
returns-in-More-clause-want g c =
    let k = c.gather-taken.ensures in
    record {
      within = k.within;
      want = (ap unsent_bytes k.unsent ∙ c.waits.ensures.none c.if-waits.false, k.closed ∙ c.if-self.false);
      whole = λ e. k.whole c.in-More.is;
      waits = λ some. absurd (some (c.waits.ensures.none c.if-waits.false));
      shut = λ e. absurd (let other : true ≡ false = sym e ∙ c.if-self.false in cc);
    }

pub returns-in-More-clause-fed : goal.returns-in-More-clause-fed
returns-in-More-clause-fed g c = λ bytes messages text drained x.
    let k = c.gather-taken.ensures in
    let t : Session = c.gather-taken.new.self in
    fed-quiet _ _ _ t c.args.piece.now _ bytes messages text drained refl k.lists
    (subst (λ e. IsGatheredTo e t (bytes ++ take c.gather-taken.result.0 c.args.piece.now) messages text drained) c.in-More.is (k.gathered bytes messages text drained x))

pub returns-in-More-clause-lies : goal.returns-in-More-clause-lies
returns-in-More-clause-lies g c =
    let s : Session = c.args.self.now in
    let t : Session = c.gather-taken.new.self in
    let k = c.gather-taken.ensures in
    gathered-lies c.args.chunks.now s t k.unsent
    (subst (λ (chunks : ChunksValue). IfSome s.coming (ComingLiesIn chunks) → IfSome t.coming (ComingLiesIn chunks)) c.requires.chunks k.lies) c.requires.lies

pub answer-requires-clause-chunks : goal.answer-requires-clause-chunks
answer-requires-clause-chunks g c = same_chunks c.gather-taken.ensures.stands ∙ c.requires.chunks

pub answer-requires-clause-whole : goal.answer-requires-clause-whole
answer-requires-clause-whole g c =
    let w = c.requires.running in
    let k = subst (λ e. IsGatheredTo e c.gather-taken.new.self (w.0 ++ take c.gather-taken.result.0 c.args.piece.now) w.1 w.2 w.3) c.in-End.is (c.gather-taken.ensures.gathered w.0 w.1 w.2 w.3 w.4) in
    (k.0.head, k.0.content, k.1, k.2)

pub answer-requires-clause-lies : goal.answer-requires-clause-lies
answer-requires-clause-lies g c =
    let s : Session = c.args.self.now in
    let t : Session = c.gather-taken.new.self in
    let k = c.gather-taken.ensures in
    gathered-lies c.args.chunks.now s t k.unsent
    (subst (λ (chunks : ChunksValue). IfSome s.coming (ComingLiesIn chunks) → IfSome t.coming (ComingLiesIn chunks)) c.requires.chunks k.lies) c.requires.lies

pub returns-in-End-clause-want : goal.returns-in-End-clause-want
returns-in-End-clause-want g c =
    let w = c.requires.running in
    let k = subst (λ e. IsGatheredTo e c.gather-taken.new.self (w.0 ++ take c.gather-taken.result.0 c.args.piece.now) w.1 w.2 w.3) c.in-End.is (c.gather-taken.ensures.gathered w.0 w.1 w.2 w.3 w.4) in
    let r = c.answer.ensures.answered k.0.head k.0.content k.1 k.2 in
    record {
      within = c.gather-taken.ensures.within;
      want = answer-some _ (whole k.0.head k.0.content k.1) r.moments _ _ _ _ _ r.answers;
      whole = λ e. absurd (cc);
      waits = λ some. absurd (some (c.waits.ensures.none c.if-waits.false));
      shut = λ e. absurd (let other : true ≡ false = sym e ∙ c.if-self.false in cc);
    }

pub returns-in-End-clause-fed : goal.returns-in-End-clause-fed
returns-in-End-clause-fed g c = λ bytes messages text drained x.
    let k = c.gather-taken.ensures in
    let s : Session = c.gather-taken.new.self in
    let t : Session = c.answer.new.self in
    let ended = subst (λ e. IsGatheredTo e s (bytes ++ take c.gather-taken.result.0 c.args.piece.now) messages text drained) c.in-End.is (k.gathered bytes messages text drained x) in
    let m : Message = whole ended.0.head ended.0.content ended.1 in
    let keep : AllKeep messages = subst (λ b. IsClosedBy b messages) c.if-self.false x.0.closed in
    let none : unsent_bytes s.unsent ≡ [] = ap unsent_bytes k.unsent ∙ c.waits.ensures.none c.if-waits.false in
    let d = g.D.Desk in
    let mid : Seen = record { given = g.C.Clock.given c.args.clock.now; saw = d.seen c.gather-taken.new.desk; own = d.mine c.gather-taken.new.desk } in
    let last : Seen = record { given = g.C.Clock.given c.answer.new.clock; saw = d.seen c.answer.new.desk; own = d.mine c.answer.new.desk } in
    let replied = c.answer.ensures.answered ended.0.head ended.0.content ended.1 ended.2 in
    fed-end _ _ _ _ s t c.args.piece.now _ bytes messages m text drained refl k.lists ended.3 none keep c.answer.ensures.framer
    (subst (λ n. IsReplied n mid last t m) (same_caller k.stands) replied)

pub returns-in-Fault-clause-want : goal.returns-in-Fault-clause-want
returns-in-Fault-clause-want g c =
    record {
      within = c.gather-taken.ensures.within;
      want = λ none. fixed-some _ (sym c.refuse.ensures.reply ∙ none);
      whole = λ e. absurd (cc);
      waits = λ some. absurd (some (c.waits.ensures.none c.if-waits.false));
      shut = λ e. absurd (let other : true ≡ false = sym e ∙ c.if-self.false in cc);
    }

pub returns-in-Fault-clause-fed : goal.returns-in-Fault-clause-fed
returns-in-Fault-clause-fed g c = λ bytes messages text drained x.
    let k = c.gather-taken.ensures in
    let s : Session = c.gather-taken.new.self in
    let t : Session = c.refuse.new.self in
    let ended = subst (λ e. IsGatheredTo e s (bytes ++ take c.gather-taken.result.0 c.args.piece.now) messages text drained) c.in-Fault.is (k.gathered bytes messages text drained x) in
    let keep : AllKeep messages = subst (λ b. IsClosedBy b messages) c.if-self.false x.0.closed in
    let none : unsent_bytes s.unsent ≡ [] = ap unsent_bytes k.unsent ∙ c.waits.ensures.none c.if-waits.false in
    fed-fault _ _ _ s t c.args.piece.now _ bytes messages c.in-Fault.fault text drained refl k.lists ended none keep c.refuse.ensures.framer c.refuse.ensures.coming c.refuse.ensures.closed c.refuse.ensures.reply
