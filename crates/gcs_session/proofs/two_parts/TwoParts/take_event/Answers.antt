-- More content of the part under way.
use Rattle.std.proofs.Common.{◌≡◌, ◌∙◌, ℕ, List, ◌∷◌, ◌++◌, Option, Some, ap, append_assoc, subst}
use Rattle.std.specs.Prelude.{slice_range}
use Rattle.gcs_multipart.specs.Grammar.{Part}
use Rattle.gcs_multipart.specs.Stands.{held_of}
use Rattle.gcs_session.specs.Contents.{PartsKeptLieIn}
use Rattle.gcs_session.specs.TwoParts.{AreKept, begun}
use Rattle.gcs_session.proofs.Standings.{same_chunks, stay_along}
use Rattle.gcs_session.proofs.two_parts.TwoParts.take_event.Goals as goal

pub returns-in_ok-add-in-Content-2-clause-read : goal.returns-in_ok-add-in-Content-2-clause-read
returns-in_ok-add-in-Content-2-clause-read g c = λ most boundary bytes x.
    let told = c.in-Content.ensures.told boundary bytes x.whole x.current x.fits x.stands in
    let it : Part = told.4.0 in
    let held : List ℕ = c.held.result.now in
    let slice : List ℕ = slice_range c.args.piece.now c.in-Content.from c.in-Content.to in
    let kept : AreKept most c.args.self.now.kept (it ∷ x.whole) = subst (λ (current : Option Part). AreKept most c.args.self.now.kept (begun x.whole current)) told.4.1 x.kept in
    let more = c.in_ok-add-in-Content-2.ensures.kept most it.head (it.content ++ held) x.whole (c.in_ok-add-in-Content.ensures.kept most it.head it.content x.whole kept) in
    let same : (it.content ++ held) ++ slice ≡ it.content ++ (held_of c.feed.new.self ++ slice) = append_assoc it.content held slice ∙ ap (λ (h : List ℕ). it.content ++ (h ++ slice)) c.held.ensures in
    record {
      fits = x.fits;
      most_is = x.most_is;
      whole = x.whole;
      current = Some record { head = it.head; content = it.content ++ (held_of c.feed.new.self ++ slice) };
      stands = told.4.2;
      kept = subst (λ (content : List ℕ). AreKept most c.add-in-Content.new.self (record { head = it.head; content = content } ∷ x.whole)) same more;
    }

pub returns-in_ok-add-in-Content-2-clause-lies : goal.returns-in_ok-add-in-Content-2-clause-lies
returns-in_ok-add-in-Content-2-clause-lies g c = λ old.
    stay_along (λ k. PartsKeptLieIn k c.add.new.self) (λ k. PartsKeptLieIn k c.add-in-Content.new.self) (same_chunks c.add.ensures.stands) c.add-in-Content.ensures.lies (c.add.ensures.lies old)

pub returns-in_err-add-in-Content-2-clause-lies : goal.returns-in_err-add-in-Content-2-clause-lies
returns-in_err-add-in-Content-2-clause-lies g c = λ old.
    stay_along (λ k. PartsKeptLieIn k c.add.new.self) (λ k. PartsKeptLieIn k c.add-in-Content.new.self) (same_chunks c.add.ensures.stands) c.add-in-Content.ensures.lies (c.add.ensures.lies old)

pub returns-in_err-begin_part-in-PartHead-clause-lies : goal.returns-in_err-begin_part-in-PartHead-clause-lies
returns-in_err-begin_part-in-PartHead-clause-lies g c = λ old. c.begin_part.ensures.lies (g.D.Desk.stands c.args.desk.now).chunks

pub returns-in_ok-begin_part-in-PartHead-clause-lies : goal.returns-in_ok-begin_part-in-PartHead-clause-lies
returns-in_ok-begin_part-in-PartHead-clause-lies g c = λ old. c.begin_part.ensures.lies (g.D.Desk.stands c.args.desk.now).chunks
