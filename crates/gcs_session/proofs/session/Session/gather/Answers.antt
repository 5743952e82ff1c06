use Rattle.std.proofs.Common.{◌≡◌, ◌∙◌, ◌-◌, ◌++◌, ℕ, List, Some, length, take, drop, refl, ap, sym, subst, arith}
use Rattle.std.specs.Prelude.{IfSome}
use Rattle.std.proofs.lemmas.List.{length-drop}
use Rattle.gcs_http_in.specs.declared.state.Taken.TheVariants as taken
use Rattle.gcs_http_in.specs.Stands.{Stands, Told, limits_of}
use Rattle.gcs_session.specs.declared.session.Session.{Session}
use Rattle.gcs_session.specs.Contents.{ComingLiesIn}
use Rattle.gcs_session.specs.Session.{IsGatheredTo, IsReading, IsUnderWay}
use Rattle.gcs_session.specs.declared.session.Event.TheVariants as event
use Rattle.gcs_session.proofs.Drops.{rest-whole}
use Rattle.gcs_session.proofs.Gathering.{IsSameBut, gathered-end, gathered-fault, gathered-more, reading-body, reading-head, taken-more}
use Rattle.gcs_session.proofs.Standings.{same_chunks, stay_along}
use Rattle.gcs_session.proofs.session.Session.gather.Goals as goal

pub begin-requires : goal.begin-requires
begin-requires g c =
    let w = c.requires in
    let x = c.events.invariant.reading w.0 w.1 w.2 w.3 w.4.0 in
    let told = c.in-Head.ensures.told (w.0 ++ take c.events.at c.args.piece.now) w.1 x.current x.stands in
    (_, w.1, _, told.1.1)

pub events-preserved-in-Head : goal.events-preserved-in-Head
events-preserved-in-Head g c =
    let i = c.events.invariant in
    let piece : List ℕ = c.args.piece.now in
    let at : ℕ = c.events.at in
    let n : ℕ = c.in-Head.taken in
    let rest : List ℕ = take (length piece - at) (drop at piece) in
    let is : rest ≡ drop at piece = rest-whole piece at in
    let size : length rest ≡ length piece - at = ap length is ∙ length-drop at piece in
    let t : Session = c.begin.new.self in
    let others = c.begin.ensures.others in
    let framer : t.framer ≡ c.feed.new.self = ap (λ (s : Session). s.framer) others in
    let same : IsSameBut c.events.self t = record { closed = ap (λ (s : Session). s.closed) others; unsent = ap (λ (s : Session). s.unsent) others } in
    record {
      within = omega (arith, i.within, c.in-Head.ensures.took.1, size);
      limits = ap limits_of framer ∙ c.in-Head.ensures.limits ∙ i.limits;
      unsent = same.unsent ∙ i.unsent;
      closed = same.closed ∙ i.closed;
      stands = i.stands;
      lists = i.lists;
      reading = λ bytes messages text drained begun.
          let x = i.reading bytes messages text drained begun in
          let told = c.in-Head.ensures.told (bytes ++ take at piece) messages x.current x.stands in
          subst (λ b. IsReading t b messages text drained) (taken-more bytes piece rest at n i.within is)
          (reading-head c.events.self t rest (bytes ++ take at piece) n messages text drained same x
          (subst (λ f. Told f rest (taken.Head n) (bytes ++ take at piece) messages x.current) (sym framer) told)
          (λ it stands empty. subst (λ f. IsUnderWay (limits_of f) messages (Some it) t.coming) (sym framer)
          (c.begin.ensures.coming ((bytes ++ take at piece) ++ take n rest) messages it (subst (λ f. Stands f ((bytes ++ take at piece) ++ take n rest) messages (Some it)) framer stands) empty)));
      lies = λ old. c.begin.ensures.lies (g.D.Desk.stands c.args.desk.now).chunks;
    }

pub events-preserved : goal.events-preserved
events-preserved g c =
    let i = c.events.invariant in
    let piece : List ℕ = c.args.piece.now in
    let at : ℕ = c.events.at in
    let n : ℕ = c.in-Body.taken in
    let rest : List ℕ = take (length piece - at) (drop at piece) in
    let is : rest ≡ drop at piece = rest-whole piece at in
    let size : length rest ≡ length piece - at = ap length is ∙ length-drop at piece in
    let t : Session = c.keep.new.self in
    let others = c.keep.ensures.others in
    let framer : t.framer ≡ c.feed.new.self = ap (λ (s : Session). s.framer) others in
    let same : IsSameBut c.events.self t = record { closed = ap (λ (s : Session). s.closed) others; unsent = ap (λ (s : Session). s.unsent) others } in
    record {
      within = omega (arith, i.within, c.in-Body.ensures.took.2, size);
      limits = ap limits_of framer ∙ c.in-Body.ensures.limits ∙ i.limits;
      unsent = same.unsent ∙ i.unsent;
      closed = same.closed ∙ i.closed;
      stands = c.keep.ensures.stands ∙ i.stands;
      lists = record { seen = λ s. c.keep.ensures.lists.seen s ∙ i.lists.seen s; mine = λ s. c.keep.ensures.lists.mine s ∙ i.lists.mine s };
      reading = λ bytes messages text drained begun.
          let x = i.reading bytes messages text drained begun in
          let told = c.in-Body.ensures.told (bytes ++ take at piece) messages x.current x.stands in
          subst (λ b. IsReading t b messages text drained) (taken-more bytes piece rest at n i.within is)
          (reading-body c.events.self t rest (bytes ++ take at piece) n c.in-Body.from c.in-Body.to messages text drained same (ap limits_of framer ∙ c.in-Body.ensures.limits) x
          (subst (λ f. Told f rest (taken.Body n c.in-Body.from c.in-Body.to) (bytes ++ take at piece) messages x.current) (sym framer) told)
          c.keep.ensures.coming);
      lies = λ old. stay_along (λ k. IfSome c.events.self.coming (ComingLiesIn k)) (λ k. IfSome t.coming (ComingLiesIn k)) (same_chunks i.stands) c.keep.ensures.lies (i.lies old);
    }

pub returns-in-More-clause-gathered : goal.returns-in-More-clause-gathered
returns-in-More-clause-gathered g c = λ bytes messages text drained begun.
    let i = c.events.invariant in
    let piece : List ℕ = c.args.piece.now in
    let at : ℕ = c.events.at in
    let n : ℕ = c.in-More.taken in
    let rest : List ℕ = take (length piece - at) (drop at piece) in
    let is : rest ≡ drop at piece = rest-whole piece at in
    let t : Session = record c.events.self { framer = c.feed.new.self } in
    let same : IsSameBut c.events.self t = record { closed = refl; unsent = refl } in
    let x = i.reading bytes messages text drained begun.0 in
    let told = c.in-More.ensures.told (bytes ++ take at piece) messages x.current x.stands in
    subst (λ b. IsGatheredTo event.More t b messages text drained) (taken-more bytes piece rest at n i.within is)
    (gathered-more c.events.self t rest (bytes ++ take at piece) n messages text drained same refl c.in-More.ensures.limits (λ due. c.in-More.ensures.took.2 due) x told)

pub returns-in-End-clause-gathered : goal.returns-in-End-clause-gathered
returns-in-End-clause-gathered g c = λ bytes messages text drained begun.
    let i = c.events.invariant in
    let piece : List ℕ = c.args.piece.now in
    let at : ℕ = c.events.at in
    let n : ℕ = c.in-End.taken in
    let rest : List ℕ = take (length piece - at) (drop at piece) in
    let is : rest ≡ drop at piece = rest-whole piece at in
    let t : Session = record c.events.self { framer = c.feed.new.self } in
    let same : IsSameBut c.events.self t = record { closed = refl; unsent = refl } in
    let x = i.reading bytes messages text drained begun.0 in
    let told = c.in-End.ensures.told (bytes ++ take at piece) messages x.current x.stands in
    subst (λ b. IsGatheredTo event.End t b messages text drained) (taken-more bytes piece rest at n i.within is)
    (gathered-end c.events.self t rest (bytes ++ take at piece) n messages text drained same refl c.in-End.ensures.limits x told)

pub returns-in-Fault-clause-gathered : goal.returns-in-Fault-clause-gathered
returns-in-Fault-clause-gathered g c = λ bytes messages text drained begun.
    let i = c.events.invariant in
    let piece : List ℕ = c.args.piece.now in
    let at : ℕ = c.events.at in
    let n : ℕ = c.in-Fault.taken in
    let rest : List ℕ = take (length piece - at) (drop at piece) in
    let is : rest ≡ drop at piece = rest-whole piece at in
    let t : Session = record c.events.self { framer = c.feed.new.self } in
    let same : IsSameBut c.events.self t = record { closed = refl; unsent = refl } in
    let x = i.reading bytes messages text drained begun.0 in
    let told = c.in-Fault.ensures.told (bytes ++ take at piece) messages x.current x.stands in
    subst (λ b. IsGatheredTo (event.Fault c.in-Fault.fault) t b messages text drained) (taken-more bytes piece rest at n i.within is)
    (gathered-fault c.events.self t rest (bytes ++ take at piece) n c.in-Fault.fault messages text drained same x told)
