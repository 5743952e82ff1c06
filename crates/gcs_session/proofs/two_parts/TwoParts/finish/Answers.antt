-- What has come of two parts where their body ends.
use Rattle.std.proofs.Common.{◌≡◌, ◌∙◌, ◌+◌, ◌≤◌, ℕ, Bool, true, false, List, length, subst, sym}
use Rattle.std.proofs.lemmas.Bool.{leb-true}
use Rattle.gcs_multipart.specs.declared.parts.Parts.{Parts}
use Rattle.gcs_request.specs.Parts.{IsTwo}
use Rattle.gcs_session.specs.declared.two_parts.PartsKept.{PartsKept}
use Rattle.gcs_session.specs.declared.two_parts.PartsKept.TheVariants.{Nothing, One, Two, TooLong, Others}
use Rattle.gcs_session.specs.TwoParts.{AreKept, begun}
use Rattle.gcs_session.proofs.PartsEnd.{Says, are-others, is-two, nothing-short, one-most, one-short, others-short, too-long, two-short}
use Rattle.gcs_session.proofs.two_parts.TwoParts.finish.Goals as goal

pub returns-in-Nothing-clause-come : goal.returns-in-Nothing-clause-come
returns-in-Nothing-clause-come g c = λ most b bytes encoded x.
    let p : Parts = c.args.self.parts in
    let over : Bool = c.is_over-is_over.result in
    let held : ℕ = c.held_back-held.result in
    let says : Says p over held = record {
      whole = c.is_over-is_over.ensures.whole;
      more = c.is_over-is_over.ensures.none;
      content = c.held_back-held.ensures.content;
      none = c.held_back-held.ensures.none;
    } in
    let kept : AreKept most Nothing (begun x.whole x.current) = subst (λ (k : PartsKept). AreKept most k (begun x.whole x.current)) c.in-Nothing.is x.kept in
    (nothing-short most b bytes p x.whole x.current x.fits x.stands kept, are-others most b bytes p over held Nothing x.whole x.current says x.fits x.stands kept (λ content json is k. k))

pub returns-then-has_room-clause-come : goal.returns-then-has_room-clause-come
returns-then-has_room-clause-come g c = λ most b bytes encoded x.
    let p : Parts = c.args.self.parts in
    let over : Bool = c.is_over-is_over.result in
    let held : ℕ = c.held_back-held.result in
    let says : Says p over held = record {
      whole = c.is_over-is_over.ensures.whole;
      more = c.is_over-is_over.ensures.none;
      content = c.held_back-held.ensures.content;
      none = c.held_back-held.ensures.none;
    } in
    let kept : AreKept most (One c.in-One.text) (begun x.whole x.current) = subst (λ (k : PartsKept). AreKept most k (begun x.whole x.current)) c.in-One.is x.kept in
    let text = c.in-One.text in
    let room : length text.bytes.items + held ≤ text.most = leb-true (length text.bytes.items + held) text.most (sym c.has_room.ensures ∙ c.if-has_room.true) in
    let few : length text.bytes.items + held ≤ most = subst (λ (n : ℕ). length text.bytes.items + held ≤ n) (one-most most text (begun x.whole x.current) kept) room in
    (one-short most b bytes p over held text x.whole x.current says x.fits x.stands few kept, are-others most b bytes p over held (One text) x.whole x.current says x.fits x.stands kept (λ content json is k. k))

pub returns-then-not-is_over-clause-come : goal.returns-then-not-is_over-clause-come
returns-then-not-is_over-clause-come g c = λ most b bytes encoded x.
    let p : Parts = c.args.self.parts in
    let over : Bool = c.is_over-is_over.result in
    let held : ℕ = c.held_back-held.result in
    let says : Says p over held = record {
      whole = c.is_over-is_over.ensures.whole;
      more = c.is_over-is_over.ensures.none;
      content = c.held_back-held.ensures.content;
      none = c.held_back-held.ensures.none;
    } in
    let kept : AreKept most (Two c.in-Two.text c.in-Two.kind c.in-Two.content) (begun x.whole x.current) = subst (λ (k : PartsKept). AreKept most k (begun x.whole x.current)) c.in-Two.is x.kept in
    let ended : over ≡ false = c.if-not-is_over.true in (
      two-short most b bytes p c.in-Two.text c.in-Two.kind c.in-Two.content x.whole x.current x.stands kept,
      are-others most b bytes p over held (Two c.in-Two.text c.in-Two.kind c.in-Two.content) x.whole x.current says x.fits x.stands kept (λ content json is k. let e : true ≡ false = sym is ∙ ended in cc),
    )

pub returns-in_ok-hashed-in-Two-clause-come : goal.returns-in_ok-hashed-in-Two-clause-come
returns-in_ok-hashed-in-Two-clause-come g c = λ most b bytes encoded x.
    let p : Parts = c.args.self.parts in
    let over : Bool = c.is_over-is_over.result in
    let held : ℕ = c.held_back-held.result in
    let says : Says p over held = record {
      whole = c.is_over-is_over.ensures.whole;
      more = c.is_over-is_over.ensures.none;
      content = c.held_back-held.ensures.content;
      none = c.held_back-held.ensures.none;
    } in
    let kept : AreKept most (Two c.in-Two.text c.in-Two.kind c.in-Two.content) (begun x.whole x.current) = subst (λ (k : PartsKept). AreKept most k (begun x.whole x.current)) c.in-Two.is x.kept in
    let ended : over ≡ true = c.if-not-is_over.false in
    let hashed = c.in_ok-hashed-in-Two.hashed in
    let two = is-two most b bytes p held c.in-Two.text c.in-Two.kind c.in-Two.content hashed x.whole x.current (subst (λ (o : Bool). Says p o held) ended says) x.stands kept
    c.in_ok-hashed-in-Two.ensures.bytes c.in_ok-hashed-in-Two.ensures.md5 in
    subst (λ (text : List ℕ). IsTwo most b bytes text c.in-Two.kind hashed) (sym c.into_bytes.ensures) two

pub returns-in-TooLong-clause-come : goal.returns-in-TooLong-clause-come
returns-in-TooLong-clause-come g c = λ most b bytes encoded x.
    let p : Parts = c.args.self.parts in
    let over : Bool = c.is_over-is_over.result in
    let held : ℕ = c.held_back-held.result in
    let says : Says p over held = record {
      whole = c.is_over-is_over.ensures.whole;
      more = c.is_over-is_over.ensures.none;
      content = c.held_back-held.ensures.content;
      none = c.held_back-held.ensures.none;
    } in
    let kept : AreKept most TooLong (begun x.whole x.current) = subst (λ (k : PartsKept). AreKept most k (begun x.whole x.current)) c.in-TooLong.is x.kept in
    too-long most b bytes p over held x.whole x.current says x.fits x.stands kept

pub returns-in-Others-clause-come : goal.returns-in-Others-clause-come
returns-in-Others-clause-come g c = λ most b bytes encoded x.
    let p : Parts = c.args.self.parts in
    let over : Bool = c.is_over-is_over.result in
    let held : ℕ = c.held_back-held.result in
    let says : Says p over held = record {
      whole = c.is_over-is_over.ensures.whole;
      more = c.is_over-is_over.ensures.none;
      content = c.held_back-held.ensures.content;
      none = c.held_back-held.ensures.none;
    } in
    let kept : AreKept most Others (begun x.whole x.current) = subst (λ (k : PartsKept). AreKept most k (begun x.whole x.current)) c.in-Others.is x.kept in
    (others-short most b bytes p x.whole x.current x.stands kept, are-others most b bytes p over held Others x.whole x.current says x.fits x.stands kept (λ content json is k. k))
