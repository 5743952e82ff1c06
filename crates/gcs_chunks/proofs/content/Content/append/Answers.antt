use Rattle.std.proofs.Common.{◌≡◌, ◌+◌, ◌-◌, ◌∷◌, [], ◌++◌, length, ap, ap₂, subst, sym, ◌∙◌, arith}
use Rattle.std.specs.Arc.{arc_value}
use Rattle.std.proofs.lemmas.List.{length-append, map-append}
use Rattle.gcs_chunks.specs.Content.{AreEnds, ContentLiesIn, PartsLieIn, PieceLiesIn, Placed, Whole, bytes_of, bytes_of_piece, part_bytes, parts_bytes, parts_in}
use Rattle.gcs_chunks.proofs.Words.{parts_lie-append, part_size}
use Rattle.gcs_chunks.proofs.Ends.{bytes-push, ends-append}
use Rattle.gcs_chunks.proofs.content.Content.append.Goals as goal

pub invariant_of-self-then-from-to : goal.invariant_of-self-then-from-to
unfolding bytes_of bytes_of_piece
invariant_of-self-then-from-to c =
    let before = c.self.inside.spans.items in
    let span = c.in_ok-new.field-0 in
    let added : length (part_bytes span.part) ≡ c.args.to - c.args.from =
    ap (λ s. length (part_bytes s.part)) c.in_ok-new.ensures ∙ part_size (record { chunk = arc_value c.args.piece.now; from = c.args.from; to = c.args.to }) c.requires.within in
    let whole : length (parts_bytes (parts_in c.push.new.self.items)) ≡ length (parts_bytes (parts_in before)) + length (part_bytes span.part) =
    ap (λ ss. length (parts_bytes (parts_in ss))) c.in_ok-push.ensures.items
    ∙ ap length (bytes-push before span)
    ∙ length-append (parts_bytes (parts_in before)) (part_bytes span.part) in
    let mine : length (parts_bytes (parts_in before)) ≡ length (bytes_of c.args.self.now) = ap (λ w. length (bytes_of w)) c.self.view_is in
    let end : span.end ≡ c.self.inside.len + (c.args.to - c.args.from) = ap (λ s. s.end) c.in_ok-new.ensures in (
      omega (arith, added, whole, c.self.invariant.0),
      omega (arith, mine, c.self.invariant.0, c.requires.size),
      subst (AreEnds 0) (sym c.in_ok-push.ensures.items) (ends-append 0 before (span ∷ []) c.self.invariant.2 (omega (arith, end, added, c.self.invariant.0), tt)),
    )

-- the bytes of the new span come behind those that were there
pub returns-in_ok-push-clause-bytes : goal.returns-in_ok-push-clause-bytes
unfolding bytes_of bytes_of_piece
returns-in_ok-push-clause-bytes c =
    let before = c.self.inside.spans.items in
    let span = c.in_ok-new.field-0 in
    ap (λ ss. parts_bytes (parts_in ss)) c.in_ok-push.ensures.items
    ∙ bytes-push before span
    ∙ ap₂ (λ a b. a ++ b) (ap bytes_of c.self.view_is) (ap (λ s. part_bytes s.part) c.in_ok-new.ensures)

pub returns-in_ok-push-clause-lies : goal.returns-in_ok-push-clause-lies
unfolding ContentLiesIn
returns-in_ok-push-clause-lies c chunks lies piece =
    let before = c.self.inside.spans.items in
    let span = c.in_ok-new.field-0 in
    let mine : PartsLieIn chunks (parts_in before) = subst (λ (w : Whole). ContentLiesIn chunks w) (sym c.self.view_is) lies in
    let added : PartsLieIn chunks (span.part ∷ []) = (subst (λ (s : Placed). PieceLiesIn chunks s.part.chunk) (sym c.in_ok-new.ensures) piece, tt) in
    let all : parts_in c.push.new.self.items ≡ parts_in before ++ span.part ∷ [] = ap parts_in c.in_ok-push.ensures.items ∙ map-append (λ (s : Placed). s.part) before (span ∷ []) in
    subst (PartsLieIn chunks) (sym all) (parts_lie-append chunks (parts_in before) (span.part ∷ []) mine added)
