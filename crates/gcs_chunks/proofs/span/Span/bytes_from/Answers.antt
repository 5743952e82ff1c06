use Rattle.std.proofs.Common.{◌<◌, ◌+◌, ◌-◌, length, take, drop, ap, subst, sym, ◌∙◌, arith}
use Rattle.gcs_chunks.specs.Content.{Placed, bytes_of_piece, part_bytes}
use Rattle.std.specs.Arc.{arc_value}
use Rattle.gcs_chunks.proofs.Words.{part_rest}
use Rattle.gcs_chunks.proofs.span.Span.bytes_from.Goals as goal

pub slice_bounds-result-end : goal.slice_bounds-result-end
unfolding bytes_of_piece
slice_bounds-result-end c =
    let whole = ap length (c.bytes.ensures.bytes ∙ ap bytes_of_piece c.deref.ensures) in
    omega (arith, whole, c.self.invariant)

pub returns : goal.returns
unfolding bytes_of_piece
returns c =
    let P : Placed → Type 0 = λ span. c.args.skip < span.part.to - span.part.from in
    ap (λ bytes. take (c.self.inside.to - (c.self.inside.from + c.args.skip)) (drop (c.self.inside.from + c.args.skip) bytes))
    (c.bytes.ensures.bytes ∙ ap bytes_of_piece c.deref.ensures)
    ∙ part_rest (record { chunk = arc_value c.self.inside.piece; from = c.self.inside.from; to = c.self.inside.to }) c.args.skip (subst P (sym c.self.view_is) c.requires.skip)
    ∙ ap (λ span. drop c.args.skip (part_bytes span.part)) c.self.view_is
