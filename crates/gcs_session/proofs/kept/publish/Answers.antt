-- A whole piece is added.
use Rattle.std.proofs.Common.{◌≡◌, ◌∙◌, arith, length}
use Rattle.std.specs.Arc.{arc_value}
use Rattle.gcs_session.proofs.Pieces.{on_ok, with_piece}
use Rattle.gcs_session.proofs.kept.publish.Goals as goal

pub returns-clause-added : goal.returns-clause-added
returns-clause-added g c =
    let old = c.args.content.now in
    let bytes = c.args.bytes.items in
    on_ok c.append.result _ _
    (λ is. with_piece old c.append.new.self (arc_value c.in_ok-piece.piece) bytes c.len-length.result is
    (c.in_ok-piece.ensures.piece ∙ c.from_vec.ensures) (let size : c.len-length.result ≡ length bytes = omega arith in size))
    c.append.ensures.ok
