-- An upload and a piece of one are refused as their heads are.
use Rattle.std.proofs.Common.{ap, sym, ◌∙◌}
use Rattle.std.proofs.lemmas.Result.{IfErr-weaker}
use Rattle.gcs_request.specs.Heading.{part_on}
use Rattle.gcs_request.proofs.heading.part_of.Goals as goal

pub returns-in-Upload-clause-refused : goal.returns-in-Upload-clause-refused
returns-in-Upload-clause-refused c =
    IfErr-weaker c.upload_part.result _ _
    (λ fault refused reason is head read. ap (λ kind. part_on kind c.args.call.now head) (sym c.in-Upload.ensures) ∙ refused reason is head read)
    c.upload_part.ensures.refused

pub returns-in-UploadPiece-clause-refused : goal.returns-in-UploadPiece-clause-refused
returns-in-UploadPiece-clause-refused c =
    IfErr-weaker c.piece_part.result _ _
    (λ fault refused reason is head read. ap (λ kind. part_on kind c.args.call.now head) (sym c.in-UploadPiece.ensures) ∙ refused reason is head read)
    c.piece_part.ensures.refused
