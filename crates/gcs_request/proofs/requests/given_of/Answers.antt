-- What is given by each part, and the refusal of a JSON body.
use Rattle.std.proofs.Common.{◌≡◌, ◌≤◌, ◌∙◌, ℕ, List, Bool, true, Some, Result, Ok, Err, length, arith, subst, sym}
use Rattle.std.specs.Prelude.{IfOk}
use Rattle.std.proofs.lemmas.Result.{IfErr-weaker, IfOk-weaker}
use Rattle.gcs_chunks.specs.Content.{bytes_of, Whole}
use Rattle.gcs_http_in.specs.Head.{Head}
use Rattle.gcs_route.specs.declared.call.Call.{Call}
use Rattle.gcs_route.specs.declared.kind.RequestKind.{RequestKind}
use Rattle.gcs_route.specs.declared.kind.RequestKind.TheVariants.{UploadPiece}
use Rattle.gcs_route.specs.Kinds.{row_of}
use Rattle.gcs_route.specs.OfCall.{request_kind}
use Rattle.gcs_rewrite.specs.declared.request.Given.{Given}
use Rattle.gcs_rewrite.specs.declared.request.Given.TheVariants as given
use Rattle.gcs_rewrite.specs.Fits.{Fits, IsGivenInLimits, IsGivenOn}
use Rattle.gcs_request.specs.declared.heading.HeadPart.{HeadPart}
use Rattle.gcs_request.specs.declared.heading.HeadPart.TheVariants.{Json, Piece}
use Rattle.gcs_request.specs.declared.heading.Heading.TheVariants.{Asks}
use Rattle.gcs_request.specs.declared.bodies.Come.{Come}
use Rattle.gcs_request.specs.declared.bodies.Come.TheVariants as come
use Rattle.gcs_request.specs.declared.piece_ranges.PieceRange.{PieceRange}
use Rattle.gcs_request.specs.declared.json_bodies.GivenFault.{GivenFault}
use Rattle.gcs_request.specs.Bodies.{IsCome}
use Rattle.gcs_request.specs.Contents.{ComeLiesIn}
use Rattle.gcs_request.specs.Heading.{IsHeading}
use Rattle.gcs_request.specs.JsonBodies.{brings_json, json_kind, json_refusal}
use Rattle.gcs_request.specs.Requests.{IsBodyFault, IsGiven}
use Rattle.gcs_request.proofs.Fitting.{fits_json, fits_nothing, fits_piece, fits_read, fits_whole}
use Rattle.gcs_request.proofs.GivenLies.{said_lies}
use Rattle.gcs_request.proofs.requests.given_of.Goals as goal

-- what is read of a JSON body fits the call
json_fits : (call : Call) (part : HeadPart) (encoded : Bool) (kind : RequestKind) (read : Result Given GivenFault) → part ≡ Json encoded → kind ≡ request_kind call
    → IfOk read (λ given. (it : Call) → brings_json kind ≡ true → IsGivenOn kind it given) → IfOk read (λ given. IsGivenInLimits given)
    → IfOk read (λ given. (head : Head) → IsHeading head (Asks call part) → Fits (record { call = call; given = given }))
json_fits call part encoded kind (Ok given) is same fit limits = λ head heading.
    fits_json head call encoded given (subst (λ p. IsHeading head (Asks call p)) is heading)
    (subst (λ k. (it : Call) → brings_json k ≡ true → IsGivenOn k it given) same fit) limits
json_fits call part encoded kind (Err fault) is same fit limits = tt

-- a piece that comes has these bytes
piece_come : (most : ℕ) (bytes : List ℕ) (part : HeadPart) (range : PieceRange) (body : Come) (content : Whole) → part ≡ Piece range → body ≡ come.Piece content
    → IsCome most part bytes body → bytes_of content ≡ bytes
piece_come most bytes part range body content part_is body_is come =
    subst (IsCome most (Piece range) bytes) body_is (subst (λ p. IsCome most p bytes body) part_is come)

-- what is given of a piece fits the call
piece_fits : (call : Call) (part : HeadPart) (range : PieceRange) (made : Result Given GivenFault) → part ≡ Piece range
    → IfOk made (λ given. (it : Call) → IsGivenOn UploadPiece it given) → IfOk made (λ given. IsGivenInLimits given)
    → IfOk made (λ given. (head : Head) → IsHeading head (Asks call part) → Fits (record { call = call; given = given }))
piece_fits call part range (Ok given) is fit limits = λ head heading. fits_piece head call range given (subst (λ p. IsHeading head (Asks call p)) is heading) (fit call) limits
piece_fits call part range (Err fault) is fit limits = tt

pub returns-in-Nothing-clause-fits : goal.returns-in-Nothing-clause-fits
returns-in-Nothing-clause-fits c = λ head is.
    fits_nothing head c.args.call.now (subst (λ part. IsHeading head (Asks c.args.call.now part)) c.in-Nothing.is is)

pub returns-in-Read-clause-fits : goal.returns-in-Read-clause-fits
returns-in-Read-clause-fits c = λ head is.
    fits_read head c.args.call.now c.in-Read.range (subst (λ part. IsHeading head (Asks c.args.call.now part)) c.in-Read.is is)

pub returns-in-Content-clause-fits : goal.returns-in-Content-clause-fits
returns-in-Content-clause-fits c = λ head is.
    subst (λ body. Fits (record { call = c.args.call.now; given = given.Whole body c.in-Whole.kind c.in-Content.hashed })) (sym c.says_nothing.ensures)
    (fits_whole head c.args.call.now c.in-Whole.kind c.in-Content.hashed (subst (λ part. IsHeading head (Asks c.args.call.now part)) c.in-Whole.is is))

pub returns-in-Content-clause-lies : goal.returns-in-Content-clause-lies
returns-in-Content-clause-lies c = λ chunks lies. subst (ComeLiesIn chunks) c.in-Content.is lies

pub returns-in-Text-clause-lies : goal.returns-in-Text-clause-lies
returns-in-Text-clause-lies c =
    IfOk-weaker c.read_given.result _ _
    (λ given said chunks lies. said_lies chunks (json_kind c.kind.result) (row_of c.kind.result) c.deref.result.now given (said (length c.deref.result.now) (omega arith)).1)
    c.read_given.ensures.given

pub returns-in-Text-clause-fits : goal.returns-in-Text-clause-fits
returns-in-Text-clause-fits c =
    json_fits c.args.call.now c.args.part c.in-Json.encoded c.kind.result c.read_given.result c.in-Json.is c.kind.ensures c.read_given.ensures.fits c.read_given.ensures.limits

pub returns-in-Text-clause-refused : goal.returns-in-Text-clause-refused
returns-in-Text-clause-refused c =
    let kind : RequestKind = request_kind c.args.call.now in
    IfErr-weaker c.read_given.result _ _
    (λ fault refused reason is most bytes come.
    let it : (c.in-Text.text.items ≡ bytes) × (length bytes ≤ most) = subst (IsCome most (Json c.in-Json.encoded) bytes) c.in-Text.is (subst (λ part. IsCome most part bytes c.args.body) c.in-Json.is come) in
    let same : c.deref.result.now ≡ bytes = c.deref.ensures.value ∙ it.0 in
    let refuses = refused reason is most (subst (λ (l : List ℕ). length l ≤ most) (sym same) it.1) in
    subst (λ part. IsBodyFault most c.args.call.now part bytes reason) (sym c.in-Json.is)
    (subst (λ (l : List ℕ). json_refusal most c.in-Json.encoded kind l ≡ Some reason) same
    (subst (λ k. json_refusal most c.in-Json.encoded k c.deref.result.now ≡ Some reason) c.kind.ensures refuses)))
    c.read_given.ensures.refused

pub returns-in-Parts-clause-given : goal.returns-in-Parts-clause-given
returns-in-Parts-clause-given c =
    IfOk-weaker c.given_of_parts.result _ _
    (λ given is most bytes come. subst (λ part. IsGiven most c.args.call.now part bytes given) (sym c.in-Parts.is)
    (is most c.in-Parts.boundary bytes (subst (λ part. IsCome most part bytes c.args.body) c.in-Parts.is come)))
    c.given_of_parts.ensures.given

pub returns-in-Parts-clause-refused : goal.returns-in-Parts-clause-refused
returns-in-Parts-clause-refused c =
    IfErr-weaker c.given_of_parts.result _ _
    (λ fault refused reason is most bytes come. subst (λ part. IsBodyFault most c.args.call.now part bytes reason) (sym c.in-Parts.is)
    (refused reason is most c.in-Parts.boundary bytes (subst (λ part. IsCome most part bytes c.args.body) c.in-Parts.is come)))
    c.given_of_parts.ensures.refused

pub returns-in-Parts-clause-fits : goal.returns-in-Parts-clause-fits
returns-in-Parts-clause-fits c =
    IfOk-weaker c.given_of_parts.result _ _
    (λ given fits head is. fits head c.in-Parts.boundary (subst (λ part. IsHeading head (Asks c.args.call.now part)) c.in-Parts.is is))
    c.given_of_parts.ensures.fits

pub returns-in-Begin-clause-given : goal.returns-in-Begin-clause-given
returns-in-Begin-clause-given c =
    IfOk-weaker c.given_of_begin.result _ _
    (λ given is most bytes come. subst (λ part. IsGiven most c.args.call.now part bytes given) (sym c.in-Begin.is)
    (is most bytes (subst (λ part. IsCome most part bytes c.args.body) c.in-Begin.is come)))
    c.given_of_begin.ensures.given

pub returns-in-Begin-clause-refused : goal.returns-in-Begin-clause-refused
returns-in-Begin-clause-refused c =
    IfErr-weaker c.given_of_begin.result _ _
    (λ fault refused reason is most bytes come. subst (λ part. IsBodyFault most c.args.call.now part bytes reason) (sym c.in-Begin.is)
    (refused reason is most bytes (subst (λ part. IsCome most part bytes c.args.body) c.in-Begin.is come)))
    c.given_of_begin.ensures.refused

pub returns-in-Begin-clause-fits : goal.returns-in-Begin-clause-fits
returns-in-Begin-clause-fits c =
    IfOk-weaker c.given_of_begin.result _ _
    (λ given fits head is. fits head (subst (λ part. IsHeading head (Asks c.args.call.now part)) c.in-Begin.is is))
    c.given_of_begin.ensures.fits

pub returns-in-Piece-body-clause-given : goal.returns-in-Piece-body-clause-given
returns-in-Piece-body-clause-given c =
    IfOk-weaker c.given_of_piece.result _ _
    (λ given is most bytes come. subst (λ part. IsGiven most c.args.call.now part bytes given) (sym c.in-Piece.is)
    (is most c.args.call.now bytes (piece_come most bytes c.args.part c.in-Piece.range c.args.body c.in-Piece-body.content c.in-Piece.is c.in-Piece-body.is come)))
    c.given_of_piece.ensures.given

pub returns-in-Piece-body-clause-refused : goal.returns-in-Piece-body-clause-refused
returns-in-Piece-body-clause-refused c =
    IfErr-weaker c.given_of_piece.result _ _
    (λ fault refused reason is most bytes come. subst (λ part. IsBodyFault most c.args.call.now part bytes reason) (sym c.in-Piece.is)
    (refused reason is most c.args.call.now bytes (piece_come most bytes c.args.part c.in-Piece.range c.args.body c.in-Piece-body.content c.in-Piece.is c.in-Piece-body.is come)))
    c.given_of_piece.ensures.refused

pub returns-in-Piece-body-clause-lies : goal.returns-in-Piece-body-clause-lies
returns-in-Piece-body-clause-lies c =
    IfOk-weaker c.given_of_piece.result _ _
    (λ given is chunks lies. is chunks (subst (ComeLiesIn chunks) c.in-Piece-body.is lies)) c.given_of_piece.ensures.lies

pub returns-in-Piece-body-clause-fits : goal.returns-in-Piece-body-clause-fits
returns-in-Piece-body-clause-fits c =
    piece_fits c.args.call.now c.args.part c.in-Piece.range c.given_of_piece.result c.in-Piece.is c.given_of_piece.ensures.fits c.given_of_piece.ensures.limits
