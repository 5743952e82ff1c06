-- Each move is that of the script, may come after the answers so far, and lies where they and the request lie.
use Rattle.std.proofs.Common.{◌≡◌, ◌≢◌, ◌∙◌, ◌⊎◌, inl, inr, List, ap, refl, sym}
use Rattle.std.proofs.lemmas.Result.{IfOk-weaker}
use Rattle.gcs_meaning.specs.declared.command.Answer.{Answer}
use Rattle.gcs_json.specs.declared.object.ObjectBody.{ObjectBody}
use Rattle.gcs_route.specs.declared.call.Call.{Call}
use Rattle.gcs_route.specs.declared.kind.RequestKind.{RequestKind}
use Rattle.gcs_route.specs.declared.kind.RequestKind.TheVariants.{BucketList, ObjectRewrite, ObjectCopy, UploadPiece}
use Rattle.gcs_route.specs.OfCall.{request_kind}
use Rattle.gcs_rewrite.specs.declared.request.Given.{Given}
use Rattle.gcs_rewrite.specs.declared.request.Given.TheVariants as given
use Rattle.gcs_rewrite.specs.declared.request.Request.{Request}
use Rattle.gcs_rewrite.specs.Lists.{buckets_script}
use Rattle.gcs_rewrite.specs.Copies.{copy_script}
use Rattle.gcs_rewrite.specs.Resumable.{resume_script}
use Rattle.gcs_rewrite.specs.Scripts.{script, script_on, single_script}
use Rattle.gcs_rewrite.proofs.Allowed.{script_may}
use Rattle.gcs_rewrite.proofs.ScriptLies.{script_lies}
use Rattle.gcs_rewrite.proofs.script.next.Goals as goal

-- the script of a list of buckets, that of a piece, and that of every other call
of_buckets : (request : Request) (answers : List Answer) → BucketList ≡ request_kind request.call → buckets_script request.call answers ≡ script request answers
unfolding script
of_buckets request answers is = ap (λ kind. script_on kind request.call request.given answers) is

of_pieces : (request : Request) (answers : List Answer) → UploadPiece ≡ request_kind request.call → resume_script request.call request.given answers ≡ script request answers
unfolding script
of_pieces request answers is = ap (λ kind. script_on kind request.call request.given answers) is

single_on : (kind : RequestKind) (call : Call) (given : Given) (answers : List Answer) → kind ≢ BucketList → kind ≢ ObjectRewrite → kind ≢ ObjectCopy → kind ≢ UploadPiece
    → single_script call given answers ≡ script_on kind call given answers
single_on BucketList call given answers list rewrite copy piece = absurd (list refl)
single_on ObjectRewrite call given answers list rewrite copy piece = absurd (rewrite refl)
single_on ObjectCopy call given answers list rewrite copy piece = absurd (copy refl)
single_on UploadPiece call given answers list rewrite copy piece = absurd (piece refl)
single_on _ call given answers list rewrite copy piece = refl

of_others : (request : Request) (answers : List Answer) → request_kind request.call ≢ BucketList → request_kind request.call ≢ ObjectRewrite → request_kind request.call ≢ ObjectCopy → request_kind request.call ≢ UploadPiece
    → single_script request.call request.given answers ≡ script request answers
unfolding script
of_others request answers list rewrite copy piece = single_on (request_kind request.call) request.call request.given answers list rewrite copy piece

pub returns-in-BucketList-clause-next : goal.returns-in-BucketList-clause-next
returns-in-BucketList-clause-next c =
    IfOk-weaker c.list_buckets.result _ _ (λ next is. is ∙ of_buckets c.args.request.now c.args.answers.now c.in-BucketList.ensures) c.list_buckets.ensures

pub returns-in-BucketList-clause-allowed : goal.returns-in-BucketList-clause-allowed
returns-in-BucketList-clause-allowed c =
    IfOk-weaker c.list_buckets.result _ _
    (λ next is. script_may c.args.request.now c.args.answers.now next c.requires.fits (is ∙ of_buckets c.args.request.now c.args.answers.now c.in-BucketList.ensures))
    c.list_buckets.ensures

pub returns-in-BucketList-clause-lies : goal.returns-in-BucketList-clause-lies
returns-in-BucketList-clause-lies c =
    IfOk-weaker c.list_buckets.result _ _
    (λ next is. script_lies c.args.chunks.now c.args.request.now c.args.answers.now next c.requires.contents c.requires.answers (is ∙ of_buckets c.args.request.now c.args.answers.now c.in-BucketList.ensures))
    c.list_buckets.ensures

pub returns-in-UploadPiece-clause-next : goal.returns-in-UploadPiece-clause-next
returns-in-UploadPiece-clause-next c =
    IfOk-weaker c.next_piece.result _ _ (λ next is. is ∙ of_pieces c.args.request.now c.args.answers.now c.in-UploadPiece.ensures) c.next_piece.ensures

pub returns-in-UploadPiece-clause-allowed : goal.returns-in-UploadPiece-clause-allowed
returns-in-UploadPiece-clause-allowed c =
    IfOk-weaker c.next_piece.result _ _
    (λ next is. script_may c.args.request.now c.args.answers.now next c.requires.fits (is ∙ of_pieces c.args.request.now c.args.answers.now c.in-UploadPiece.ensures))
    c.next_piece.ensures

pub returns-in-UploadPiece-clause-lies : goal.returns-in-UploadPiece-clause-lies
returns-in-UploadPiece-clause-lies c =
    IfOk-weaker c.next_piece.result _ _
    (λ next is. script_lies c.args.chunks.now c.args.request.now c.args.answers.now next c.requires.contents c.requires.answers (is ∙ of_pieces c.args.request.now c.args.answers.now c.in-UploadPiece.ensures))
    c.next_piece.ensures

pub returns-in_default : goal.returns-in_default
returns-in_default c =
    let same = of_others c.args.request.now c.args.answers.now (λ is. c.in_default.not-BucketList (c.kind.ensures ∙ is)) (λ is. c.in_default.not-ObjectRewrite (c.kind.ensures ∙ is)) (λ is. c.in_default.not-ObjectCopy (c.kind.ensures ∙ is)) (λ is. c.in_default.not-UploadPiece (c.kind.ensures ∙ is)) in
    record {
      next = IfOk-weaker c.next_single.result _ _ (λ next is. is ∙ same) c.next_single.ensures;
      allowed = IfOk-weaker c.next_single.result _ _ (λ next is. script_may c.args.request.now c.args.answers.now next c.requires.fits (is ∙ same)) c.next_single.ensures;
      lies = IfOk-weaker c.next_single.result _ _ (λ next is. script_lies c.args.chunks.now c.args.request.now c.args.answers.now next c.requires.contents c.requires.answers (is ∙ same)) c.next_single.ensures;
    }

copy_on : (kind : RequestKind) (call : Call) (body : ObjectBody) (answers : List Answer) → (kind ≡ ObjectRewrite) ⊎ (kind ≡ ObjectCopy)
    → copy_script call body answers ≡ script_on kind call (given.Object body) answers
copy_on kind call body answers (inl is) = ap (λ k. script_on k call (given.Object body) answers) (sym is)
copy_on kind call body answers (inr is) = ap (λ k. script_on k call (given.Object body) answers) (sym is)

-- the script of a copy or a rewrite
of_copy : (request : Request) (kind : RequestKind) (body : ObjectBody) (answers : List Answer) → (kind ≡ ObjectRewrite) ⊎ (kind ≡ ObjectCopy)
    → kind ≡ request_kind request.call → request.given ≡ given.Object body → copy_script request.call body answers ≡ script request answers
unfolding script
of_copy request kind body answers copies is body_is =
    copy_on kind request.call body answers copies
    ∙ ap (λ k. script_on k request.call (given.Object body) answers) is
    ∙ ap (λ g. script_on (request_kind request.call) request.call g answers) (sym body_is)

pub returns-in-Object-clause-next : goal.returns-in-Object-clause-next
returns-in-Object-clause-next c =
    let same = of_copy c.args.request.now c.kind.result c.in-Object.body c.args.answers.now c.in-ObjectRewrite.is c.kind.ensures c.in-Object.is in
    IfOk-weaker c.next_copy.result _ _ (λ next is. is ∙ same) c.next_copy.ensures

pub returns-in-Object-clause-allowed : goal.returns-in-Object-clause-allowed
returns-in-Object-clause-allowed c =
    let same = of_copy c.args.request.now c.kind.result c.in-Object.body c.args.answers.now c.in-ObjectRewrite.is c.kind.ensures c.in-Object.is in
    IfOk-weaker c.next_copy.result _ _ (λ next is. script_may c.args.request.now c.args.answers.now next c.requires.fits (is ∙ same)) c.next_copy.ensures

pub returns-in-Object-clause-lies : goal.returns-in-Object-clause-lies
returns-in-Object-clause-lies c =
    let same = of_copy c.args.request.now c.kind.result c.in-Object.body c.args.answers.now c.in-ObjectRewrite.is c.kind.ensures c.in-Object.is in
    IfOk-weaker c.next_copy.result _ _ (λ next is. script_lies c.args.chunks.now c.args.request.now c.args.answers.now next c.requires.contents c.requires.answers (is ∙ same)) c.next_copy.ensures
