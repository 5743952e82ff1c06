-- What a script asks and says lies in the chunks in which its request and the answers so far lie.
use Rattle.std.proofs.Common.{◌≡◌, ℕ, Bool, true, false, List, [], ◌∷◌, Option, Some, None, length, subst, sym}
use Rattle.std.specs.Prelude.{nat_lt, if◌then◌else◌}
use Rattle.gcs_chunks.specs.Content.{ChunksValue}
use Rattle.gcs_meaning.specs.declared.command.Answer.{Answer}
use Rattle.gcs_meaning.specs.declared.command.Answer.TheVariants as answer
use Rattle.gcs_meaning.specs.declared.reason.Reason.{Reason}
use Rattle.gcs_meaning.specs.declared.settings.Settings.{Settings}
use Rattle.gcs_meaning.specs.declared.version.Row.{Row}
use Rattle.gcs_meaning.specs.Content.{bytes_in}
use Rattle.gcs_meaning.specs.Contents.{AnswerLiesIn, RowLiesIn}
use Rattle.gcs_json.specs.declared.bucket.BucketBody.{BucketBody}
use Rattle.gcs_json.specs.declared.object.ObjectBody.{ObjectBody}
use Rattle.gcs_route.specs.declared.call.Call.{Call}
use Rattle.gcs_route.specs.declared.kind.RequestKind.{RequestKind}
use Rattle.gcs_route.specs.declared.kind.RequestKind.TheVariants.{BucketInsert, BucketList, BucketGet, ObjectRewrite, ObjectCopy, UploadPiece}
use Rattle.gcs_route.specs.OfCall.{request_kind}
use Rattle.gcs_rewrite.specs.declared.moves.Move.{Move}
use Rattle.gcs_rewrite.specs.declared.moves.Move.TheVariants.{Ask, Say}
use Rattle.gcs_rewrite.specs.declared.range.Range.{Range}
use Rattle.gcs_rewrite.specs.declared.replies.Reply.TheVariants as reply
use Rattle.gcs_rewrite.specs.declared.request.Given.{Given}
use Rattle.gcs_rewrite.specs.declared.request.Given.TheVariants as given
use Rattle.gcs_rewrite.specs.declared.request.Request.{Request}
use Rattle.gcs_rewrite.specs.Answered.{is_unchanged, part_reply, range_given, range_reply, reply_of}
use Rattle.gcs_rewrite.specs.Commands.{bare_move, bucket_move, first_move}
use Rattle.gcs_rewrite.specs.Contents.{AnswersLieIn, GivenLiesIn, MoveLiesIn, ReplyLiesIn, RequestLiesIn}
use Rattle.gcs_rewrite.specs.Copies.{after_source, copied_object, copied_reply, copy_script, destination_move, done_after, size_of, source_reply, unfinished}
use Rattle.gcs_rewrite.specs.Lists.{buckets_reply, list_of_shard, listed_in}
use Rattle.gcs_rewrite.specs.Ranges.{part_in}
use Rattle.gcs_rewrite.specs.Resumable.{resume_script}
use Rattle.gcs_rewrite.specs.Scripts.{script, script_on, single_script}

module _ (chunks : ChunksValue) where
  -- ---- the first command
  bucket_lies : (kind : RequestKind) (call : Call) (body : BucketBody) → MoveLiesIn chunks (bucket_move kind call body)
  bucket_lies BucketInsert call body = tt
  bucket_lies _ call body = tt

  bare_lies : (kind : RequestKind) (call : Call) → MoveLiesIn chunks (bare_move kind call)
  bare_lies BucketGet call = tt
  bare_lies _ call = tt

  first_lies : (call : Call) (given : Given) → GivenLiesIn chunks given → MoveLiesIn chunks (first_move call given)
  first_lies call given.Nothing lies = bare_lies (request_kind call) call
  first_lies call (given.Read range) lies = tt
  first_lies call (given.Whole body kind hashed) lies = lies
  first_lies call (given.Begin body kind total host) lies = tt
  first_lies call (given.Piece offset total content) lies = lies
  first_lies call (given.Bucket body) lies = bucket_lies (request_kind call) call body
  first_lies call (given.Object body) lies = tt
  first_lies call (given.Compose body) lies = tt

  -- ---- what is said of an answer
  part_lies : (part : Option (ℕ × ℕ)) (row : Row) → RowLiesIn chunks row → ReplyLiesIn chunks (part_reply part row)
  part_lies None row lies = tt
  part_lies (Some part) row lies = lies

  range_lies : (range : Option Range) (row : Row) → RowLiesIn chunks row → ReplyLiesIn chunks (range_reply range row)
  unfolding range_reply
  range_lies None row lies = lies
  range_lies (Some range) row lies = part_lies (part_in range (length (bytes_in row.hashed))) row lies

  object_lies : (media : Bool) (range : Option Range) (row : Row) (settings : Settings) → RowLiesIn chunks row
      → ReplyLiesIn chunks (if media then range_reply range row else reply.Object row settings)
  object_lies true range row settings lies = range_lies range row lies
  object_lies false range row settings lies = tt

  refusal_lies : (unchanged : Bool) (reason : Reason) → ReplyLiesIn chunks (if unchanged then reply.NotModified else reply.Refused reason)
  refusal_lies true reason = tt
  refusal_lies false reason = tt

  reply_lies : (call : Call) (range : Option Range) (a : Answer) → AnswerLiesIn chunks a → ReplyLiesIn chunks (reply_of call range a)
  reply_lies call range (answer.Object row settings) lies = object_lies call.media range row settings lies
  reply_lies call range (answer.Refused reason) lies = refusal_lies (is_unchanged (request_kind call) reason) reason
  reply_lies call range _ lies = tt

  -- ---- the script of a call with one step, and that of a piece
  single_lies : (call : Call) (given : Given) (ans : List Answer) → GivenLiesIn chunks given → AnswersLieIn chunks ans → MoveLiesIn chunks (single_script call given ans)
  single_lies call given [] lies told = first_lies call given lies
  single_lies call given (a ∷ ans) lies told = reply_lies call (range_given given) a told.0

  resume_lies : (call : Call) (given : Given) (ans : List Answer) → GivenLiesIn chunks given → AnswersLieIn chunks ans → MoveLiesIn chunks (resume_script call given ans)
  resume_lies call given [] lies told = first_lies call given lies
  resume_lies call given (answer.Complete content ∷ []) lies told = told.0
  resume_lies call given (a ∷ []) lies told = reply_lies call (range_given given) a told.0
  resume_lies call given (a ∷ b ∷ ans) lies told = reply_lies call (range_given given) b told.1.0

  -- ---- the script of a list of buckets
  buckets_lie : (call : Call) (ans : List Answer) (asks : Bool)
      → MoveLiesIn chunks (if asks then Ask (length ans) (list_of_shard call (length ans)) else Say (buckets_reply call (listed_in ans)))
  buckets_lie call ans true = tt
  buckets_lie call ans false = tt

  -- ---- the script of a copy or a rewrite: the destination has the content of the source
  source_lies : (call : Call) (a : Answer) → AnswerLiesIn chunks a → ReplyLiesIn chunks (source_reply call a)
  source_lies call (answer.Refused reason) lies = tt
  source_lies call a lies = reply_lies call None a lies

  destination_lies : (call : Call) (body : ObjectBody) (row : Row) (unfinished_yet : Bool) → RowLiesIn chunks row
      → MoveLiesIn chunks (if unfinished_yet then Say (unfinished call row) else destination_move call body row)
  destination_lies call body row true lies = tt
  destination_lies call body row false lies = lies

  after_lies : (call : Call) (body : ObjectBody) (a : Answer) → AnswerLiesIn chunks a → MoveLiesIn chunks (after_source call body a)
  after_lies call body (answer.Object row settings) lies = destination_lies call body row (nat_lt (done_after call row) (size_of row)) lies
  after_lies call body a lies = source_lies call a lies

  made_lies : (kind : RequestKind) (row : Row) (settings : Settings) → ReplyLiesIn chunks (copied_object kind row settings)
  made_lies ObjectRewrite row settings = tt
  made_lies _ row settings = tt

  copied_lies : (call : Call) (a : Answer) → AnswerLiesIn chunks a → ReplyLiesIn chunks (copied_reply call a)
  copied_lies call (answer.Object row settings) lies = made_lies (request_kind call) row settings
  copied_lies call a lies = reply_lies call None a lies

  copy_lies : (call : Call) (body : ObjectBody) (ans : List Answer) → AnswersLieIn chunks ans → MoveLiesIn chunks (copy_script call body ans)
  copy_lies call body [] told = tt
  copy_lies call body (source ∷ []) told = after_lies call body source told.0
  copy_lies call body (source ∷ made ∷ ans) told = copied_lies call made told.1.0

  move_lies : (kind : RequestKind) (call : Call) (given : Given) (ans : List Answer) → GivenLiesIn chunks given → AnswersLieIn chunks ans → MoveLiesIn chunks (script_on kind call given ans)
  move_lies BucketList call given ans lies told = buckets_lie call ans (nat_lt (length ans) 16)
  move_lies ObjectRewrite call (given.Object body) ans lies told = copy_lies call body ans told
  move_lies ObjectCopy call (given.Object body) ans lies told = copy_lies call body ans told
  move_lies UploadPiece call given ans lies told = resume_lies call given ans lies told
  move_lies _ call given ans lies told = single_lies call given ans lies told

  -- each move of a script lies where its request and the answers do
  pub script_lies : (request : Request) (ans : List Answer) (move : Move) → RequestLiesIn chunks request → AnswersLieIn chunks ans → move ≡ script request ans → MoveLiesIn chunks move
  unfolding script
  script_lies request ans move lies told is =
      subst (MoveLiesIn chunks) (sym is) (move_lies (request_kind request.call) request.call request.given ans lies told)
