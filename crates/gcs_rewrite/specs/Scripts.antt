-- The script of a request: its next move after the answers so far.
use Rattle.std.specs.Prelude.{ℕ, ◌<◌, List, [], ◌∷◌}
use Rattle.gcs_meaning.specs.declared.command.Answer.{Answer}
use Rattle.gcs_meaning.specs.declared.command.Command.{Command}
use Rattle.gcs_meaning.specs.Desk.{IsOf}
use Rattle.gcs_meaning.specs.Step.{IsInRange}
use Rattle.gcs_route.specs.declared.call.Call.{Call}
use Rattle.gcs_route.specs.declared.kind.RequestKind.{RequestKind}
use Rattle.gcs_route.specs.declared.kind.RequestKind.TheVariants.{BucketList, ObjectRewrite, ObjectCopy, UploadPiece}
use Rattle.gcs_route.specs.OfCall.{request_kind}
use Rattle.gcs_rewrite.specs.declared.moves.Move.{Move}
use Rattle.gcs_rewrite.specs.declared.moves.Move.TheVariants.{Ask, Say}
use Rattle.gcs_rewrite.specs.declared.request.Given.{Given}
use Rattle.gcs_rewrite.specs.declared.request.Given.TheVariants as given
use Rattle.gcs_rewrite.specs.declared.request.Request.{Request}
use Rattle.gcs_rewrite.specs.Answered.{range_given, reply_of}
use Rattle.gcs_rewrite.specs.Commands.{first_move}
use Rattle.gcs_rewrite.specs.Lists.{buckets_script}
use Rattle.gcs_rewrite.specs.Copies.{copy_script}
use Rattle.gcs_rewrite.specs.Resumable.{resume_script}

-- the script of a call with one step
abbrev pub single_script : Call → Given → List Answer → Move
single_script call given [] = first_move call given
single_script call given (a ∷ answers) = Say (reply_of call (range_given given) a)

-- the next move of a request of that kind after these answers
abbrev pub script_on : RequestKind → Call → Given → List Answer → Move
script_on BucketList call given answers = buckets_script call answers
script_on ObjectRewrite call (given.Object body) answers = copy_script call body answers
script_on ObjectCopy call (given.Object body) answers = copy_script call body answers
script_on UploadPiece call given answers = resume_script call given answers
script_on _ call given answers = single_script call given answers

-- the next move of a request after these answers
unfoldable pub script : Request → List Answer → Move
script request answers = script_on (request_kind request.call) request.call request.given answers

-- a shard may be asked for a command: it is one of the sixteen, and the command belongs to it and has its numbers in their limits
pub record MayBeAsked (shard : ℕ) (command : Command) : Type 0 where
  pub within : shard < 16
  pub belongs : IsOf shard command
  pub in_range : IsInRange command

-- a move may come after so many answers: what it asks may be asked, and it is one of the first sixteen steps
abbrev pub MayFollow : ℕ → Move → Type 0
MayFollow count (Ask shard command) = MayBeAsked shard command × (count < 16)
MayFollow count (Say reply) = Unit {0}
