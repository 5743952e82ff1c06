-- A script asks only what may be asked, and sixteen times at most.
use Rattle.std.proofs.Common.{◌≡◌, ℕ, Bool, true, false, List, [], ◌∷◌, length, refl, subst, sym, arith}
use Rattle.std.specs.Prelude.{nat_lt, sum, if◌then◌else◌}
use Rattle.std.proofs.lemmas.Bool.{ltb-true}
use Rattle.std.proofs.Math.Nat.{mod-lt}
use Rattle.gcs_chunks.specs.Content.{Whole}
use Rattle.gcs_meaning.specs.declared.command.Answer.{Answer}
use Rattle.gcs_meaning.specs.declared.command.Answer.TheVariants as answer
use Rattle.gcs_meaning.specs.declared.command.Command.{Command}
use Rattle.gcs_meaning.specs.declared.version.Row.{Row}
use Rattle.gcs_meaning.specs.BucketChange.{AreSetInLimits}
use Rattle.gcs_meaning.specs.Desk.{IsOf}
use Rattle.gcs_meaning.specs.Moment.{shard_number}
use Rattle.gcs_meaning.specs.Step.{IsInRange}
use Rattle.gcs_json.specs.declared.bucket.BucketBody.{BucketBody}
use Rattle.gcs_json.specs.declared.object.ObjectBody.{ObjectBody}
use Rattle.gcs_route.specs.declared.call.Call.{Call}
use Rattle.gcs_route.specs.declared.kind.RequestKind.{RequestKind}
use Rattle.gcs_route.specs.declared.kind.RequestKind.TheVariants.{BucketInsert, BucketList, BucketGet, ObjectRewrite, ObjectCopy, UploadPiece}
use Rattle.gcs_route.specs.OfCall.{first_bucket, last_bucket, request_kind}
use Rattle.gcs_rewrite.specs.declared.moves.Move.{Move}
use Rattle.gcs_rewrite.specs.declared.moves.Move.TheVariants.{Ask, Say}
use Rattle.gcs_rewrite.specs.declared.request.Given.{Given}
use Rattle.gcs_rewrite.specs.declared.request.Given.TheVariants as given
use Rattle.gcs_rewrite.specs.declared.request.Request.{Request}
use Rattle.gcs_rewrite.specs.Commands.{ask_in, bare_move, bucket_move, bucket_named, finish_move, first_move}
use Rattle.gcs_rewrite.specs.Fits.{Fits, IsGivenInLimits}
use Rattle.gcs_rewrite.specs.Lists.{buckets_reply, list_of_shard, listed_in}
use Rattle.gcs_rewrite.specs.Copies.{after_source, destination_move, done_after, copy_script, size_of, source_move, unfinished}
use Rattle.gcs_rewrite.specs.Resumable.{resume_script}
use Rattle.gcs_rewrite.specs.Scripts.{script, script_on, single_script, MayBeAsked, MayFollow}
use Rattle.gcs_rewrite.proofs.Inserted.{inserted_in_limits}

-- what a move asks may be asked
abbrev MoveMayBeAsked : Move → Type 0
MoveMayBeAsked (Ask shard command) = MayBeAsked shard command
MoveMayBeAsked (Say reply) = Unit {0}

-- a step under a bucket
in_bucket : (bucket : List ℕ) (command : Command) → IsOf (shard_number bucket) command → IsInRange command → MoveMayBeAsked (ask_in bucket command)
in_bucket bucket command is in_range = record { within = mod-lt (sum bucket) (omega arith); belongs = is; in_range = in_range }

bucket_may : (kind : RequestKind) (call : Call) (body : BucketBody) → AreSetInLimits body.change → MoveMayBeAsked (bucket_move kind call body)
bucket_may BucketInsert call body set = in_bucket (bucket_named body) _ (refl, tt) (inserted_in_limits body set)
bucket_may _ call body set = in_bucket (first_bucket call) _ (refl, tt) set

bare_may : (kind : RequestKind) (call : Call) → MoveMayBeAsked (bare_move kind call)
bare_may BucketGet call = in_bucket (first_bucket call) _ (refl, tt) tt
bare_may _ call = in_bucket (first_bucket call) _ (refl, tt) tt

first_may : (call : Call) (given : Given) → IsGivenInLimits given → MoveMayBeAsked (first_move call given)
first_may call given.Nothing set = bare_may (request_kind call) call
first_may call (given.Read range) set = in_bucket (first_bucket call) _ (refl, tt) tt
first_may call (given.Whole body kind hashed) set = in_bucket (first_bucket call) _ (refl, tt) tt
first_may call (given.Begin body kind total host) set = in_bucket (first_bucket call) _ (refl, tt) tt
first_may call (given.Piece offset total content) set = in_bucket (first_bucket call) _ (refl, tt) tt
first_may call (given.Bucket body) set = bucket_may (request_kind call) call body set
first_may call (given.Object body) set = in_bucket (first_bucket call) _ (refl, tt) tt
first_may call (given.Compose body) set = in_bucket (first_bucket call) _ (refl, tt) set

-- a call with one step asks at most once
single_may : (call : Call) (given : Given) (ans : List Answer) → IsGivenInLimits given → MayFollow (length ans) (single_script call given ans)
single_may call given [] set = at_first (first_move call given) (first_may call given set)
  where
    at_first : (move : Move) → MoveMayBeAsked move → MayFollow 0 move
    at_first (Ask shard command) may = (may, omega arith)
    at_first (Say reply) may = tt
single_may call given (a ∷ ans) set = tt

-- a piece of a resumable upload asks twice at most
finish_may : (call : Call) (content : Whole) → MayFollow 1 (finish_move call content)
finish_may call content = (record { within = mod-lt (sum (first_bucket call)) (omega arith); belongs = (refl, tt); in_range = tt }, omega arith)

resume_may : (call : Call) (given : Given) (ans : List Answer) → IsGivenInLimits given → MayFollow (length ans) (resume_script call given ans)
resume_may call given [] set = single_may call given [] set
resume_may call given (answer.Complete content ∷ []) set = finish_may call content
resume_may call given (_ ∷ []) set = tt
resume_may call given (first ∷ second ∷ ans) set = tt

-- a list of buckets asks while fewer than sixteen answers have come
buckets_may : (call : Call) (ans : List Answer) (b : Bool) → nat_lt (length ans) 16 ≡ b
    → MayFollow (length ans) (if b then Ask (length ans) (list_of_shard call (length ans)) else Say (buckets_reply call (listed_in ans)))
buckets_may call ans true few = (record { within = ltb-true (length ans) 16 few; belongs = (tt, refl); in_range = tt }, ltb-true (length ans) 16 few)
buckets_may call ans false few = tt

-- a copy or a rewrite asks twice at most
source_may : (call : Call) → MayFollow 0 (source_move call)
source_may call = (record { within = mod-lt (sum (first_bucket call)) (omega arith); belongs = (refl, tt); in_range = tt }, omega arith)

destination_may : (call : Call) (body : ObjectBody) (row : Row) → MayFollow 1 (destination_move call body row)
destination_may call body row = (record { within = mod-lt (sum (last_bucket call)) (omega arith); belongs = (refl, tt); in_range = tt }, omega arith)

after_may : (call : Call) (body : ObjectBody) (row : Row) (unfinished_yet : Bool)
    → MayFollow 1 (if unfinished_yet then Say (unfinished call row) else destination_move call body row)
after_may call body row true = tt
after_may call body row false = destination_may call body row

second_may : (call : Call) (body : ObjectBody) (a : Answer) → MayFollow 1 (after_source call body a)
second_may call body (answer.Object row settings) = after_may call body row (nat_lt (done_after call row) (size_of row))
second_may call body _ = tt

copy_may : (call : Call) (body : ObjectBody) (ans : List Answer) → MayFollow (length ans) (copy_script call body ans)
copy_may call body [] = source_may call
copy_may call body (source ∷ []) = second_may call body source
copy_may call body (source ∷ made ∷ ans) = tt

move_may : (kind : RequestKind) (call : Call) (given : Given) (ans : List Answer) → IsGivenInLimits given → MayFollow (length ans) (script_on kind call given ans)
move_may BucketList call given ans set = buckets_may call ans (nat_lt (length ans) 16) refl
move_may ObjectRewrite call (given.Object body) ans set = copy_may call body ans
move_may ObjectCopy call (given.Object body) ans set = copy_may call body ans
move_may UploadPiece call given ans set = resume_may call given ans set
move_may _ call given ans set = single_may call given ans set

-- each move of a script may follow the answers before it
pub script_may : (request : Request) (ans : List Answer) (move : Move) → Fits request → move ≡ script request ans → MayFollow (length ans) move
unfolding script
script_may request ans move fits is = subst (MayFollow (length ans)) (sym is) (move_may (request_kind request.call) request.call request.given ans fits.limits)
