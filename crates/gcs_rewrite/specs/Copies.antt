-- Copies and rewrites: the source is read, and then the destination made, once as many bytes may be done as the source has (Cloud
-- Storage JSON API, "Objects: copy" and "Objects: rewrite").
use Rattle.std.specs.Prelude.{ℕ, ◌+◌, min, nat_lt, false, length, List, [], ◌∷◌, Option, Some, None, if◌then◌else◌, option_and_then}
use Rattle.gcs_meaning.specs.declared.command.Answer.{Answer}
use Rattle.gcs_meaning.specs.declared.command.Answer.TheVariants as answer
use Rattle.gcs_meaning.specs.declared.command.Command.TheVariants as command
use Rattle.gcs_meaning.specs.declared.reason.Key.{Key}
use Rattle.gcs_meaning.specs.declared.reason.Key.TheVariants.{IfGenerationMatch, IfGenerationNotMatch, IfMetagenerationMatch, IfMetagenerationNotMatch, IfSourceGenerationMatch, IfSourceGenerationNotMatch, IfSourceMetagenerationMatch, IfSourceMetagenerationNotMatch}
use Rattle.gcs_meaning.specs.declared.reason.Reason.{Reason}
use Rattle.gcs_meaning.specs.declared.reason.Reason.TheVariants.{Condition}
use Rattle.gcs_meaning.specs.declared.rewriting.RewriteToken.{RewriteToken}
use Rattle.gcs_meaning.specs.declared.settings.Settings.{Settings}
use Rattle.gcs_meaning.specs.declared.version.Row.{Row}
use Rattle.gcs_meaning.specs.Content.{bytes_in}
use Rattle.gcs_meaning.specs.Put.{no_expect}
use Rattle.gcs_json.specs.declared.object.ObjectBody.{ObjectBody}
use Rattle.gcs_route.specs.declared.call.Call.{Call}
use Rattle.gcs_route.specs.declared.kind.RequestKind.{RequestKind}
use Rattle.gcs_route.specs.declared.kind.RequestKind.TheVariants.{ObjectRewrite}
use Rattle.gcs_route.specs.OfCall.{first_bucket, first_object, last_bucket, last_object, request_kind}
use Rattle.gcs_rewrite.specs.declared.moves.Move.{Move}
use Rattle.gcs_rewrite.specs.declared.moves.Move.TheVariants.{Say}
use Rattle.gcs_rewrite.specs.declared.replies.Reply.{Reply}
use Rattle.gcs_rewrite.specs.declared.replies.Reply.TheVariants as reply
use Rattle.gcs_rewrite.specs.Answered.{reply_of}
use Rattle.gcs_rewrite.specs.Commands.{ask_in, on_object}
use Rattle.gcs_rewrite.specs.CopyMeta.{copied_meta}
use Rattle.gcs_rewrite.specs.Tokens.{rewrite_of_token, rewrite_token}

-- ---- the source

-- the rewrite that the call's token tells of, where it has one
abbrev pub token_given : Call → Option RewriteToken
token_given call = option_and_then rewrite_of_token call.rewrite_token

-- the generation of the source: that of the token, else the one that is asked for
abbrev pub source_generation : Option RewriteToken → Call → Option ℕ
source_generation None call = call.source_generation
source_generation (Some token) call = Some token.generation

-- the read of the source
abbrev pub source_move : Call → Move
source_move call =
    on_object call (λ bucket name. command.Get bucket name (source_generation (token_given call) call) false call.source_pre)

-- the precondition by its name for a source
abbrev pub source_key : Key → Key
source_key IfGenerationMatch = IfSourceGenerationMatch
source_key IfGenerationNotMatch = IfSourceGenerationNotMatch
source_key IfMetagenerationMatch = IfSourceMetagenerationMatch
source_key IfMetagenerationNotMatch = IfSourceMetagenerationNotMatch
source_key key = key

-- the reason of a refusal, which names a precondition by its name for a source
abbrev pub source_reason : Reason → Reason
source_reason (Condition which wanted found) = Condition (source_key which) wanted found
source_reason reason = reason

-- what is said where the source isn't read
abbrev pub source_reply : Call → Answer → Reply
source_reply call (answer.Refused reason) = reply.Refused (source_reason reason)
source_reply call a = reply_of call None a

-- ---- how far a call goes

-- the size of a version
abbrev pub size_of : Row → ℕ
size_of row = length (bytes_in row.hashed)

-- the bytes that the calls before have done
abbrev pub done_before : Option RewriteToken → ℕ
done_before None = 0
done_before (Some token) = token.done

-- the bytes that are done of that size, where a call may do so many more
abbrev pub done_with : Option ℕ → ℕ → ℕ → ℕ
done_with None before size = size
done_with (Some most) before size = min size (before + most)

-- the bytes of the source that are done with this call
abbrev pub done_after : Call → Row → ℕ
done_after call row = done_with call.per_call (done_before (token_given call)) (size_of row)

-- how far the rewrite has come
abbrev pub come_to : Call → Row → RewriteToken
come_to call row = record {
  generation = row.generation;
  done = done_after call row;
  from_bucket = first_bucket call;
  from_name = first_object call;
  to_bucket = last_bucket call;
  to_name = last_object call;
}

-- what is said of a rewrite that isn't done
abbrev pub unfinished : Call → Row → Reply
unfinished call row =
    reply.Rewritten (record { size = size_of row; rewritten = done_after call row; token = Some (rewrite_token (come_to call row)) }) None

-- ---- the destination

-- the version at the destination, with the content of the source
abbrev pub destination_move : Call → ObjectBody → Row → Move
destination_move call body row =
    ask_in (last_bucket call)
    (command.Put (last_bucket call) (last_object call) call.pre (copied_meta body row.meta) row.hashed row.components no_expect)

-- what follows the read of the source
abbrev pub after_source : Call → ObjectBody → Answer → Move
after_source call body (answer.Object row settings) =
    if nat_lt (done_after call row) (size_of row) then Say (unfinished call row) else destination_move call body row
after_source call body a = Say (source_reply call a)

-- a rewrite is done with the resource of the destination, and a copy says that alone
abbrev pub copied_object : RequestKind → Row → Settings → Reply
copied_object ObjectRewrite row settings =
    reply.Rewritten (record { size = size_of row; rewritten = size_of row; token = None }) (Some (row, settings))
copied_object _ row settings = reply.Object row settings

-- what is said of the destination
abbrev pub copied_reply : Call → Answer → Reply
copied_reply call (answer.Object row settings) = copied_object (request_kind call) row settings
copied_reply call a = reply_of call None a

-- the script of a copy or a rewrite: the read of the source, and the version at the destination
abbrev pub copy_script : Call → ObjectBody → List Answer → Move
copy_script call body [] = source_move call
copy_script call body (source ∷ []) = after_source call body source
copy_script call body (source ∷ made ∷ answers) = Say (copied_reply call made)
