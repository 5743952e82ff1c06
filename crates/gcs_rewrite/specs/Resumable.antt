-- Resumable uploads: their pieces are kept one after the other, and the one that completes an upload finishes it (Cloud Storage,
-- "Resumable uploads").
use Rattle.std.specs.Prelude.{List, [], ◌∷◌}
use Rattle.gcs_meaning.specs.declared.command.Answer.{Answer}
use Rattle.gcs_meaning.specs.declared.command.Answer.TheVariants as answer
use Rattle.gcs_route.specs.declared.call.Call.{Call}
use Rattle.gcs_rewrite.specs.declared.moves.Move.{Move}
use Rattle.gcs_rewrite.specs.declared.moves.Move.TheVariants.{Say}
use Rattle.gcs_rewrite.specs.declared.request.Given.{Given}
use Rattle.gcs_rewrite.specs.Answered.{range_given, reply_of}
use Rattle.gcs_rewrite.specs.Commands.{finish_move, first_move}

-- the script of a piece: it is added to its upload, which is finished where it is complete
abbrev pub resume_script : Call → Given → List Answer → Move
resume_script call given [] = first_move call given
resume_script call given (answer.Complete content ∷ []) = finish_move call content
resume_script call given (a ∷ []) = Say (reply_of call (range_given given) a)
resume_script call given (a ∷ b ∷ answers) = Say (reply_of call (range_given given) b)
