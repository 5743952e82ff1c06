-- Which requests, answers and moves lie in which chunks.
use Rattle.std.specs.Prelude.{List}
use Rattle.std.specs.List.{AllByRecursion}
use Rattle.gcs_chunks.specs.Content.{ChunksValue, ContentLiesIn}
use Rattle.gcs_meaning.specs.declared.command.Answer.{Answer}
use Rattle.gcs_meaning.specs.Contents.{AnswerLiesIn, CommandLiesIn, HashedLiesIn, RowLiesIn}
use Rattle.gcs_rewrite.specs.declared.moves.Move.{Move}
use Rattle.gcs_rewrite.specs.declared.moves.Move.TheVariants.{Ask, Say}
use Rattle.gcs_rewrite.specs.declared.replies.Reply.{Reply}
use Rattle.gcs_rewrite.specs.declared.replies.Reply.TheVariants.{Media}
use Rattle.gcs_rewrite.specs.declared.request.Given.{Given}
use Rattle.gcs_rewrite.specs.declared.request.Given.TheVariants.{Whole, Piece}
use Rattle.gcs_rewrite.specs.declared.request.Request.{Request}

-- what a message gives beside its call: the content of an upload, or a piece of one
abbrev pub GivenLiesIn : ChunksValue → Given → Type 0
GivenLiesIn chunks (Whole body kind hashed) = HashedLiesIn chunks hashed
GivenLiesIn chunks (Piece offset total content) = ContentLiesIn chunks content
GivenLiesIn chunks _ = Unit {0}

-- a request
abbrev pub RequestLiesIn : ChunksValue → Request → Type 0
RequestLiesIn chunks request = GivenLiesIn chunks request.given

-- the answers to what a request asked so far
abbrev pub AnswersLieIn : ChunksValue → List Answer → Type 0
AnswersLieIn chunks answers = AllByRecursion (AnswerLiesIn chunks) answers

-- a reply: the version whose bytes it gives. No other reply gives bytes of a content
abbrev pub ReplyLiesIn : ChunksValue → Reply → Type 0
ReplyLiesIn chunks (Media row part) = RowLiesIn chunks row
ReplyLiesIn chunks _ = Unit {0}

-- a move: the command that it asks, or what it says
abbrev pub MoveLiesIn : ChunksValue → Move → Type 0
MoveLiesIn chunks (Ask shard command) = CommandLiesIn chunks command
MoveLiesIn chunks (Say reply) = ReplyLiesIn chunks reply
