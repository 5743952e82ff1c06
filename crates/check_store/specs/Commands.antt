-- What is asked of a shard.
use Rattle.std.specs.Prelude.{codes}
use Rattle.gcs_chunks.specs.Content.{ChunksValue}
use Rattle.gcs_meaning.specs.declared.command.Command.{Command}
use Rattle.gcs_meaning.specs.Contents.{CommandLiesIn}
use Rattle.gcs_meaning.specs.Desk.{IsOf}
use Rattle.gcs_meaning.specs.Moment.{shard_number}
use Rattle.gcs_meaning.specs.Step.{IsInRange}

-- every shard may be asked this: it is in range, and what it brings lies in all chunks
abbrev pub IsAskable : Command → Type 0
IsAskable command = IsInRange command × ((chunks : ChunksValue) → CommandLiesIn chunks command)

-- the shard of the bucket `tub` may be asked this
abbrev pub IsAskedOfTub : Command → Type 0
IsAskedOfTub command = IsAskable command × IsOf (shard_number (codes "tub")) command
