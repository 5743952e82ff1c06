-- An entry of the store's histories, and the same entry as a turn has it.
use Rattle.gcs_meaning.specs.declared.command.Command.{Command}
use Rattle.gcs_meaning.specs.declared.command.Entry.{Entry}
use Rattle.gcs_turn.specs.declared.object.Entry.{Entry as Turned}

-- the entry as a turn has it
abbrev pub turned : Entry → Turned Command
turned e = record { caller = e.caller; number = e.number; moment = e.moment; command = e.command }

-- the entry that a turn has
abbrev pub meant : Turned Command → Entry
meant e = record { caller = e.caller; number = e.number; moment = e.moment; command = e.command }
