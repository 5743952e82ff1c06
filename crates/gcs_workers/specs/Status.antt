-- The table of statuses.
use Rattle.std.specs.Prelude.{ℕ}
use Rattle.gcs_session.specs.declared.ends.SessionEnd.{SessionEnd}
use Rattle.gcs_session.specs.declared.ends.SessionEnd.TheVariants.{Closed}
use Rattle.gcs_workers.specs.declared.serving.ServeEnd.{ServeEnd}
use Rattle.gcs_workers.specs.declared.serving.ServeEnd.TheVariants.{Ended}
use Rattle.gcs_workers.specs.declared.status.Status.{Status}
use Rattle.gcs_workers.specs.declared.status.Status.TheVariants.{Done, Refused, ReadFault, WriteFault, NoMemory, Cut, ListenFault}

-- the exit status of a way to end
abbrev pub status_number : Status → ℕ
status_number Done = 0
status_number Refused = 2
status_number ReadFault = 3
status_number WriteFault = 4
status_number NoMemory = 5
status_number Cut = 6
status_number ListenFault = 7

-- how a run of connections ends
abbrev pub end_status : ServeEnd → Status
end_status Ended = Done
end_status ServeEnd.ListenFault = ListenFault

-- how a run of one connection ends
abbrev pub session_status : SessionEnd → Status
session_status SessionEnd.Ended = Done
session_status Closed = Done
session_status SessionEnd.Cut = Cut
session_status SessionEnd.ReadFault = ReadFault
session_status SessionEnd.WriteFault = WriteFault
session_status SessionEnd.NoMemory = NoMemory
