-- What a clock in memory shows.
use Rattle.std.specs.Prelude.{ℕ, ◌^◌, ◌-◌, nat_lt, List, Option, Some, None, if◌then◌else◌}
use Rattle.gcs_io.specs.Readings.{readings}
use Rattle.gcs_io.specs.declared.clock.ListClock.{ListClock}

-- the readings that it gave, as long as their number can be kept
abbrev pub clock_given : ListClock → Option (List ℕ)
clock_given c = if nat_lt c.calls (2 ^ 64 - 1) then Some (readings c.list.items c.calls) else None

-- the readings that it goes through
abbrev pub clock_list : ListClock → List ℕ
clock_list c = c.list.items
