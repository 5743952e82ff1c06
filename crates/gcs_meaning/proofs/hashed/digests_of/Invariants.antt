use Rattle.std.proofs.Common.{◌≤◌, ◌-◌, length, take}
use Rattle.gcs_chunks.specs.Content.{bytes_of}
use Rattle.gcs_crc.specs.Digests.{StandsAfter}
use Rattle.gcs_meaning.proofs.hashed.digests_of.Given as goal

abbrev pub invariant-loop-at : goal.invariant-loop-at
invariant-loop-at l = (l.at ≤ length (bytes_of l.content)) × StandsAfter l.digests (take l.at (bytes_of l.content))

abbrev pub decreases-loop-at : goal.decreases-loop-at
decreases-loop-at l = length (bytes_of l.content) - l.at
