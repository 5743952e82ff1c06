use Rattle.std.proofs.Common.{◌≡◌, take}
use Rattle.gcs_chunks.specs.Content.{parts_bytes, parts_in}
use Rattle.gcs_chunks.proofs.content.are_same.Given as goal

-- so far the bytes of both are equal
abbrev pub invariant-loop-place : goal.invariant-loop-place
invariant-loop-place l = parts_bytes (parts_in (take l.place l.spans)) ≡ parts_bytes (parts_in (take l.place l.others))
