-- Which part of a content a range asks for (RFC 9110, 14.1.2).
use Rattle.std.specs.Prelude.{ℕ, ◌-◌, ◌==◌, ◌||◌, min, nat_lt, Option, Some, None, if◌then◌else◌}
use Rattle.gcs_rewrite.specs.declared.range.Range.{Range}
use Rattle.gcs_rewrite.specs.declared.range.Range.TheVariants.{Between, From, Last}

-- the first and the last byte of the part that a range asks for, where a content of that size has one
unfoldable pub part_in : Range → ℕ → Option (ℕ × ℕ)
part_in (Between first last) size = if nat_lt first size then Some (first, min last (size - 1)) else None
part_in (From first) size = if nat_lt first size then Some (first, size - 1) else None
part_in (Last n) size = if (n == 0) || (size == 0) then None else Some (size - min n size, size - 1)
