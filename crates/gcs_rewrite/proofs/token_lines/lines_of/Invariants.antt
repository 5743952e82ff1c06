use Rattle.std.proofs.Common.{◌≡◌, map, length, ◌++◌}
use Rattle.gcs_rewrite.specs.Tokens.{first_line, lines_of}
use Rattle.gcs_rewrite.proofs.token_lines.lines_of.Given as goal

-- the lines so far, and those of what is left
abbrev pub invariant-loop-at : goal.invariant-loop-at
invariant-loop-at l = (lines_of l.fn.text ≡ map (λ s. s.now) l.lines.items ++ lines_of l.rest) × (l.at ≡ length (first_line l.rest))

abbrev pub decreases-loop-at : goal.decreases-loop-at
decreases-loop-at l = length l.rest
