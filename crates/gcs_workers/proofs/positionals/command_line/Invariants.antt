use Rattle.std.proofs.Common.{◌≡◌, map, take}
use Rattle.gcs_workers.specs.Positionals.{behind_dashes}
use Rattle.gcs_workers.proofs.positionals.command_line.Given as goal

abbrev pub invariant-loop-word : goal.invariant-loop-word
invariant-loop-word l = map (λ s. s.now) l.line.items ≡ behind_dashes (take l.word-index l.words)
