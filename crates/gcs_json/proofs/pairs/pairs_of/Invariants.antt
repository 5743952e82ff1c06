use Rattle.std.proofs.Common.{◌≡◌}
use Rattle.serde_json.specs.View.{members_view}
use Rattle.gcs_json.specs.Pairs.{pairs_of}
use Rattle.gcs_json.proofs.PairLemmas.{joined}
use Rattle.gcs_json.proofs.pairs.pairs_of.Given as goal

-- what is read and what is left make the whole
abbrev pub invariant-loop-key : goal.invariant-loop-key
invariant-loop-key l =
    joined l.pairs (pairs_of l.removes (members_view l.key-iterator)) ≡ pairs_of l.removes (members_view l.members.entries)
