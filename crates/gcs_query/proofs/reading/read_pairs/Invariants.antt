use Rattle.form_urlencoded.specs.Parse.{raw_pairs_left}
use Rattle.gcs_query.proofs.Pairs.{IsReadTo}
use Rattle.gcs_query.proofs.reading.read_pairs.Given as goal

abbrev pub invariant-loop-key : goal.invariant-loop-key
invariant-loop-key l =
    (goal.iterator-loop-key).can_next l.key-iterator ×
    (goal.iterator-loop-key).is_finite l.key-iterator ×
    IsReadTo l.fn.text (raw_pairs_left l.key-iterator) l.pairs.items
