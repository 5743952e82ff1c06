use Rattle.std.proofs.Common.{List, String, sym, subst}
use Rattle.std.specs.declared.alloc.Global.{Global}
use Rattle.form_urlencoded.specs.Parse.{raw_pairs_left}
use Rattle.gcs_query.specs.Query.{Pair}
use Rattle.gcs_query.proofs.Pairs.{IsReadTo, read_more, all_read}
use Rattle.gcs_query.proofs.reading.read_pairs.Goals as goal

pub loop-key-preserved : goal.loop-key-preserved
loop-key-preserved c =
    let text = c.args.text.now in
    let read = c.loop-key.pairs.items in
    let left = raw_pairs_left c.next.new.self in
    let IsReadHere : List Pair → Type 0 = λ unread. IsReadTo text unread read in
    let before = subst IsReadHere c.in-Some.ensures.steps c.loop-key.invariant.2 in
    let more = read_more text left (c.in-Some.key.now, c.in-Some.value.now) read c.in-Ok.pair before c.in-Ok.ensures.text c.in-Ok.ensures.pair in
    let IsReadNow : List (String Global × String Global) → Type 0 = IsReadTo text left in
    (tt, tt, subst IsReadNow (sym c.in_ok-push_pair.ensures) more)

pub returns-clause-texts : goal.returns-clause-texts
returns-clause-texts c =
    all_read c.args.text.now (raw_pairs_left c.loop-key.key-iterator) c.loop-key.pairs.items c.in-None.ensures.steps.0 c.loop-key.invariant.2
