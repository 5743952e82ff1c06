use Rattle.std.proofs.Common.{arith, ◌<◌, ◌-◌, ◌^◌, nat_lt}
use Rattle.std.proofs.lemmas.Bool.{ltb-true, lt-ltb}
use Rattle.gcs_io.proofs.ReadingLemmas.{one_more}
use Rattle.gcs_io.proofs.clock.ListClockClock.now.Goals as goal

pub returns-clause-given : goal.returns-clause-given
returns-clause-given c =
    let n = c.args.self.now.calls in
    let k = c.saturating_add-self.result in
    rw (c.reading-moment.ensures, c.deref.ensures.value)
    (one_more c.args.self.now.list.items n k (nat_lt n (2 ^ 64 - 1)) (nat_lt k (2 ^ 64 - 1))
    (λ h. let low : n < 2 ^ 64 - 1 = ltb-true n (2 ^ 64 - 1) h in omega (arith, c.saturating_add-self.ensures))
    (λ h. let low : k < 2 ^ 64 - 1 = ltb-true k (2 ^ 64 - 1) h in lt-ltb n (2 ^ 64 - 1) (omega (arith, c.saturating_add-self.ensures))))
