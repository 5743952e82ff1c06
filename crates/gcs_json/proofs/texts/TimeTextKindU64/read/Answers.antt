use Rattle.std.proofs.lemmas.Grind.{common_steps}
use Rattle.std.proofs.Common.{arith}
use Rattle.gcs_time.proofs.Named.{time_of-iff, time_of-none}
use Rattle.gcs_json.proofs.texts.TimeTextKindU64.read.Goals as goal

pub returns-in-Ok : goal.returns-in-Ok
returns-in-Ok c =
    let found = (time_of-iff c.as_bytes.result.now c.in-Ok.moment).1 c.in-Ok.ensures.read in
    grind (arith, common_steps, found)

pub returns-in-Err : goal.returns-in-Err
returns-in-Err c =
    let none = time_of-none c.as_bytes.result.now c.in-Err.ensures.bad in
    grind (arith, common_steps, none)
