use Rattle.std.proofs.Common.{arith}
use Rattle.check_pages.proofs.looks.find.Goals as goal

pub returns-clause-few : goal.returns-clause-few
returns-clause-few g c few = omega (arith, c.get.ensures.looks 16 (omega (arith, few)))
