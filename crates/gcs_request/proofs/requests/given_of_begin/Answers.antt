-- What begins is what the body says beside what the head gives, and fits the call.
use Rattle.std.proofs.Common.{refl}
use Rattle.gcs_request.proofs.Fitting.{fits_begin}
use Rattle.gcs_request.proofs.requests.given_of_begin.Goals as goal

pub returns-in-Ok-clause-given : goal.returns-in-Ok-clause-given
returns-in-Ok-clause-given c = λ most bytes come. (refl, refl, refl, c.in-Ok.ensures.begun most bytes come)

pub returns-in-Ok-clause-fits : goal.returns-in-Ok-clause-fits
returns-in-Ok-clause-fits c = λ head is.
    fits_begin head c.args.call.now c.args.kind c.args.total c.args.host c.args.encoded c.in-Ok.body c.in-Ok.ensures.named is
