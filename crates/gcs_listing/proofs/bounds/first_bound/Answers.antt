use Rattle.std.proofs.Common.{ap, sym, subst}
use Rattle.std.proofs.lemmas.Result.{IfOk-weaker}
use Rattle.gcs_meaning.specs.declared.listing.Unit as unit
use Rattle.gcs_meaning.specs.Listing.{is_after, item_of}
use Rattle.gcs_listing.specs.Seeking.{IsBound}
use Rattle.gcs_listing.proofs.BoundLemmas.{bound_low}
use Rattle.gcs_listing.proofs.bounds.first_bound.Goals as goal

pub returns-in-None : goal.returns-in-None
returns-in-None c =
    let q = c.args.query.now in
    let low = c.lowest.result.now in
    IfOk-weaker c.new.result _ _ (λ b e. subst (λ (m : unit.Unit). IsBound q q.after m) (sym e)
    (bound_low q q.after low c.lowest.ensures (λ row from. ap (λ o. is_after o (item_of q.view row)) c.in-None.is))) c.new.ensures
