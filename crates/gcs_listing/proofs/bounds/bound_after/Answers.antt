use Rattle.std.proofs.Common.{◌≡◌, ◌∙◌, ap, sym, subst, Some}
use Rattle.std.specs.Prelude.{true, false}
use Rattle.std.proofs.lemmas.Result.{IfOk-weaker}
use Rattle.gcs_meaning.specs.declared.listing.Unit as unit
use Rattle.gcs_meaning.specs.Order.{is_below}
use Rattle.gcs_listing.specs.Seeking.{IsBound}
use Rattle.gcs_listing.proofs.BoundLemmas.{bound_after, bound_low, low_below}
use Rattle.gcs_listing.proofs.bounds.bound_after.Goals as goal

pub returns-then-is_below : goal.returns-then-is_below
returns-then-is_below c =
    let q = c.args.query.now in
    let low = c.lowest-low.result.now in
    let last = c.args.last.now in
    let below : is_below last.text low ≡ true = ap (λ t. is_below t low) (sym c.as_bytes.ensures) ∙ sym c.is_below.ensures ∙ c.if-is_below.true in
    IfOk-weaker c.new.result _ _
    (λ b e. subst (λ (m : unit.Unit). IsBound q (Some last) m) (sym e) (bound_low q (Some last) low c.lowest-low.ensures (λ row from. low_below last low below q.view row from))) c.new.ensures

pub returns-else-is_below : goal.returns-else-is_below
returns-else-is_below c =
    let q = c.args.query.now in
    let low = c.lowest-low.result.now in
    let last = c.args.last.now in
    let above : is_below last.text low ≡ false = ap (λ t. is_below t low) (sym c.as_bytes.ensures) ∙ sym c.is_below.ensures ∙ c.if-is_below.false in
    IfOk-weaker c.after_unit.result _ _ (λ b bound. bound_after q last b low c.lowest-low.ensures above bound) c.after_unit.ensures
