use Rattle.std.proofs.Common.{◌∙◌, ◌≤◌, ◌++◌, ◌∷◌, [], ap, sym, subst, arith}
use Rattle.std.proofs.lemmas.Result.{IfOk-weaker}
use Rattle.gcs_meaning.specs.declared.listing.Unit as unit
use Rattle.gcs_meaning.specs.declared.listing.View.TheVariants.{Live}
use Rattle.gcs_meaning.specs.Order.{unit_at}
use Rattle.gcs_listing.specs.Seeking.{IsAfterBound}
use Rattle.gcs_listing.proofs.BoundLemmas.{after_zero, after_item}
use Rattle.gcs_listing.proofs.bounds.after_live.Goals as goal

pub returns-then-last-eq0 : goal.returns-then-last-eq0
returns-then-last-eq0 c =
    IfOk-weaker c.new.result _ _ (λ b e. subst (λ (m : unit.Unit). IsAfterBound Live c.args.last.now m) (sym (e ∙ ap (λ t. unit_at t 0) c.as_bytes.ensures)) (after_zero c.args.last.now c.if-last-eq0.true)) c.new.ensures

pub returns-else-last-eq0 : goal.returns-else-last-eq0
returns-else-last-eq0 c =
    let one : 1 ≤ c.args.last.now.number = omega arith in
    IfOk-weaker c.next_text.result _ _ (λ b e. subst (λ (m : unit.Unit). IsAfterBound Live c.args.last.now m) (sym (e ∙ ap (λ t. unit_at (t ++ 0 ∷ []) 0) c.as_bytes-else-last-eq0.ensures)) (after_item c.args.last.now one)) c.next_text.ensures
