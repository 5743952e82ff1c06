use Rattle.std.proofs.Common.{◌≤◌, ◌+◌, sym, subst, arith}
use Rattle.std.specs.Prelude.{◌^◌}
use Rattle.std.proofs.lemmas.Result.{IfOk-weaker}
use Rattle.gcs_meaning.specs.declared.listing.Unit as unit
use Rattle.gcs_meaning.specs.declared.listing.View.TheVariants.{Versions}
use Rattle.gcs_meaning.specs.Order.{unit_at}
use Rattle.gcs_listing.specs.Seeking.{IsAfterBound}
use Rattle.gcs_listing.proofs.BoundLemmas.{after_last, after_number}
use Rattle.gcs_listing.proofs.bounds.after_version.Goals as goal

pub returns-then-generation-lt18446744073709551615 : goal.returns-then-generation-lt18446744073709551615
returns-then-generation-lt18446744073709551615 c =
    let last = unit_at c.args.name.now c.args.generation in
    IfOk-weaker c.new.result _ _ (λ b e. subst (λ (m : unit.Unit). IsAfterBound Versions last m) (sym e) (after_number last)) c.new.ensures

pub returns-else-generation-lt18446744073709551615 : goal.returns-else-generation-lt18446744073709551615
returns-else-generation-lt18446744073709551615 c =
    let last = unit_at c.args.name.now c.args.generation in
    let end : 2 ^ 64 ≤ c.args.generation + 1 = omega arith in
    IfOk-weaker c.next_text.result _ _ (λ b e. subst (λ (m : unit.Unit). IsAfterBound Versions last m) (sym e) (after_last last end)) c.next_text.ensures
