use Rattle.std.proofs.Common.{◌∙◌, sym}
use Rattle.std.proofs.lemmas.Cmp.{nat_list_cmp_total}
use Rattle.gcs_listing.proofs.OrderLemmas.{lt_self, lt_not_back}
use Rattle.gcs_listing.proofs.bounds.higher.Goals as goal

pub returns-then-is_below-clause-low : goal.returns-then-is_below-clause-low
returns-then-is_below-clause-low c = lt_not_back nat_list_cmp_total c.args.text.now c.args.other.now (sym c.is_below.ensures ∙ c.if-is_below.true)

pub returns-then-is_below-clause-other : goal.returns-then-is_below-clause-other
returns-then-is_below-clause-other c = lt_self nat_list_cmp_total c.args.other.now

pub returns-else-is_below-clause-low : goal.returns-else-is_below-clause-low
returns-else-is_below-clause-low c = lt_self nat_list_cmp_total c.args.text.now
