use Rattle.std.proofs.Common.{rules}
use Rattle.std.proofs.lemmas.Fn.{always_returns_same}
use Rattle.std.specs.Ordering.{nat_cmp}
use Rattle.std.specs.Cmp.Lexicographic.{slice_cmp}
use Rattle.gcs_store.proofs.Slotted.{gap_found, slot_found}
use Rattle.gcs_store.proofs.slots.place_of.Goals as goal

pub returns-clause-found : goal.returns-clause-found
returns-clause-found c =
    let facts = c.binary_search_by.ensures in
    slot_found c.args.name.now c.args.slots.now c.binary_search_by.result c.requires facts.bound
    (facts.position (λ p. slice_cmp nat_cmp p.0 c.args.name.now) (always_returns_same _ _ _ (λ a r q k. search rules)))

pub returns-clause-gap : goal.returns-clause-gap
returns-clause-gap c =
    let facts = c.binary_search_by.ensures in
    gap_found c.args.name.now c.args.slots.now c.binary_search_by.result c.requires facts.bound
    (facts.position (λ p. slice_cmp nat_cmp p.0 c.args.name.now) (always_returns_same _ _ _ (λ a r q k. search rules)))
