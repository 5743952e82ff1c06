use Rattle.std.proofs.Common.{◌≡◌, drop}
use Rattle.serde_json.specs.View.{items_view}
use Rattle.gcs_json.specs.Sources.{parts_of}
use Rattle.gcs_json.proofs.PartLemmas.{joined}
use Rattle.gcs_json.proofs.sources.parts_of.Given as goal

-- what is read and what is left make the whole
abbrev pub invariant-loop-item : goal.invariant-loop-item
invariant-loop-item l = joined l.parts (parts_of (items_view (drop l.item-index l.item-items))) ≡ parts_of (items_view l.item-items)
