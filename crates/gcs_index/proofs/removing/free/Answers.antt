use Rattle.std.proofs.Common.{◌≡◌, ◌∙◌, ◌<◌, List, [], ◌∷◌, sym, subst, arith, length}
use Rattle.gcs_index.specs.declared.blocks.Block.{Block}
use Rattle.gcs_index.specs.Blocks.{AreSpare}
use Rattle.std.specs.Vec.{vec_capacity}
use Rattle.std.proofs.Common.{◌≤◌}
use Rattle.gcs_index.proofs.BlockLemmas.{all_join}
use Rattle.gcs_index.proofs.EditLemmas.{at_is, room_at}
use Rattle.gcs_index.proofs.removing.free.Goals as goal

pub returns-clause-spares : goal.returns-clause-spares
returns-clause-spares g c =
    let bs = c.args.blocks.now.items in
    let k = c.args.block in
    let b = c.remove-freed.result in
    let within : k < length bs = omega (arith, c.args.blocks.now.ok.0, c.requires.block) in
    let none = sym (at_is bs k b within c.remove-freed.ensures.value) ∙ c.requires.empty in
    let room = room_at bs k b c.requires.room within c.remove-freed.ensures.value in
    subst (λ (l : List (Block g.row.K.Denot g.row.V.Denot)). AreSpare l) (sym c.keep.ensures.items)
    (all_join (λ (x : Block g.row.K.Denot g.row.V.Denot). (x.entries.items ≡ []) × (512 ≤ vec_capacity x.entries)) c.args.spare.now.items (b ∷ []) c.requires.spares ((none, room), tt))
