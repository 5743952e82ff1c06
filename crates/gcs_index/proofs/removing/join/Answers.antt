use Rattle.std.proofs.Common.{◌≡◌, ◌∙◌, ◌<◌, ◌+◌, ◌++◌, List, suc, sym, ap, ap₂, subst, arith, length, set}
use Rattle.std.specs.List.{remove}
use Rattle.std.proofs.lemmas.List.Edits.{length-remove}
use Rattle.gcs_index.specs.declared.blocks.Block.{Block}
use Rattle.gcs_index.specs.Blocks.{entries_at, HaveRoom}
use Rattle.gcs_index.proofs.EditLemmas.{at_is, room_at}
use Rattle.gcs_index.proofs.RemovalLemmas.{at_cut, room_cut}
use Rattle.gcs_index.proofs.removing.join.Goals as goal

pub pour-requires : goal.pour-requires
pour-requires g c =
    let bs = c.args.blocks.now.items in
    let k = c.args.left in
    let rest = c.remove-right.new.self.items in
    let b = c.index_mut.result.now in
    let r = c.remove-right.result in
    let after : k + 1 < length bs = omega (arith, c.args.blocks.now.ok.0, c.requires.within) in
    let cut : rest ≡ remove bs (suc k) = c.remove-right.ensures.items ∙ ap (λ n. remove bs n) {x = k + 1} {y = suc k} (omega arith) in
    let within : k < length rest = omega (arith, ap length cut, length-remove bs (suc k) (omega arith)) in
    let left = sym (at_is rest k b within c.index_mut.ensures.value) ∙ ap (λ (l : List (Block g.row.K.Denot g.row.V.Denot)). entries_at k l) cut ∙ at_cut bs k in
    let right = sym (at_is bs (k + 1) r after c.remove-right.ensures.value) ∙ ap (λ n. entries_at n bs) {x = k + 1} {y = suc k} (omega arith) in
    let room = room_at rest k b (subst (λ (l : List (Block g.row.K.Denot g.row.V.Denot)). HaveRoom l) (sym cut) (room_cut bs (suc k) c.requires.room)) within c.index_mut.ensures.value in
    record { room = omega (arith, ap length left, ap length right, c.requires.few, room) }

pub returns-clause-joined : goal.returns-clause-joined
returns-clause-joined g c =
    let bs = c.args.blocks.now.items in
    let k = c.args.left in
    let rest = c.remove-right.new.self.items in
    let b = c.index_mut.result.now in
    let r = c.remove-right.result in
    let after : k + 1 < length bs = omega (arith, c.args.blocks.now.ok.0, c.requires.within) in
    let cut : rest ≡ remove bs (suc k) = c.remove-right.ensures.items ∙ ap (λ n. remove bs n) {x = k + 1} {y = suc k} (omega arith) in
    let within : k < length rest = omega (arith, ap length cut, length-remove bs (suc k) (omega arith)) in
    let left = sym (at_is rest k b within c.index_mut.ensures.value) ∙ ap (λ (l : List (Block g.row.K.Denot g.row.V.Denot)). entries_at k l) cut ∙ at_cut bs k in
    let right = sym (at_is bs (k + 1) r after c.remove-right.ensures.value) ∙ ap (λ n. entries_at n bs) {x = k + 1} {y = suc k} (omega arith) in
    let room = room_at rest k b (subst (λ (l : List (Block g.row.K.Denot g.row.V.Denot)). HaveRoom l) (sym cut) (room_cut bs (suc k) c.requires.room)) within c.index_mut.ensures.value in
    record {
      block = c.pour.new.into;
      is = ap (λ (l : List (Block g.row.K.Denot g.row.V.Denot)). set l k c.pour.new.into) cut;
      entries = c.pour.ensures.entries ∙ ap₂ (λ x y. x ++ y) left right;
      room = omega (arith, c.pour.ensures.capacity, room);
    }
