use Rattle.std.proofs.Common.{◌≤◌, ◌<◌, length, ap, sym, ◌∙◌, arith, Some}
use Rattle.std.specs.Option.{option_map}
use Rattle.gcs_meaning.specs.Slot.{Grave}
use Rattle.gcs_bucket.proofs.Buried.{grave_taken, none_left, nothing_taken, rest_taken}
use Rattle.gcs_bucket.proofs.graves.take_grave.Goals as goal

pub returns-then-place-len-clause-state : goal.returns-then-place-len-clause-state
returns-then-place-len-clause-state c =
    let past : length c.deref.result.now ≤ c.place_of-place.result = omega (arith, c.if-place-len.true, c.len.ensures, c.deref.ensures.len) in
    sym (ap (option_map (λ (g : Grave). g.state)) (nothing_taken _ c.deref.result.now c.args.generation c.place_of-place.result c.deref.ensures.value c.place_of-place.ensures past))

pub returns-then-place-len-clause-rest : goal.returns-then-place-len-clause-rest
returns-then-place-len-clause-rest c =
    let past : length c.deref.result.now ≤ c.place_of-place.result = omega (arith, c.if-place-len.true, c.len.ensures, c.deref.ensures.len) in
    sym (none_left _ c.args.generation (nothing_taken _ c.deref.result.now c.args.generation c.place_of-place.result c.deref.ensures.value c.place_of-place.ensures past))

pub returns-clause-state : goal.returns-clause-state
returns-clause-state c =
    let within : c.place_of-place.result < length c.deref.result.now = omega (arith, c.if-place-len.false, c.len.ensures, c.deref.ensures.len) in
    ap (λ (g : Grave). Some g.state) c.grave.view_is
    ∙ sym (ap (option_map (λ (g : Grave). g.state))
    (grave_taken _ c.deref.result.now c.remove-grave.result c.args.generation c.place_of-place.result c.deref.ensures.value c.place_of-place.ensures within c.remove-grave.ensures.value))

pub returns-clause-rest : goal.returns-clause-rest
returns-clause-rest c =
    let within : c.place_of-place.result < length c.deref.result.now = omega (arith, c.if-place-len.false, c.len.ensures, c.deref.ensures.len) in
    rest_taken _ c.deref.result.now _ c.args.generation c.place_of-place.result c.deref.ensures.value c.place_of-place.ensures within c.remove-grave.ensures.items
