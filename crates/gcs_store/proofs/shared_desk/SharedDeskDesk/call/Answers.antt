use Rattle.std.proofs.Common.{◌∙◌, ℕ, subst, arith}
use Rattle.std.specs.Vec.{with_item}
use Rattle.gcs_meaning.specs.Desk.{IsStepped}
use Rattle.gcs_store.specs.Passes.{rows_of}
use Rattle.gcs_store.specs.Store.{mine_in, seen_in}
use Rattle.gcs_store.proofs.Calls.{moved, seat_at, seat_there, stayed}
use Rattle.gcs_store.proofs.Seats.{IsTurnOf, pass_of, seats_with}
use Rattle.gcs_store.proofs.shared_desk.SharedDeskDesk.call.Goals as goal

pub index_mut-pass-requires : goal.index_mut-pass-requires
index_mut-pass-requires g c =
    let of : IsTurnOf c.self.inside.store.now c.from-place.result c.turn-turn.result.now = record { table = c.turn-turn.ensures.table; home = c.turn-turn.ensures.home; callers = c.turn-turn.ensures.callers } in
    let below = seat_there _ _ _ c.self.invariant _ _ of in omega (arith, c.self.inside.passes.seats.ok.0)

pub call-made-requires-clause-own : goal.call-made-requires-clause-own
call-made-requires-clause-own g c κs within =
    let of : IsTurnOf c.self.inside.store.now c.from-place.result c.turn-turn.result.now = record { table = c.turn-turn.ensures.table; home = c.turn-turn.ensures.home; callers = c.turn-turn.ensures.callers } in
    (pass_of _ _ _ c.self.invariant _ _ c.index_mut-pass.result.now of (seat_at _ _ _ c.self.invariant _ _ of _ c.index_mut-pass.ensures.value)).0

pub invariant_of-self : goal.invariant_of-self
invariant_of-self g c =
    let of : IsTurnOf c.self.inside.store.now c.from-place.result c.turn-turn.result.now = record { table = c.turn-turn.ensures.table; home = c.turn-turn.ensures.home; callers = c.turn-turn.ensures.callers } in
    let was = pass_of _ _ _ c.self.invariant _ _ c.index_mut-pass.result.now of (seat_at _ _ _ c.self.invariant _ _ of _ c.index_mut-pass.ensures.value) in
    seats_with _ _ _ c.self.invariant _ _ c.call-made.new.pass of c.call-made.ensures.own.0 (c.call-made.ensures.own.1 ∙ was.1)

pub invariant_of-self-in-Err : goal.invariant_of-self-in-Err
invariant_of-self-in-Err g c =
    let of : IsTurnOf c.self.inside.store.now c.from-place.result c.turn-turn.result.now = record { table = c.turn-turn.ensures.table; home = c.turn-turn.ensures.home; callers = c.turn-turn.ensures.callers } in
    let was = pass_of _ _ _ c.self.invariant _ _ c.index_mut-pass.result.now of (seat_at _ _ _ c.self.invariant _ _ of _ c.index_mut-pass.ensures.value) in
    seats_with _ _ _ c.self.invariant _ _ c.call-made.new.pass of c.call-made.ensures.own.0 (c.call-made.ensures.own.1 ∙ was.1)

pub returns-in-Ok-clause-lists : goal.returns-in-Ok-clause-lists
returns-in-Ok-clause-lists g c =
    let store = c.self.inside.store.now in let passes = c.self.inside.passes in let turn = c.turn-turn.result.now in let pass = c.index_mut-pass.result.now in let place = c.from-place.result in
    let of : IsTurnOf store place turn = record { table = c.turn-turn.ensures.table; home = c.turn-turn.ensures.home; callers = c.turn-turn.ensures.callers } in
    let at = seat_at store passes.caller passes.seats.items c.self.invariant place turn of pass c.index_mut-pass.ensures.value in
    let step = moved store passes.caller passes.seats.items c.self.invariant place turn of pass c.call-made.new.pass at c.call-made.ensures.own.0 c.args.moment c.args.command c.in-Ok.answer c.in-Ok.ensures.ok.0 in
    let rows = rows_of passes in let now = rows_of (record { caller = passes.caller; seats = with_item passes.seats place c.call-made.new.pass }) in
    rw (← c.self.view_is) (subst (λ (s : ℕ). IsStepped passes.caller (seen_in rows) (mine_in rows) (seen_in now) (mine_in now) s c.args.moment c.args.command c.in-Ok.answer) c.from-place.ensures step)

pub returns-in-Err-clause-lists : goal.returns-in-Err-clause-lists
returns-in-Err-clause-lists g c =
    let store = c.self.inside.store.now in let passes = c.self.inside.passes in let turn = c.turn-turn.result.now in let pass = c.index_mut-pass.result.now in let place = c.from-place.result in
    let of : IsTurnOf store place turn = record { table = c.turn-turn.ensures.table; home = c.turn-turn.ensures.home; callers = c.turn-turn.ensures.callers } in
    let at = seat_at store passes.caller passes.seats.items c.self.invariant place turn of pass c.index_mut-pass.ensures.value in
    (rw (← c.self.view_is) (stayed store passes.caller passes.seats.items c.self.invariant place turn of pass c.call-made.new.pass at c.in-Err.ensures.err.1 c.in-Err.ensures.err.2), c.in-Err.ensures.err.0)
