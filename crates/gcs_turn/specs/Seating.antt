-- What holds of a seat at the table of a turn.
use Rattle.std.specs.Prelude.{◌≡◌, ℕ, ◌≤◌, eqb, cond, false, List, [], Option, Some}
use Rattle.atomic_table.specs.Seated.{TableId}
use Rattle.atomic_table.specs.declared.shared.Seat.{Seat}
use Rattle.gcs_turn.specs.declared.object.Entry.{Entry}
use Rattle.gcs_turn.specs.declared.view.View.{View}
use Rattle.gcs_turn.specs.Turning.{calls_by, AllNumbered}

module _ {C H O : Type 0} where
  -- the seat is one of this table, which has three words
  abbrev pub IsAt : TableId → Seat (Option O) (View C H) → Type 0
  IsAt z s = (s.table_id ≡ z) × (z.words ≡ 3)

  -- the seat has no ticket, and no slot is out with it
  abbrev pub IsIdle : Seat (Option O) (View C H) → Type 0
  IsIdle s = (s.me.1 ≡ []) × (s.me.0.stage ≡ 0) × (s.me.0.spent ≡ false)

  -- the seat waits for its ticket
  abbrev pub IsWaiting : Seat (Option O) (View C H) → Type 0
  IsWaiting s = (s.me.0.stage ≡ 1) × (s.me.0.spent ≡ false)

  -- the seat is served
  abbrev pub IsServed : Seat (Option O) (View C H) → Type 0
  IsServed s = (2 ≤ s.me.0.stage) × (s.me.0.spent ≡ false)

  -- this object may come back by the seat: its history is that of before, with the seat's entry where it added one
  abbrev pub MayGive : (O → List (Entry C)) → (O → H) → Seat (Option O) (View C H) → O → Type 0
  MayGive history home s o = (s.me.0.home ≡ Some (home o)) × (s.me.0.stage ≡ 2 → history o ≡ s.me.0.base) × (s.me.0.stage ≡ 3 → history o ≡ s.me.0.seen)

  -- the seat is a caller's at the table z of so many callers, whose object has this home
  pub record OfTurn (z : TableId) (home : H) (callers : ℕ) (s : Seat (Option O) (View C H)) : Type 0 where
    pub table : s.table_id ≡ z
    pub home_is : s.me.0.home ≡ Some home
    pub made : s.me.0.made ≡ cond (eqb s.me.0.caller 0) callers 0
    pub joined : s.me.0.joined ≡ []
    pub own : s.me.0.own ≡ s.me.0.seen
    pub calls : calls_by s.me.0.caller s.me.0.seen ≡ s.me.0.mine
    pub numbers : AllNumbered s.me.0.seen

  -- the seat is the first at the table z of so many callers, and may have taken others in
  pub record IsFirst (z : TableId) (callers : ℕ) (s : Seat (Option O) (View C H)) : Type 0 where
    pub table : s.table_id ≡ z
    pub made : s.me.0.made ≡ callers
    pub caller : s.me.0.caller ≡ 0
