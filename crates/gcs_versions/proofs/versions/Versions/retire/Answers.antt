use Rattle.std.proofs.Common.{◌≡◌, ◌∙◌, ap, sym, subst, true}
use Rattle.std.specs.Prelude.{is_some}
use Rattle.std.specs.Option.{IfSome}
use Rattle.slab.specs.Slab.{HasRoomFor}
use Rattle.gcs_meaning.specs.declared.version.Kind.TheVariants.{Noncurrent, Soft}
use Rattle.gcs_meaning.specs.Choosing.{is_readable}
use Rattle.gcs_meaning.specs.Order.{unit_at}
use Rattle.gcs_meaning.specs.Retiring.{change_first, retired_row}
use Rattle.gcs_versions.specs.Indexes.{rows_at}
use Rattle.gcs_versions.specs.Kept.{Kept, IsReadyToRetire}
use Rattle.gcs_versions.specs.Ready.{IsForRetirement}
use Rattle.gcs_versions.specs.Rows.{is_version, with_kind}
use Rattle.gcs_versions.proofs.Retired.{changed_rows, chosen_readable, due_free, has_version, no_version, none_chosen, noncurrent_stands, out_stands, prepared_for, removed_rows, soft_free, soft_stands, updated, HasVersion}
use Rattle.gcs_versions.proofs.versions.Versions.retire.Goals.{After-remove}
use Rattle.gcs_versions.proofs.versions.Versions.retire.Goals as goal

pub unreachable-requires-in_default-slot_in : goal.unreachable-requires-in_default-slot_in
unreachable-requires-in_default-slot_in c =
    let there = rw (← c.self.view_is) at c.requires.there in
    let slots = c.self.inside.slots in
    let all = c.self.inside.all.entries in
    there (none_chosen c.args.name.now c.args.generation (rows_at slots all) c.self.invariant.versions.rise
    (no_version slots all c.args.name.now c.args.generation c.self.invariant.indexes.own c.in_default-slot_in.ensures))

-- ---- the version that is retired
has : (c : After-remove) → HasVersion c.self.inside.slots c.self.inside.all.entries c.args.name.now c.args.generation c.in-Some-slot_in.slot
has c = has_version c.self.inside.slots c.self.inside.all.entries c.args.name.now c.args.generation c.self.invariant.indexes.own c.in-Some-slot_in.slot c.in-Some-slot_in.ensures

-- it is live or noncurrent
readable : (c : After-remove) → is_readable (has c).row.kind ≡ true
readable c =
    let there = rw (← c.self.view_is) at c.requires.there in
    chosen_readable c.args.name.now c.args.generation (has c).row (rows_at c.self.inside.slots c.self.inside.all.entries) c.self.invariant.versions.rise (has c).found there

-- what was prepared has its name
names : (c : After-remove) → IsForRetirement c.args.name.now c.in-Some.field-0
unfolding IsReadyToRetire
names c =
    prepared_for c.self.inside.soft c.self.inside.due c.self.inside.to_retire c.in-Some.field-0 c.args.name.now (sym c.take.ensures.value ∙ c.in-Some.is)
    (ap (λ (k : Kept). k.to_retire) c.self.view_is ∙ c.requires.ready) c.self.invariant.retire

-- so the key has its name and generation
key_is : (c : After-remove) → c.new-key.result ≡ unit_at c.args.name.now c.args.generation
key_is c = c.new-key.ensures ∙ ap (λ name. unit_at name c.args.generation) (names c).soft

pub set_kind-requires : goal.set_kind-requires
set_kind-requires c = record { there = ap is_some (has (goal.at.set_kind-requires c).After-remove).at.there }

pub set_kind-requires-in-Soft : goal.set_kind-requires-in-Soft
set_kind-requires-in-Soft c = record { there = ap is_some (has (goal.at.set_kind-requires-in-Soft c).After-remove).at.there }

pub insert-requires-clause-absent : goal.insert-requires-clause-absent
insert-requires-clause-absent c =
    let w = (goal.at.insert-requires-clause-absent c).After-remove in
    soft_free (has w) c.self.invariant.indexes (readable w) c.new-key.result (key_is w)

pub insert-requires-in-Soft-clause-absent : goal.insert-requires-in-Soft-clause-absent
insert-requires-in-Soft-clause-absent c =
    let w = (goal.at.insert-requires-in-Soft-clause-absent c).After-remove in
    due_free (has w) c.self.invariant.indexes (readable w) c.new-version.result (c.new-version.ensures ∙ ap (λ name. unit_at name c.args.generation) (names w).due) c.in-Soft.hard

-- ---- to noncurrent
pub invariant_of-self : goal.invariant_of-self
invariant_of-self c =
    let w = (goal.at.invariant_of-self c).After-remove in
    noncurrent_stands c.self.invariant (has w) c.set_kind.new.slots c.take.new.self c.take.ensures.after c.new-key.result (key_is w) (readable w) c.args.moment
    c.remove.new.self c.remove.ensures.entries c.remove.ensures.spare
    (updated (has w) c.set_kind.new.slots (with_kind (Noncurrent c.args.moment)) c.set_kind.ensures.updates) c.set_kind.ensures.room

pub returns-in-Noncurrent-clause-rows : goal.returns-in-Noncurrent-clause-rows
returns-in-Noncurrent-clause-rows c =
    let w = (goal.at.returns-in-Noncurrent-clause-rows c).After-remove in
    let becomes = with_kind (Noncurrent c.args.moment) in
    changed_rows (has w) c.set_kind.new.slots c.self.invariant.indexes.rise c.self.invariant.indexes.own (retired_row c.args.to c.args.moment) (becomes (has w).row)
    (ap (λ to. retired_row to c.args.moment (has w).row) c.in-Noncurrent.is) (updated (has w) c.set_kind.new.slots becomes c.set_kind.ensures.updates)
    ∙ ap (λ (k : Kept). change_first (is_version c.args.name.now c.args.generation) (retired_row c.args.to c.args.moment) k.rows) c.self.view_is

-- ---- to soft-deleted
pub invariant_of-self-in-Soft : goal.invariant_of-self-in-Soft
invariant_of-self-in-Soft c =
    let w = (goal.at.invariant_of-self-in-Soft c).After-remove in
    soft_stands c.self.invariant (has w) c.set_kind-in-Soft.new.slots c.take.new.self c.take.ensures.after c.new-key.result (key_is w) (readable w) c.args.moment
    c.remove.new.self c.remove.ensures.entries c.remove.ensures.spare c.remove-in-Soft.new.self c.remove-in-Soft.ensures.entries c.remove-in-Soft.ensures.spare
    c.in-Soft.hard c.insert.new.self c.insert-in-Soft.new.self c.new-version.result (c.new-version.ensures ∙ ap (λ name. unit_at name c.args.generation) (names w).due)
    c.insert.ensures.entries c.insert-in-Soft.ensures.entries
    (updated (has w) c.set_kind-in-Soft.new.slots (with_kind (Soft c.args.moment c.in-Soft.hard)) c.set_kind-in-Soft.ensures.updates) c.set_kind-in-Soft.ensures.room

pub returns-in-Soft-clause-rows : goal.returns-in-Soft-clause-rows
returns-in-Soft-clause-rows c =
    let w = (goal.at.returns-in-Soft-clause-rows c).After-remove in
    let becomes = with_kind (Soft c.args.moment c.in-Soft.hard) in
    changed_rows (has w) c.set_kind-in-Soft.new.slots c.self.invariant.indexes.rise c.self.invariant.indexes.own (retired_row c.args.to c.args.moment) (becomes (has w).row)
    (ap (λ to. retired_row to c.args.moment (has w).row) c.in-Soft.is) (updated (has w) c.set_kind-in-Soft.new.slots becomes c.set_kind-in-Soft.ensures.updates)
    ∙ ap (λ (k : Kept). change_first (is_version c.args.name.now c.args.generation) (retired_row c.args.to c.args.moment) k.rows) c.self.view_is

-- ---- out of the versions
pub invariant_of-self-in-Out-1 : goal.invariant_of-self-in-Out-1
invariant_of-self-in-Out-1 c =
    let w = (goal.at.invariant_of-self-in-Out-1 c).After-remove in
    out_stands c.self.invariant (has w) c.try_remove.new.self c.take.new.self c.take.ensures.after c.new-key.result (key_is w) (readable w) c.args.moment
    c.remove.new.self c.remove.ensures.entries c.remove.ensures.spare c.remove-in-Out.new.self c.remove-in-Out.ensures.entries c.remove-in-Out.ensures.spare
    c.remove-in-Out-2.new.self c.remove-in-Out-2.ensures.entries c.remove-in-Out-2.ensures.spare c.try_remove.ensures.updates
    (subst (λ o. IfSome o (λ _. HasRoomFor c.try_remove.new.self 1)) (c.try_remove.ensures.value ∙ (has w).at.there) c.try_remove.ensures.room)

pub returns-in-Out-clause-rows : goal.returns-in-Out-clause-rows
returns-in-Out-clause-rows c =
    let w = (goal.at.returns-in-Out-clause-rows c).After-remove in
    removed_rows (has w) c.try_remove.new.self c.self.invariant.indexes.rise c.self.invariant.indexes.own (retired_row c.args.to c.args.moment)
    c.new-key.result c.remove-in-Out-2.new.self.entries (key_is w) c.remove-in-Out-2.ensures.entries (ap (λ to. retired_row to c.args.moment (has w).row) c.in-Out.is) c.try_remove.ensures.updates
    ∙ ap (λ (k : Kept). change_first (is_version c.args.name.now c.args.generation) (retired_row c.args.to c.args.moment) k.rows) c.self.view_is
