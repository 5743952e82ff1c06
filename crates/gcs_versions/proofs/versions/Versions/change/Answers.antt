use Rattle.std.proofs.Common.{◌∙◌, ap, refl, sym, [], ◌∷◌}
use Rattle.std.specs.Prelude.{is_some}
use Rattle.std.specs.List.{find}
use Rattle.gcs_meaning.specs.Retiring.{change_first}
use Rattle.gcs_versions.specs.Kept.{Kept}
use Rattle.gcs_versions.specs.Rows.{changed_version, is_version}
use Rattle.gcs_versions.proofs.Retired.{changed_rows, has_version, meta_stands, no_version, updated, HasVersion}
use Rattle.gcs_versions.proofs.versions.Versions.change.Goals.{In-Some}
use Rattle.gcs_versions.proofs.versions.Versions.change.Goals as goal

pub unreachable-requires : goal.unreachable-requires
unreachable-requires c =
    let there = rw (← c.self.view_is) at c.requires.there in
    there (no_version c.self.inside.slots c.self.inside.all.entries c.args.name.now c.args.generation c.self.invariant.indexes.own c.in_default.ensures)

-- the version whose metadata change
has : (c : In-Some) → HasVersion c.self.inside.slots c.self.inside.all.entries c.args.name.now c.args.generation c.in-Some.slot
has c = has_version c.self.inside.slots c.self.inside.all.entries c.args.name.now c.args.generation c.self.invariant.indexes.own c.in-Some.slot c.in-Some.ensures

pub set_meta-requires-clause-there : goal.set_meta-requires-clause-there
set_meta-requires-clause-there c = ap is_some (has (goal.at.set_meta-requires-clause-there c).In-Some).at.there

pub set_meta-requires-clause-room : goal.set_meta-requires-clause-room
set_meta-requires-clause-room c =
    let w = (goal.at.set_meta-requires-clause-room c).In-Some in
    λ row is. c.requires.room row
    (ap (λ (k : Kept). find (is_version c.args.name.now c.args.generation) k.rows) (sym c.self.view_is) ∙ (has w).found ∙ sym (has w).at.there ∙ is)

pub invariant_of-self : goal.invariant_of-self
invariant_of-self c =
    let w = (goal.at.invariant_of-self c).In-Some in
    meta_stands c.self.invariant (has w) c.set_meta.new.slots c.args.meta c.args.retention_start c.args.moment
    (updated (has w) c.set_meta.new.slots (changed_version c.args.meta c.args.retention_start c.args.moment) c.set_meta.ensures.updates) c.set_meta.ensures.room

pub returns : goal.returns
returns c =
    let w = (goal.at.returns c).In-Some in
    let becomes = changed_version c.args.meta c.args.retention_start c.args.moment in
    changed_rows (has w) c.set_meta.new.slots c.self.invariant.indexes.rise c.self.invariant.indexes.own (λ row. becomes row ∷ []) (becomes (has w).row) refl
    (updated (has w) c.set_meta.new.slots becomes c.set_meta.ensures.updates)
    ∙ ap (λ (k : Kept). change_first (is_version c.args.name.now c.args.generation) (λ row. becomes row ∷ []) k.rows) c.self.view_is
