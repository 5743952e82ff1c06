use Rattle.std.proofs.Common.{◌∙◌, refl, sym, ap, subst, length, ◌<◌}
use mathlib.Core.Bool.{true≢false}
use Rattle.gcs_meaning.specs.Aging.{aged_rows}
use Rattle.gcs_versions.specs.Indexes.{rows_at}
use Rattle.gcs_versions.specs.Kept.{Kept}
use Rattle.gcs_versions.proofs.Dropping.{aged_now, dropped_kept, fewer_now, was_there}
use Rattle.gcs_versions.proofs.Due.{none_due}
use Rattle.gcs_versions.proofs.versions.Versions.drop_first_due.Goals as goal

pub invariant_of-self : goal.invariant_of-self
invariant_of-self c =
    let d = c.in-Some.field-0 in
    dropped_kept d c.pop_first.new.self.entries c.self.invariant c.in-Some.ensures.some c.try_remove.new.self c.try_remove.ensures.updates c.remove-in-Some.new.self c.remove-in-Some.ensures.entries
    c.remove.new.self c.pop_first.new.self c.remove.ensures.entries refl
    (was_there d c.pop_first.new.self.entries c.self.invariant c.in-Some.ensures.some c.try_remove.result c.try_remove.ensures.value c.try_remove.ensures.room)
    c.remove-in-Some.ensures.spare c.remove.ensures.spare c.pop_first.ensures.spare

pub returns-in-Some-clause-rows : goal.returns-in-Some-clause-rows
returns-in-Some-clause-rows c =
    aged_now c.in-Some.field-0 c.pop_first.new.self.entries c.self.invariant c.in-Some.ensures.some c.try_remove.new.self c.try_remove.ensures.updates c.remove-in-Some.new.self c.remove-in-Some.ensures.entries
    c.args.moment (rw (← c.self.view_is) at c.requires.due)
    ∙ ap (λ (k : Kept). aged_rows c.args.moment k.rows) c.self.view_is

pub returns-in-Some-clause-fewer : goal.returns-in-Some-clause-fewer
returns-in-Some-clause-fewer c =
    subst (λ (k : Kept). length (rows_at c.try_remove.new.self c.remove-in-Some.new.self.entries) < length k.rows) c.self.view_is
    (fewer_now c.in-Some.field-0 c.pop_first.new.self.entries c.self.invariant c.in-Some.ensures.some c.try_remove.new.self c.try_remove.ensures.updates c.remove-in-Some.new.self c.remove-in-Some.ensures.entries)

pub returns-in_default-clause-fewer : goal.returns-in_default-clause-fewer
returns-in_default-clause-fewer c =
    let i = c.self.inside in
    let none = none_due i.slots i.all.entries c.args.moment c.self.invariant.indexes.own (sym c.self.invariant.indexes.due_are ∙ c.in_default.ensures.none.0) in
    absurd (true≢false (sym (rw (← c.self.view_is) at c.requires.due) ∙ none))
