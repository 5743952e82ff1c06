use Rattle.std.proofs.Common.{◌∙◌, sym, subst}
use Rattle.gcs_versions.specs.Kept.{IsKept}
use Rattle.gcs_versions.proofs.Putting.{free_in_all, free_in_live, free_in_readable, put_kept, put_rows}
use Rattle.gcs_versions.proofs.versions.Versions.put.Goals as goal

pub insert-requires-clause-absent : goal.insert-requires-clause-absent
insert-requires-clause-absent c =
    free_in_all {row = c.args.row} record { kept = c.self.invariant; view = c.self.view_is; ready = c.requires.ready; is = sym c.take.ensures.value ∙ c.in-Some.is; absent = c.requires.absent } c.new.result c.new.ensures

pub insert-requires-2-clause-absent : goal.insert-requires-2-clause-absent
insert-requires-2-clause-absent c =
    free_in_readable {row = c.args.row} record { kept = c.self.invariant; view = c.self.view_is; ready = c.requires.ready; is = sym c.take.ensures.value ∙ c.in-Some.is; absent = c.requires.absent } c.new-2.result c.new-2.ensures

pub insert-requires-3-clause-absent : goal.insert-requires-3-clause-absent
insert-requires-3-clause-absent c =
    free_in_live {row = c.args.row} record { kept = c.self.invariant; view = c.self.view_is; ready = c.requires.ready; is = sym c.take.ensures.value ∙ c.in-Some.is; absent = c.requires.absent } c.new-3.result c.new-3.ensures

pub invariant_of-self : goal.invariant_of-self
invariant_of-self c =
    let i = c.self.inside in
    let made = c.insert_reserved-slot in
    subst (λ o. IsKept made.new.self c.insert.new.self c.insert-2.new.self c.insert-3.new.self i.soft i.due o i.to_retire) (sym c.take.ensures.after)
    (put_kept {row = c.args.row} record { kept = c.self.invariant; view = c.self.view_is; ready = c.requires.ready; is = sym c.take.ensures.value ∙ c.in-Some.is; absent = c.requires.absent }
    made.new.self made.result made.ensures.was_vacant made.ensures.updates c.insert.new.self c.insert-2.new.self c.insert-3.new.self c.new.result c.new-2.result c.new-3.result
    c.requires.live c.requires.no_live c.requires.numbered c.new.ensures c.new-2.ensures c.new-3.ensures c.insert.ensures.entries c.insert-2.ensures.entries c.insert-3.ensures.entries)

pub returns : goal.returns
returns c =
    let made = c.insert_reserved-slot in
    put_rows {row = c.args.row} record { kept = c.self.invariant; view = c.self.view_is; ready = c.requires.ready; is = sym c.take.ensures.value ∙ c.in-Some.is; absent = c.requires.absent }
    made.new.self made.result made.ensures.was_vacant made.ensures.updates c.insert.new.self.entries c.new.result c.new.ensures c.insert.ensures.entries
