use Rattle.std.proofs.Common.{◌≡◌, ◌∙◌, ◌≤◌, ◌+◌, ◌-◌, ◌*◌, ◌^◌, sym, ap, subst, arith, length}
use Rattle.std.specs.Prelude.{unwrap_or, false}
use mathlib.Core.Logic.{inl, inr}
use Rattle.std.specs.Ordering.{is_eq}
use Rattle.gcs_index.specs.declared.blocks.Entry.{Entry}
use Rattle.gcs_index.specs.Entries.{stands_at, position, IsSplit}
use Rattle.gcs_index.specs.Blocks.{entries_of, sizes_of}
use Rattle.gcs_index.proofs.PlaceLemmas.{get_past, find_equal, find_none}
use Rattle.gcs_index.proofs.seeking.find_in.Goals as goal

pub returns-in-Equal-clause-found : goal.returns-in-Equal-clause-found
returns-in-Equal-clause-found g c =
    let es = entries_of c.args.blocks.now in
    let st = stands_at {V = g.row.V.Denot} g.Q.Probe.stands c.args.probe.now in
    let n = position (sizes_of c.args.blocks.now) c.in-Some.place in
    let split = subst (IsSplit st es) (sym c.in-Some.ensures.same) c.seek_in-sought.ensures.split in
    find_equal st es n split (λ y h.
    let same = ap (λ o. unwrap_or o c.entry_in.result.now) (sym c.entry_in.ensures ∙ h) in
    ap (λ (e : Entry g.row.K.Denot g.row.V.Denot). is_eq (st e)) (sym same) ∙ ap is_eq (sym c.in-Equal.ensures))

pub returns-in_default-clause-none : goal.returns-in_default-clause-none
returns-in_default-clause-none g c =
    let es = entries_of c.args.blocks.now in
    let st = stands_at {V = g.row.V.Denot} g.Q.Probe.stands c.args.probe.now in
    let split = subst (IsSplit st es) (sym c.in_default.ensures.same) c.seek_in-sought.ensures.split in
    find_none st es (length es) split c.requires.ends (λ y h. let past = sym (get_past es (length es) (omega arith)) ∙ h in absurd (cc))

pub returns-in-Less : goal.returns-in-Less
returns-in-Less g c =
    let es = entries_of c.args.blocks.now in
    let st = stands_at {V = g.row.V.Denot} g.Q.Probe.stands c.args.probe.now in
    let n = position (sizes_of c.args.blocks.now) c.in-Some.place in
    let split = subst (IsSplit st es) (sym c.in-Some.ensures.same) c.seek_in-sought.ensures.split in
    let other : is_eq (st c.entry_in.result.now) ≡ false = ap is_eq (sym c.order.ensures) ∙ (elim c.in-Less.is [ inl e ↦ ap is_eq e | inr e ↦ ap is_eq e ]) in
    record {
      good = tt;
      split = tt;
      found = tt;
      none = find_none st es n split c.requires.ends (λ y h.
          let same = ap (λ o. unwrap_or o c.entry_in.result.now) (sym c.entry_in.ensures ∙ h) in
          ap (λ (e : Entry g.row.K.Denot g.row.V.Denot). is_eq (st e)) (sym same) ∙ other);
      some = omega (arith, c.tick.ensures, c.seek_in-sought.ensures.some);
      cost = subst (λ n. 2 ^ n ≤ 64 * length es + 64) {x = c.seek_in-sought.new.steps - c.args.steps.now + 1} (omega (arith, c.tick.ensures, c.seek_in-sought.ensures.some)) c.seek_in-sought.ensures.cost;
    }
