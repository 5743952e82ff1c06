use Rattle.std.proofs.Common.{◌≡◌, ◌∙◌, ◌<◌, ◌≤◌, ◌+◌, ◌-◌, List, [], suc, sym, ap, subst, refl, arith, length}
use Rattle.std.specs.List.{AllByRecursion}
use Rattle.std.proofs.lemmas.Bool.{eqb-true, eqb-false}
use Rattle.gcs_index.specs.declared.blocks.Block.{Block}
use Rattle.gcs_index.specs.Blocks.{entries_at, entries_of, AreBlocks}
use Rattle.gcs_index.proofs.EditLemmas.{at_is}
use Rattle.gcs_index.proofs.PlaceLemmas.{empty_is}
use Rattle.gcs_index.proofs.RemovalLemmas.{sizes_short, short_length, entries_cut, blocks_cut, entries_joined, blocks_with_next, blocks_with_last, blocks_left}
use Rattle.gcs_index.proofs.removing.mend.Goals.{else-block-gt0-via-then-block-gt0+else-is_small_pair-2, else-block-gt0-via-else-block-gt0}
use Rattle.gcs_index.proofs.removing.mend.Given as given
use Rattle.gcs_index.proofs.removing.mend.Goals as goal

pub free-requires-clause-empty : goal.free-requires-clause-empty
free-requires-clause-empty g c =
    let now = c.args.blocks.now.items in
    let k = c.args.block in
    let b = c.index.result.now in
    let within : k < length now = omega (arith, short_length k now c.requires.short, c.requires.short.within) in
    let none = eqb-true _ _ (sym c.if-is_empty.ensures) in
    empty_is (entries_at k now) (omega (arith, none, b.entries.ok.0, ap length (at_is now k b within c.index.ensures)))

pub is_small_pair-requires-clause-sizes : goal.is_small_pair-requires-clause-sizes
is_small_pair-requires-clause-sizes g c =
    subst (λ (l : List (Block g.row.K.Denot g.row.V.Denot)). AllByRecursion (λ (b : Block g.row.K.Denot g.row.V.Denot). length b.entries.items ≤ 512) l) (sym c.as_slice.ensures.value)
    (sizes_short c.args.block c.args.blocks.now.items c.requires.short)

pub is_small_pair-requires-then-block-gt0-clause-sizes :
    goal.is_small_pair-requires-then-block-gt0-clause-sizes
is_small_pair-requires-then-block-gt0-clause-sizes g c =
    subst (λ (l : List (Block g.row.K.Denot g.row.V.Denot)). AllByRecursion (λ (b : Block g.row.K.Denot g.row.V.Denot). length b.entries.items ≤ 512) l) (sym c.as_slice-then-block-gt0.ensures.value)
    (sizes_short c.args.block c.args.blocks.now.items c.requires.short)

-- the block is empty
empty : (g : given.Over) (c : goal.After-free g) → entries_at c.args.block c.args.blocks.now.items ≡ []
empty g c =
    let now = c.args.blocks.now.items in
    let k = c.args.block in
    let b = c.index.result.now in
    let within : k < length now = omega (arith, short_length k now c.requires.short, c.requires.short.within) in
    let none = eqb-true _ _ (sym c.if-is_empty.ensures) in
    empty_is (entries_at k now) (omega (arith, none, b.entries.ok.0, ap length (at_is now k b within c.index.ensures)))

pub returns-then-is_empty-clause-entries : goal.returns-then-is_empty-clause-entries
returns-then-is_empty-clause-entries g c =
    let now = c.args.blocks.now.items in
    let k = c.args.block in
    ap (λ (l : List (Block g.row.K.Denot g.row.V.Denot)). entries_of l) c.free.ensures.items
    ∙ entries_cut now k (empty g c) (omega (arith, short_length k now c.requires.short, c.requires.short.within))

pub returns-then-is_empty-clause-blocks : goal.returns-then-is_empty-clause-blocks
returns-then-is_empty-clause-blocks g c =
    subst (λ (l : List (Block g.row.K.Denot g.row.V.Denot)). AreBlocks l) (sym c.free.ensures.items) (blocks_cut c.args.block c.args.blocks.now.items c.requires.short (empty g c))

pub returns-then-is_small_pair-clause-entries : goal.returns-then-is_small_pair-clause-entries
returns-then-is_small_pair-clause-entries g c =
    let now = c.args.blocks.now.items in
    let k = c.args.block in
    let joined = c.join.ensures.joined in
    let within : k + 1 < length now = omega (arith, c.if-is_small_pair.ensures.small refl, ap length c.as_slice.ensures.value) in
    ap (λ (l : List (Block g.row.K.Denot g.row.V.Denot)). entries_of l) joined.is ∙ entries_joined now k joined.block within joined.entries

pub returns-then-is_small_pair-clause-blocks : goal.returns-then-is_small_pair-clause-blocks
returns-then-is_small_pair-clause-blocks g c =
    let now = c.args.blocks.now.items in
    let k = c.args.block in
    let joined = c.join.ensures.joined in
    let within : k + 1 < length now = omega (arith, c.if-is_small_pair.ensures.small refl, ap length c.as_slice.ensures.value) in
    let few = subst (λ (l : List (Block g.row.K.Denot g.row.V.Denot)). length (entries_at k l) + length (entries_at (suc k) l) ≤ 256) c.as_slice.ensures.value (c.if-is_small_pair.ensures.few refl) in
    subst (λ (l : List (Block g.row.K.Denot g.row.V.Denot)). AreBlocks l) (sym joined.is) (blocks_with_next k now joined.block c.requires.short within joined.entries few)

pub returns-then-is_small_pair-2-clause-entries : goal.returns-then-is_small_pair-2-clause-entries
returns-then-is_small_pair-2-clause-entries g c =
    let now = c.args.blocks.now.items in
    let j = c.args.block - 1 in
    let joined = c.join-then-is_small_pair-2.ensures.joined in
    let within : j + 1 < length now = omega (arith, c.if-is_small_pair-2.ensures.small refl, ap length c.as_slice-then-block-gt0.ensures.value) in
    ap (λ (l : List (Block g.row.K.Denot g.row.V.Denot)). entries_of l) joined.is ∙ entries_joined now j joined.block within joined.entries

pub returns-then-is_small_pair-2-clause-blocks : goal.returns-then-is_small_pair-2-clause-blocks
returns-then-is_small_pair-2-clause-blocks g c =
    let now = c.args.blocks.now.items in
    let k = c.args.block in
    let j = k - 1 in
    let joined = c.join-then-is_small_pair-2.ensures.joined in
    let few = subst (λ (l : List (Block g.row.K.Denot g.row.V.Denot)). length (entries_at j l) + length (entries_at (suc j) l) ≤ 256) c.as_slice-then-block-gt0.ensures.value (c.if-is_small_pair-2.ensures.few refl) in
    subst (λ (l : List (Block g.row.K.Denot g.row.V.Denot)). AreBlocks l) (sym joined.is) (blocks_with_last j k now joined.block (omega (arith, c.if-block-gt0.true)) c.requires.short joined.entries few)

pub returns-else-block-gt0-clause-blocks : goal.returns-else-block-gt0-clause-blocks
returns-else-block-gt0-clause-blocks g c =
    let now = c.args.blocks.now.items in
    let k = c.args.block in
    let b = c.index.result.now in
    let within : k < length now = omega (arith, short_length k now c.requires.short, c.requires.short.within) in
    let apart = eqb-false _ _ (sym c.if-is_empty.ensures) in
    let some : 1 ≤ length (entries_at k now) = omega (arith, apart, b.entries.ok.0, ap length (at_is now k b within c.index.ensures)) in
    let right = subst (λ (l : List (Block g.row.K.Denot g.row.V.Denot)). k + 1 < length l → 257 ≤ length (entries_at k l) + length (entries_at (suc k) l)) c.as_slice.ensures.value (c.if-is_small_pair.ensures.many refl) in
    blocks_left k now c.requires.short some right
    (elim c.else-block-gt0.branch [
      | else-block-gt0-via-then-block-gt0+else-is_small_pair-2 w ↦ (λ j e.
          let last = subst (λ (l : List (Block g.row.K.Denot g.row.V.Denot)). (k - 1) + 1 < length l → 257 ≤ length (entries_at (k - 1) l) + length (entries_at (suc (k - 1)) l)) w.as_slice-then-block-gt0.ensures.value (w.if-is_small_pair-2.ensures.many refl) in
          let first = ap (λ n. length (entries_at n now)) {x = k - 1} {y = j} (omega (arith, e)) in
          let second = ap (λ n. length (entries_at n now)) {x = suc (k - 1)} {y = k} (omega (arith, e)) in
          omega (arith, last (omega (arith, within, e)), first, second))
      | else-block-gt0-via-else-block-gt0 w ↦ (λ j e. absurd (omega (arith, e, w.if-block-gt0.false)))
    ])
