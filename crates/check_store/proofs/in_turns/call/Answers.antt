-- One caller's passes are lent to a desk and given back: all are those of their callers still.
use Rattle.std.proofs.Common.{◌≡◌, ◌<◌, ◌∙◌, ℕ, List, ap, get_or, length, set, set-set, subst, sym}
use Rattle.gcs_meaning.specs.Desk.{Standing}
use Rattle.gcs_store.specs.declared.passes.Passes.{Passes}
use Rattle.gcs_store.specs.Passes.{AreAllPassesOf, IsPassesOf, caller_of, rows_of}
use Rattle.gcs_store.specs.Store.{SharedDeskValue, StoreValue}
use Rattle.gcs_store.proofs.AllPasses.{all_with, passes_at}
use Rattle.check_store.proofs.in_turns.call.Goals as goal

-- the passes are that caller's
abbrev At : StoreValue → ℕ → Passes → Type 0
At store caller p = IsPassesOf store p × (caller_of p ≡ caller)

-- those that are lent out
lent : (store : StoreValue) (all : List Passes) (i : ℕ) (p q : Passes) → AreAllPassesOf store all → i < length all → p ≡ get_or all i p → q ≡ p → At store i q
lent store all i p q are below there same = subst (At store i) (sym same) (passes_at store all i p are below there)

-- what no call of a desk changes
abbrev stood : SharedDeskValue → Standing StoreValue
stood d = record { caller = d.caller; chunks = d.home.chunks; home = d.home }

-- those that come back from a desk, in the place of others
back : (store : StoreValue) (all : List Passes) (i : ℕ) (p none q : Passes) (a b : SharedDeskValue) → AreAllPassesOf store all → At store i p
    → a ≡ record { home = store; caller = caller_of p; rows = rows_of p } → stood b ≡ stood a → IsPassesOf b.home q → caller_of q ≡ b.caller → AreAllPassesOf store (set (set all i none) i q)
back store all i p none q a b are at begun stands own caller =
    let home : b.home ≡ store = ap (λ (x : Standing StoreValue). x.home) stands ∙ ap (λ (x : SharedDeskValue). x.home) begun in
    let same : caller_of q ≡ i = caller ∙ (ap (λ (x : Standing StoreValue). x.caller) stands ∙ (ap (λ (x : SharedDeskValue). x.caller) begun ∙ at.1)) in
    subst (AreAllPassesOf store) (sym (set-set all i none q)) (all_with store all i q are (subst (λ (s : StoreValue). IsPassesOf s q) home own) same)

pub desk-desk-requires-after_bounds : goal.desk-desk-requires-after_bounds
desk-desk-requires-after_bounds g c κs within =
    (lent c.args.store.now c.args.passes.now.items c.args.caller c.index_mut.result.now c.replace-own.result c.requires.passes c.requires.caller c.index_mut.ensures.value c.replace-own.ensures.value).0

pub call-made-requires-clause-contents : goal.call-made-requires-clause-contents
call-made-requires-clause-contents g c = c.requires.command.0.1 c.desk-desk.result.home.chunks

pub returns-in-Ok : goal.returns-in-Ok
returns-in-Ok g c =
    let p = lent c.args.store.now c.args.passes.now.items c.args.caller c.index_mut.result.now c.replace-own.result c.requires.passes c.requires.caller c.index_mut.ensures.value c.replace-own.ensures.value in
    record {
      passes = back c.args.store.now c.args.passes.now.items c.args.caller c.replace-own.result c.replace-own.new.dest c.leave.result c.desk-desk.result c.call-made.new.self c.requires.passes p
          c.desk-desk.ensures c.call-made.ensures.stands c.leave.ensures.own c.leave.ensures.caller;
    }

pub returns-in-Err : goal.returns-in-Err
returns-in-Err g c =
    let p = lent c.args.store.now c.args.passes.now.items c.args.caller c.index_mut.result.now c.replace-own.result c.requires.passes c.requires.caller c.index_mut.ensures.value c.replace-own.ensures.value in
    record {
      passes = back c.args.store.now c.args.passes.now.items c.args.caller c.replace-own.result c.replace-own.new.dest c.leave.result c.desk-desk.result c.call-made.new.self c.requires.passes p
          c.desk-desk.ensures c.call-made.ensures.stands c.leave.ensures.own c.leave.ensures.caller;
    }
