-- Each step of a seat keeps the rule of the turn cell.
use Rattle.std.proofs.Common.{◌≡◌, ◌≢◌, ℕ, zero, suc, ◌+◌, ◌-◌, ◌%◌, ◌^◌, ◌<◌, ◌≤◌, min, Bool, true, false, List, [], ◌∷◌, ◌++◌, length, get_or, set, sym, refl, ap, ◌∙◌, subst, ⊎_elim, inl, inr, ◌⊎◌, arith, Option, Some, length-set, length-append}
use Rattle.std.proofs.Math.Nat.{mod-add-mod}
use mathlib.Core.Logic.{dite}
use mathlib.Core.Option.{none, some, some-injective, some-ne-none}
use mathlib.Core.Option as maybe
use native.Mathlib.Decide.{ℕ_discrete, dec_le}
use lib.ListN.{get_elem?}
use lib.Seq.{set-get_or}
use Rattle.atomic_table.specs.Table.{State, Me, step, Act, keeps, takes, gives, stepped, homes_after, Allows, Splits, Joins, opening}
use Rattle.atomic_table.proofs.Lists.{at_set, set_here, set_else, set_again}
use Rattle.gcs_turn.specs.declared.object.Entry.{Entry}
use Rattle.gcs_turn.specs.declared.view.View.{View}
use Rattle.gcs_turn.specs.declared.view.Joined.{Joined}
use Rattle.gcs_turn.specs.Turning.{Begins, calls_by, Numbered, AllNumbered, Made, Sits, TurnRule, drew, looked, added, left}
use Rattle.gcs_turn.proofs.Histories.{tickets_differ, waiting-set, waiting_few, at_below, begins_all, begins_more, there_is, clash, calls-append, calls_other, calls_fewer, made_more, made_own, each_after}

module _ {C H O : Type 0} (history : O → List (Entry C)) (home : O → H) (made : H) where
  abbrev E : Type 0
  E = Entry C

  abbrev V : Type 0
  V = View C H

  abbrev St : Type 0
  St = State (Option O) V

  abbrev M : Type 0
  M = Me (Option O) V

  abbrev Rule : St → Type 0
  Rule = TurnRule history home made

  -- the rule after a step of the seat id, whose view v becomes w
  moves : (s : St) (r : Rule s) (log : List E) (serving out : ℕ) (slot : maybe.Option (Option O)) (words : List ℕ) (homes : List (maybe.Option (Option O))) (id : ℕ) (v w : V)
      → get_elem? s.views id ≡ some v → v.spent ≡ false → w.spent ≡ false → w.joined ≡ v.joined
      → words ≡ length log ∷ (serving + out) % 2 ^ 64 ∷ serving ∷ [] → homes ≡ slot ∷ [] → length log < 2 ^ 59 → serving < 2 ^ 64
      → r.out + min w.stage 1 ≡ out + min v.stage 1
      → Sits made log serving out r.seats id w
      → ((j : ℕ) (u : V) → j ≢ id → get_elem? s.views j ≡ some u → Sits made log serving out r.seats j u)
      → ((j : ℕ) (u : V) → j ≢ id → get_elem? s.views j ≡ some u → 0 < w.stage → 0 < u.stage → w.ticket ≢ u.ticket)
      → ((k : ℕ) → k < out → (j : ℕ) × (u : V) × (get_elem? (set s.views id w) j ≡ some u) × (0 < u.stage) × (u.ticket ≡ (serving + k) % 2 ^ 64))
      → (w.seen ≡ log) ⊎ ((w.seen ≡ v.seen) × (log ≡ r.log))
      → ((x : Option O) → slot ≡ some x → (o : O) × (x ≡ Some o) × (history o ≡ log) × (home o ≡ made))
      → (slot ≡ none → (j : ℕ) × (u : V) × (get_elem? (set s.views id w) j ≡ some u) × (2 ≤ u.stage))
      → (2 ≤ w.stage → slot ≡ none)
      → ((j : ℕ) (u : V) → j ≢ id → get_elem? s.views j ≡ some u → 2 ≤ u.stage → slot ≡ none)
      → ((c : ℕ) → r.seats ≤ c → calls_by c log ≡ [])
      → Rule record { words = words; homes = homes; views = set s.views id w }
  moves s r log serving out slot words homes id v w at live dead joined words_are homes_are short low count mine others apart queued longest at_home away held others_held known = record {
    log = log;
    out = out;
    serving = serving;
    seats = r.seats;
    slot = slot;
    words = words_are;
    homes = homes_are;
    views = length-set s.views id w ∙ r.views;
    short = short;
    low = low;
    few = r.few;
    waits = let sum = waiting-set s.views id v w at in let was = r.waits in omega arith;
    each = each_after s.views id w (Sits made log serving out r.seats) mine others;
    apart = λ i j a b p q ne x y. ⊎_elim
        (λ (t : (i ≡ id) × (w ≡ a)). ⊎_elim
        (λ (z : (j ≡ id) × (w ≡ b)). absurd (ne (t.0 ∙ sym z.0)))
        (λ (z : (j ≢ id) × (get_elem? s.views j ≡ some b)). subst (λ (m : V). 0 < m.stage → m.ticket ≢ b.ticket) t.1 (λ k. apart j b z.0 z.1 k y) x)
        (at_set s.views id j w b q))
        (λ (t : (i ≢ id) × (get_elem? s.views i ≡ some a)). ⊎_elim
        (λ (z : (j ≡ id) × (w ≡ b)). subst (λ (m : V). 0 < m.stage → a.ticket ≢ m.ticket) z.1 (λ k e. apart i a t.0 t.1 k x (sym e)) y)
        (λ (z : (j ≢ id) × (get_elem? s.views j ≡ some b)). r.apart i j a b t.1 z.1 ne x y)
        (at_set s.views id j w b q))
        (at_set s.views id i w a p);
    queued = queued;
    longest = ⊎_elim
        (λ (e : w.seen ≡ log). (id, w, here, e))
        (λ (e : (w.seen ≡ v.seen) × (log ≡ r.log)). let l = r.longest in dite (ℕ_discrete l.0 id)
        (λ same. (id, w, here, e.0 ∙ (ap (λ (m : V). m.seen) (some-injective v l.1 (sym at ∙ (ap (λ (m : ℕ). get_elem? s.views m) (sym same) ∙ l.2))) ∙ (l.3 ∙ sym e.1))))
        (λ other. (l.0, l.1, set_else s.views id l.0 w other ∙ l.2, l.3 ∙ sym e.1)))
        longest;
    at_home = at_home;
    away = away;
    held = each_after s.views id w (λ _ u. 2 ≤ u.stage → slot ≡ none) held others_held;
    known = known;
    gone = λ j u k x p q. ⊎_elim
        (λ (t : (j ≡ id) × (w ≡ u)). still x (r.gone id v k x at (ap (λ (l : List (Joined C)). get_elem? l k) (sym joined) ∙ (ap (λ (m : V). get_elem? m.joined k) t.1 ∙ q))))
        (λ (t : (j ≢ id) × (get_elem? s.views j ≡ some u)). still x (r.gone j u k x t.1 q))
        (at_set s.views id j w u p);
    found = λ j y p ends. ⊎_elim
        (λ (t : (j ≡ id) × (w ≡ y)). absurd (clash (sym dead ∙ (ap (λ (m : V). m.spent) t.1 ∙ ends))))
        (λ (t : (j ≢ id) × (get_elem? s.views j ≡ some y)). let f = r.found j y t.1 ends in dite (ℕ_discrete 0 id)
        (λ same. (
          w,
          f.1,
          f.2,
          ap (λ (m : ℕ). get_elem? (set s.views id w) m) same ∙ here,
          ap (λ (l : List (Joined C)). get_elem? l f.1) (joined ∙ ap (λ (m : V). m.joined) (some-injective v f.0 (sym at ∙ (ap (λ (m : ℕ). get_elem? s.views m) (sym same) ∙ f.3)))) ∙ f.4,
          f.5,
        ))
        (λ other. (f.0, f.1, f.2, set_else s.views id 0 w other ∙ f.3, f.4, f.5)))
        (at_set s.views id j w y p);
  }
    where
      inside : (l : List V) (i : ℕ) (a b : V) → get_elem? l i ≡ some a → get_elem? (set l i b) i ≡ some b
      inside [] i a b e = absurd (some-ne-none a (sym e))
      inside (x ∷ xs) zero a b e = refl
      inside (x ∷ xs) (suc i) a b e = inside xs i a b e

      here : get_elem? (set s.views id w) id ≡ some w
      here = inside s.views id v w at

      still : (x : Joined C) → (y : V) × (get_elem? s.views x.caller ≡ some y) × (y.spent ≡ true) → (y : V) × (get_elem? (set s.views id w) x.caller ≡ some y) × (y.spent ≡ true)
      still x y = (y.0, set_else s.views id x.caller w (λ e. absurd (clash (sym live ∙ (ap (λ (m : V). m.spent) (some-injective v y.0 (sym at ∙ (ap (λ (m : ℕ). get_elem? s.views m) (sym e) ∙ y.1))) ∙ y.2)))) ∙ y.1, y.2)

  -- the same view among more tickets
  more_out : (log : List E) (serving out seats j : ℕ) (v : V) → Sits made log serving out seats j v → Sits made log serving (out + 1) seats j v
  more_out log serving out seats j v r = record {
    stages = r.stages;
    ticket = λ a. let t = r.ticket a in let l = t.1 in (t.0, omega arith, t.2);
    served = r.served;
    base = r.base;
    stepped = r.stepped;
    live = r.live;
    ended = r.ended;
    own = r.own;
    joined = r.joined;
    collects = r.collects;
    maker = r.maker;
  }

  -- the queue, where a seat keeps its ticket
  requeue : (s : St) (r : Rule s) (id : ℕ) (v w : V) → get_elem? s.views id ≡ some v → 0 < w.stage → w.ticket ≡ v.ticket
      → (k : ℕ) → k < r.out → (j : ℕ) × (u : V) × (get_elem? (set s.views id w) j ≡ some u) × (0 < u.stage) × (u.ticket ≡ (r.serving + k) % 2 ^ 64)
  requeue s r id v w at some_ticket same k l = let t = r.queued k l in dite (ℕ_discrete t.0 id)
      (λ e. (id, w, set_here s.views id w (at_below s.views id v at), some_ticket, same ∙ (ap (λ (m : V). m.ticket) (some-injective v t.1 (sym at ∙ (ap (λ (m : ℕ). get_elem? s.views m) (sym e) ∙ t.2))) ∙ t.4)))
      (λ e. (t.0, t.1, set_else s.views id t.0 w e ∙ t.2, t.3, t.4))

  -- a draw: the ticket is the next, behind those that are out
  pub draws : (slots id : ℕ) (me : M) → me.0.stage ≡ 0 → me.0.spent ≡ false → Allows Rule slots id me 1 (λ n. (n + 1) % 2 ^ 64) (drew (step slots 1 1 0 none) me)
  draws slots id me idle live s r _ at _ =
      let n : ℕ = get_or s.words 1 0 in let v : V = me.0 in let w : V = record v { stage = 1; ticket = n } in
      let is : n ≡ (r.serving + r.out) % 2 ^ 64 = ap (λ (ws : List ℕ). get_or ws 1 0) r.words in
      let sits = r.each id v at in
      let many = waiting_few s.views in let w₁ = r.waits in let w₂ = r.views in let w₃ = r.few in let bound : r.out ≤ 65 = omega arith in (
        w,
        keeps,
        tt,
        moves s r r.log r.serving (r.out + 1) r.slot (set s.words 1 ((n + 1) % 2 ^ 64)) s.homes id v w at live live refl
            (ap (λ (ws : List ℕ). set ws 1 ((get_or ws 1 0 + 1) % 2 ^ 64)) r.words
            ∙ ap (λ (k : ℕ). length r.log ∷ k ∷ r.serving ∷ []) (mod-add-mod (r.serving + r.out) (2 ^ 64) 1 ∙ ap (λ (k : ℕ). k % 2 ^ 64) (let e : (r.serving + r.out) + 1 ≡ r.serving + (r.out + 1) = omega arith in e)))
            r.homes r.short r.low (omega arith)
            record {
              stages = omega arith;
              ticket = λ _. (r.out, omega arith, is);
              served = λ a. absurd (omega arith);
              base = λ a. absurd (omega arith);
              stepped = λ a. absurd (omega arith);
              live = sits.live;
              ended = λ e. absurd (clash (sym live ∙ e));
              own = sits.own;
              joined = sits.joined;
              collects = sits.collects;
              maker = sits.maker;
            }
            (λ j u _ p. more_out r.log r.serving r.out r.seats j u (r.each j u p))
            (λ j u _ p _ b e. let t = (r.each j u p).ticket b in tickets_differ r.serving t.0 r.out t.1 (omega arith) (sym is ∙ (e ∙ t.2)))
            (λ k l. dite (dec_le (suc k) r.out)
            (λ old. let t = r.queued k (omega arith) in (t.0, t.1, set_else s.views id t.0 w (λ same. let x : v.stage ≡ t.1.stage = ap (λ (m : V). m.stage) (some-injective v t.1 (sym at ∙ (ap (λ (m : ℕ). get_elem? s.views m) (sym same) ∙ t.2))) in let y = t.3 in omega arith) ∙ t.2, t.3, t.4))
            (λ new. (id, w, set_here s.views id w (at_below s.views id v at), omega arith, is ∙ ap (λ (z : ℕ). (r.serving + z) % 2 ^ 64) (let e : r.out ≡ k = omega arith in e))))
            (inr (refl, refl))
            r.at_home
            (λ e. let t = r.away e in (t.0, t.1, set_else s.views id t.0 w (λ same. let x : v.stage ≡ t.1.stage = ap (λ (m : V). m.stage) (some-injective v t.1 (sym at ∙ (ap (λ (m : ℕ). get_elem? s.views m) (sym same) ∙ t.2))) in let y = t.3 in omega arith) ∙ t.2, t.3))
            (λ a. absurd (omega arith))
            (λ j u _ p. r.held j u p)
            r.known,
        refl,
      )

  -- a load that changes nothing
  stays : (s : St) (r : Rule s) (i id : ℕ) (v : V) → get_elem? s.views id ≡ some v → Rule record { words = set s.words i (get_or s.words i 0); homes = s.homes; views = set s.views id v }
  stays s r i id v at = subst (λ (x : List ℕ × List V). Rule record { words = x.0; homes = s.homes; views = x.1 }) (λ k. (sym (set-get_or s.words i 0) k, sym (set_again s.views id v at) k)) r

  -- no other view is served, where this one holds the ticket that is served
  alone : (s : St) (r : Rule s) (id j : ℕ) (v u : V) → get_elem? s.views id ≡ some v → get_elem? s.views j ≡ some u → j ≢ id → 0 < v.stage → v.ticket ≡ r.serving → 2 ≤ u.stage → ⊥
  alone s r id j v u at p ne some_ticket mine served = r.apart j id u v p at ne (omega arith) some_ticket ((r.each j u p).served served ∙ sym mine)

  -- what the spent seats made is untouched by an entry of a live one
  gone_apart : (s : St) (r : Rule s) (id j k : ℕ) (v u : V) (x : Joined C) → get_elem? s.views id ≡ some v → v.spent ≡ false → get_elem? s.views j ≡ some u → get_elem? u.joined k ≡ some x → id ≢ x.caller
  gone_apart s r id j k v u x at live p q e = let y = r.gone j u k x p q in clash (sym live ∙ (ap (λ (m : V). m.spent) (some-injective v y.0 (sym at ∙ (ap (λ (m : ℕ). get_elem? s.views m) e ∙ y.1))) ∙ y.2))

  -- each caller's entries are numbered, since a view has them or the caller has none
  numbered_all : (s : St) (r : Rule s) → AllNumbered r.log
  numbered_all s r c = dite (dec_le r.seats c)
      (λ far. subst (Numbered 0) (sym (r.known c far)) tt)
      (λ near. let t = there_is s.views c (let n = r.views in omega arith) in either_way t.0 t.1 t.0.spent refl)
    where
      either_way : (v : V) → get_elem? s.views c ≡ some v → (b : Bool) → v.spent ≡ b → Numbered 0 (calls_by c r.log)
      either_way v at false e = let m = (r.each c v at).live e in subst (λ (k : ℕ). Numbered 0 (calls_by k r.log)) m.0 (subst (Numbered 0) (sym m.2.calls) m.2.numbers)
      either_way v at true e = let f = r.found c v at e in let m = (r.each 0 f.0 f.3).joined f.1 f.2 f.4 in subst (λ (k : ℕ). Numbered 0 (calls_by k r.log)) f.5 (subst (Numbered 0) (sym m.calls) m.numbers)

  -- a look: the seat is served where the ticket read is its own
  pub looks : (slots id : ℕ) (me : M) → me.0.stage ≡ 1 → me.0.spent ≡ false → Allows Rule slots id me 2 (λ n. n) (looked history home (step slots 2 0 0 none) me)
  looks slots id me waits live s r _ at _ = dite (ℕ_discrete n v.ticket) (λ e. hit e r.slot refl)
      (λ ne. (v, keeps, tt, stays s r 2 id v at, ((λ e. absurd (ne e)), λ _. refl)))
    where
      v : V
      v = me.0

      n : ℕ
      n = get_or s.words 2 0

      is : n ≡ r.serving
      is = ap (λ (ws : List ℕ). get_or ws 2 0) r.words

      Out : Type 0
      Out = (w : V) × (a : Act (Option O)) × Rattle.atomic_table.specs.Table.Valid s.homes me.1 a × Rule (stepped s 2 n id me.1 w a) × looked history home (step slots 2 0 0 none) me n (w, Rattle.atomic_table.specs.Table.carried_after me.1 a)

      takes_it : (x : Option O) → n ≡ v.ticket → r.slot ≡ some x → (o : O) × (x ≡ Some o) × (history o ≡ r.log) × (home o ≡ made) → Out
      takes_it x e full t = let o : O = t.0 in let w : V = record v { stage = 2; base = history o } in let sits = r.each id v at in let mine : v.ticket ≡ r.serving = sym e ∙ is in (
        w,
        takes 0 (Some o),
        ap (λ (l : List (maybe.Option (Option O))). get_elem? l 0) r.homes ∙ (ap (λ (h : maybe.Option (Option O)). some h) full ∙ ap (λ (h : Option O). some (some h)) t.1),
        moves s r r.log r.serving r.out none (set s.words 2 n) (set s.homes 0 none) id v w at live live refl
            (ap (λ (ws : List ℕ). set ws 2 (get_or ws 2 0)) r.words)
            (ap (λ (l : List (maybe.Option (Option O))). set l 0 none) r.homes)
            r.short r.low (omega arith)
            record {
              stages = omega arith;
              ticket = λ _. sits.ticket (omega arith);
              served = λ _. mine;
              base = λ _. t.2;
              stepped = λ a. absurd (omega arith);
              live = sits.live;
              ended = λ a. absurd (clash (sym live ∙ a));
              own = sits.own;
              joined = sits.joined;
              collects = sits.collects;
              maker = sits.maker;
            }
            (λ j u _ p. r.each j u p)
            (λ j u ne p _ b. r.apart id j v u at p (λ k. ne (sym k)) (omega arith) b)
            (requeue s r id v w at (omega arith) refl)
            (inr (refl, refl))
            (λ y k. absurd (some-ne-none y (sym k)))
            (λ _. (id, w, set_here s.views id w (at_below s.views id v at), omega arith))
            (λ _. refl)
            (λ j u ne p b. refl)
            r.known,
        (
          (λ _. record {
            object = o;
            now = refl;
            home_is = (sits.live live).1 ∙ ap (λ (h : H). Some h) (sym t.3);
            made = subst (λ (l : List E). Made l v.caller v.seen v.mine) (sym t.2) (sits.live live).2;
            numbered = subst AllNumbered (sym t.2) (numbered_all s r);
            fewer = let c = calls_fewer v.caller r.log in subst (λ (l : List E × List E). length l.0 ≤ length l.1) (λ k. ((sits.live live).2.calls k, sym t.2 k)) c;
          }),
          λ ne. absurd (ne e),
        ),
      )

      hit : n ≡ v.ticket → (h : maybe.Option (Option O)) → r.slot ≡ h → Out
      hit e none empty = let t = r.away empty in absurd (alone s r id t.0 v t.1 at t.2
          (λ same. let x : v.stage ≡ t.1.stage = ap (λ (m : V). m.stage) (some-injective v t.1 (sym at ∙ (ap (λ (m : ℕ). get_elem? s.views m) (sym same) ∙ t.2))) in let y = t.3 in omega arith)
          (omega arith) (sym e ∙ is) t.3)
      hit e (some x) full = takes_it x e full (r.at_home x full)

  -- an entry: the seat that is served makes the history one longer
  pub adds : (slots id : ℕ) (me : M) (e : E) (named : List E) → named ≡ e ∷ [] → me.0.stage ≡ 2 → me.0.spent ≡ false → e.caller ≡ me.0.caller → e.number ≡ length me.0.mine → length (me.0.base ++ named) < 2 ^ 59
      → Allows Rule slots id me 0 (λ n. (n + 1) % 2 ^ 64) (added named (step slots 0 1 0 none) me)
  adds slots id me e named names in_turn live caller number room s r _ at _ = (
    w,
    keeps,
    tt,
    moves s r log r.serving r.out r.slot (set s.words 0 ((n + 1) % 2 ^ 64)) s.homes id v w at live live refl
        (ap (λ (ws : List ℕ). set ws 0 ((get_or ws 0 0 + 1) % 2 ^ 64)) r.words ∙ ap (λ (k : ℕ). k ∷ (r.serving + r.out) % 2 ^ 64 ∷ r.serving ∷ []) longer)
        r.homes room r.low (omega arith)
        record {
          stages = omega arith;
          ticket = λ _. sits.ticket (omega arith);
          served = λ _. mine;
          base = λ a. absurd (omega arith);
          stepped = λ _. refl;
          live = λ _. (live_is.0, live_is.1, subst (λ (l : List E × List E). Made l.0 v.caller l.0 (v.mine ++ l.1)) (λ k. (sym log_is k, sym names k)) (made_own r.log e v.caller v.seen v.mine live_is.2 caller number));
          ended = λ a. absurd (clash (sym live ∙ a));
          own = λ _. begins_all log;
          joined = λ k x q. more x.caller x.seen x.mine (λ a. gone_apart s r id id k v v x at live at q (is_id a)) (sits.joined k x q);
          collects = sits.collects;
          maker = sits.maker;
        }
        (λ j u ne p. let old = r.each j u p in record {
          stages = old.stages;
          ticket = old.ticket;
          served = old.served;
          base = λ a. absurd (others j u ne p (omega arith));
          stepped = λ a. absurd (others j u ne p (omega arith));
          live = λ a. let t = old.live a in (t.0, t.1, more u.caller u.seen u.mine (λ b. ne (sym (is_id b ∙ t.0))) t.2);
          ended = old.ended;
          collects = old.collects;
          own = λ a. subst (λ (l : List E). Begins l u.own) (sym log_is) (begins_more r.log u.own (e ∷ []) (old.own a));
          joined = λ k x q. more x.caller x.seen x.mine (λ a. gone_apart s r id j k v u x at live p q (is_id a)) (old.joined k x q);
          maker = old.maker;
        })
        (λ j u ne p _ b. r.apart id j v u at p (λ k. ne (sym k)) (omega arith) b)
        (requeue s r id v w at (omega arith) refl)
        (inl refl)
        (λ x full. absurd (some-ne-none x (sym full ∙ empty)))
        (λ _. (id, w, set_here s.views id w (at_below s.views id v at), omega arith))
        (λ _. empty)
        (λ j u ne p b. empty)
        (λ c far. let here = at_below s.views id v at in let count = r.views in ap (calls_by c) log_is ∙ (calls-append c r.log (e ∷ []) ∙ (ap (λ (l : List E). l ++ calls_by c (e ∷ [])) (r.known c far) ∙ calls_other c e (λ b. let x : id ≡ c = is_id b in omega arith)))),
    refl,
  )
    where
      v : V
      v = me.0

      log : List E
      log = v.base ++ named

      w : V
      w = record v { stage = 3; seen = log; own = log; mine = v.mine ++ named }

      n : ℕ
      n = get_or s.words 0 0

      sits : Sits made r.log r.serving r.out r.seats id v
      sits = r.each id v at

      live_is : (v.caller ≡ id) × (v.home ≡ Some made) × Made r.log v.caller v.seen v.mine
      live_is = sits.live live

      mine : v.ticket ≡ r.serving
      mine = sits.served (omega arith)

      empty : r.slot ≡ none
      empty = r.held id v at (omega arith)

      log_is : log ≡ r.log ++ e ∷ []
      log_is = λ k. sits.base in_turn k ++ names k

      is_id : {c : ℕ} → e.caller ≡ c → id ≡ c
      is_id a = sym live_is.0 ∙ (sym caller ∙ a)

      longer : (length r.log + 1) % 2 ^ 64 ≡ length log
      longer = let a = ap (λ (l : List E). length l) log_is in let b = length-append r.log (e ∷ []) in let c = r.short in omega arith

      more : (c : ℕ) (seen mine : List E) → e.caller ≢ c → Made r.log c seen mine → Made log c seen mine
      more c seen mine ne m = subst (λ (l : List E). Made l c seen mine) (sym log_is) (made_more r.log e c seen mine m ne)

      others : (j : ℕ) (u : V) → j ≢ id → get_elem? s.views j ≡ some u → 2 ≤ u.stage → ⊥
      others j u ne p b = alone s r id j v u at p ne (omega arith) mine b

  -- the queue after the served ticket is given up
  shorter : (log : List E) (serving out seats j : ℕ) (u : V) → serving < 2 ^ 64 → Sits made log serving (out + 1) seats j u → (0 < u.stage → u.ticket ≢ serving) → Sits made log ((serving + 1) % 2 ^ 64) out seats j u
  shorter log serving out seats j u low r apart = record {
    stages = r.stages;
    ticket = λ a. let t = r.ticket a in let l = t.1 in let far : t.0 ≢ 0 = λ z. apart a (t.2 ∙ first t.0 z) in
        (t.0 - 1, omega arith, t.2 ∙ (ap (λ (k : ℕ). k % 2 ^ 64) (let e : serving + t.0 ≡ (serving + 1) + (t.0 - 1) = omega arith in e) ∙ sym (mod-add-mod (serving + 1) (2 ^ 64) (t.0 - 1))));
    served = λ a. absurd (apart (omega arith) (r.served a));
    base = r.base;
    stepped = r.stepped;
    live = r.live;
    ended = r.ended;
    own = r.own;
    joined = r.joined;
    collects = r.collects;
    maker = r.maker;
  }
    where
      first : (k : ℕ) → k ≡ 0 → (serving + k) % 2 ^ 64 ≡ serving
      first k z = omega arith

  -- a turn that is given up: the object is home, and the next ticket is served
  pub leaves : (slots id : ℕ) (me : M) (o : O) → 2 ≤ me.0.stage → me.0.spent ≡ false → me.1 ≡ (0, Some o) ∷ [] → me.0.home ≡ Some (home o) → (me.0.stage ≡ 2 → history o ≡ me.0.base) → (me.0.stage ≡ 3 → history o ≡ me.0.seen)
      → Allows Rule slots id me 2 (λ n. (n + 1) % 2 ^ 64) (left (step slots 2 1 0 none) me)
  leaves slots id me o served live carried home_is at_two at_three s r _ at _ = (
    w,
    gives,
    tt,
    subst (λ (cs : List (ℕ × Option O)). Rule (stepped s 2 ((n + 1) % 2 ^ 64) id cs w gives)) (sym carried)
        (moves s r r.log ((r.serving + 1) % 2 ^ 64) (r.out - 1) (some (Some o)) (set s.words 2 ((n + 1) % 2 ^ 64)) (set s.homes 0 (some (Some o))) id v w at live live refl
        (ap (λ (ws : List ℕ). set ws 2 ((get_or ws 2 0 + 1) % 2 ^ 64)) r.words
        ∙ ap (λ (k : ℕ). length r.log ∷ k ∷ (r.serving + 1) % 2 ^ 64 ∷ []) (ap (λ (k : ℕ). k % 2 ^ 64) (let e : r.serving + r.out ≡ (r.serving + 1) + (r.out - 1) = omega (arith, some_out) in e) ∙ sym (mod-add-mod (r.serving + 1) (2 ^ 64) (r.out - 1))))
        (ap (λ (l : List (maybe.Option (Option O))). set l 0 (some (Some o))) r.homes)
        r.short (omega arith) (omega (arith, some_out))
        record {
          stages = omega arith;
          ticket = λ a. absurd (omega arith);
          served = λ a. absurd (omega arith);
          base = λ a. absurd (omega arith);
          stepped = λ a. absurd (omega arith);
          live = sits.live;
          ended = λ a. absurd (clash (sym live ∙ a));
          own = sits.own;
          joined = sits.joined;
          collects = sits.collects;
          maker = sits.maker;
        }
        (λ j u ne p. shorter r.log r.serving (r.out - 1) r.seats j u r.low (subst (λ (k : ℕ). Sits made r.log r.serving k r.seats j u) (let e : r.out ≡ (r.out - 1) + 1 = omega (arith, some_out) in e) (r.each j u p)) (λ b c. r.apart j id u v p at ne b (omega arith) (c ∙ sym mine)))
        (λ j u ne p a b. absurd (omega arith))
        (λ k l. let t = r.queued (k + 1) (omega (arith, some_out)) in (
          t.0,
          t.1,
          set_else s.views id t.0 w (λ same. tickets_differ r.serving 0 (k + 1) (omega arith) (omega (arith, some_out, bound)) (sym t.4 ∙ (ap (λ (m : V). m.ticket) (sym (some-injective v t.1 (sym at ∙ (ap (λ (m : ℕ). get_elem? s.views m) (sym same) ∙ t.2)))) ∙ (mine ∙ first r.low)))) ∙ t.2,
          t.3,
          t.4 ∙ (ap (λ (z : ℕ). z % 2 ^ 64) (let e : r.serving + (k + 1) ≡ (r.serving + 1) + k = omega arith in e) ∙ sym (mod-add-mod (r.serving + 1) (2 ^ 64) k)),
        ))
        (inr (refl, refl))
        (λ x full. (o, ap (opened x) (sym full), is_log, some_is (sym home_is ∙ (sits.live live).1)))
        (λ e. absurd (some-ne-none (Some o) e))
        (λ a. absurd (omega arith))
        (λ j u ne p b. absurd (alone s r id j v u at p ne (omega arith) mine b))
        r.known),
    ap (λ (cs : List (ℕ × Option O)). (w, Rattle.atomic_table.specs.Table.rest cs)) carried,
  )
    where
      v : V
      v = me.0

      w : V
      w = record v { stage = 0 }

      n : ℕ
      n = get_or s.words 2 0

      sits : Sits made r.log r.serving r.out r.seats id v
      sits = r.each id v at

      mine : v.ticket ≡ r.serving
      mine = sits.served served

      some_out : 0 < r.out
      some_out = let t = sits.ticket (omega arith) in let l = t.1 in omega arith

      bound : r.out ≤ 65
      bound = let a = waiting_few s.views in let b = r.waits in let c = r.views in let d = r.few in omega arith

      first : {a : ℕ} → a < 2 ^ 64 → a ≡ (a + 0) % 2 ^ 64
      first l = omega arith

      opened : Option O → maybe.Option (Option O) → Option O
      opened d none = d
      opened d (some x) = x

      some_is : {a b : H} → Some a ≡ Some b → a ≡ b
      some_is e = cc

      is_log : history o ≡ r.log
      is_log = dite (ℕ_discrete v.stage 2) (λ a. at_two a ∙ sits.base a) (λ a. let top = sits.stages in let b : v.stage ≡ 3 = omega arith in at_three b ∙ sits.stepped b)
