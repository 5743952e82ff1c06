-- The rule holds at the start, and stays where a seat is split from the first one or joined into it.
use Rattle.std.proofs.Common.{◌≡◌, ◌≢◌, ℕ, zero, suc, ◌+◌, ◌<◌, ◌≤◌, min, Bool, true, false, cond, List, [], ◌∷◌, ◌++◌, length, set, sym, refl, ap, ◌∙◌, subst, ⊎_elim, inl, inr, ◌⊎◌, arith, Option, Some, length-set, length-append, append-nil}
use Rattle.std.proofs.lemmas.Bool.{lt-ltb, le-ltb}
use mathlib.Core.Logic.{dite}
use mathlib.Core.Option.{some, some-injective, some-ne-none}
use native.Mathlib.Decide.{ℕ_discrete, dec_le}
use lib.ListN.{get_elem?}
use Rattle.atomic_table.specs.Table.{State, Me, Splits, Joins, opening}
use Rattle.atomic_table.proofs.Lists.{at_set, set_here, set_else, at_snoc, at_longer, at_last}
use Rattle.gcs_turn.specs.declared.object.Entry.{Entry}
use Rattle.gcs_turn.specs.declared.view.View.{View}
use Rattle.gcs_turn.specs.declared.view.Joined.{Joined}
use Rattle.gcs_turn.specs.Turning.{Begins, Made, newcomer, waiting, spent_view, longer, triple, one_more, next_seat, taken_in, Sits, TurnRule}
use Rattle.gcs_turn.proofs.Histories.{waiting-set, at_below, at_end, clash, each_after}

module _ {C H O : Type 0} (history : O → List (Entry C)) (home : O → H) (made : H) where
  abbrev E : Type 0
  E = Entry C

  abbrev V : Type 0
  V = View C H

  abbrev St : Type 0
  St = State (Option O) V

  abbrev M : Type 0
  M = Me (Option O) V

  abbrev Rule : St → Type 0
  Rule = TurnRule history home made

  -- at the start the object is at home, with an empty history, and there is one seat
  pub starts : (o : O) → history o ≡ [] → home o ≡ made → Rule (opening (0 ∷ 0 ∷ 0 ∷ []) (Some o ∷ []) (record (newcomer 0 (Some made) []) { made = 1 }))
  starts o fresh is = record {
    log = [];
    out = 0;
    serving = 0;
    seats = 1;
    slot = some (Some o);
    words = refl;
    homes = refl;
    views = refl;
    short = omega arith;
    low = omega arith;
    few = omega arith;
    waits = refl;
    each = λ j u p. let t = one_view first j u p in subst (λ (x : ℕ × V). Sits made [] 0 0 1 x.0 x.1) (λ i. (sym t.0 i, t.1 i)) record {
      stages = omega arith;
      ticket = λ a. absurd (omega arith);
      served = λ a. absurd (omega arith);
      base = λ a. absurd (omega arith);
      stepped = λ a. absurd (omega arith);
      live = λ _. (refl, refl, record { prefix = ([], refl); calls = refl; numbers = tt });
      own = λ _. ([], refl);
      ended = λ a. absurd (clash a);
      joined = λ k x q. absurd (some-ne-none x (sym q));
      collects = λ k x q. absurd (some-ne-none x (sym q));
      maker = λ _. (refl, refl);
    };
    apart = λ i j a b p q ne _ _ _. ne ((one_view first i a p).0 ∙ sym (one_view first j b q).0);
    queued = λ k l. absurd (omega arith);
    longest = (0, first, refl, refl);
    at_home = λ x e. (o, sym (some-injective (Some o) x e), fresh, is);
    away = λ e. absurd (some-ne-none (Some o) e);
    held = λ j u p l. let t = one_view first j u p in let x : 0 ≡ u.stage = ap (λ (m : V). m.stage) t.1 in absurd (omega arith);
    known = λ _ _. refl;
    gone = λ j u k x p q. absurd (some-ne-none x (sym q ∙ ap (λ (m : V). get_elem? m.joined k) (sym (one_view first j u p).1)));
    found = λ j u p e. absurd (clash (ap (λ (m : V). m.spent) (one_view first j u p).1 ∙ e));
  }
    where
      first : V
      first = record (newcomer 0 (Some made) []) { made = 1 }

      one_view : (v : V) (j : ℕ) (u : V) → get_elem? (v ∷ []) j ≡ some u → (j ≡ 0) × (v ≡ u)
      one_view v zero u e = (refl, some-injective v u e)
      one_view v (suc j) u e = absurd (some-ne-none u (sym e))

  -- one view more has a ticket, or none more has
  waiting-snoc : (l : List V) (a : V) → waiting (l ++ a ∷ []) ≡ waiting l + min a.stage 1
  waiting-snoc [] a = omega arith
  waiting-snoc (x ∷ xs) a = let r = waiting-snoc xs a in omega arith

  -- a seat more: the first seat counts it, and it has seen what the first has
  pub splits : (id : ℕ) (v : V) → v.spent ≡ false → 0 < v.made → v.made < 65 → Splits Rule id v (one_more v) (next_seat v)
  splits id v live maker room s r at = record {
    log = r.log;
    out = r.out;
    serving = r.serving;
    seats = r.seats + 1;
    slot = r.slot;
    words = r.words;
    homes = r.homes;
    views = let a = length-append vs (next ∷ []) in let b = length-set s.views id left_ in let c = r.views in omega arith;
    short = r.short;
    low = r.low;
    few = omega (arith, count);
    waits = waiting-snoc vs next ∙ (let sum = waiting-set s.views id v left_ at in let was = r.waits in omega arith);
    each = λ j u p. ⊎_elim (λ (q : get_elem? vs j ≡ some u). each_after s.views id left_ (Sits made r.log r.serving r.out (r.seats + 1)) mine others j u q)
        (λ (q : (j ≡ length vs) × (next ≡ u)). subst (λ (x : ℕ × V). Sits made r.log r.serving r.out (r.seats + 1) x.0 x.1) (λ i. (sym (q.0 ∙ long) i, q.1 i)) new)
        (at_end vs next u j p);
    apart = λ i j a b p q ne x y. ⊎_elim (λ (z : get_elem? vs i ≡ some a). ⊎_elim (λ (o : get_elem? vs j ≡ some b).
        let m = was i a z in let n = was j b o in λ e. r.apart i j m.0 n.0 m.1 n.1 ne (subst (λ (k : ℕ). 0 < k) m.2 x) (subst (λ (k : ℕ). 0 < k) n.2 y) (sym m.3 ∙ (e ∙ n.3)))
        (λ (o : (j ≡ length vs) × (next ≡ b)). absurd (let k : 0 ≡ b.stage = ap (λ (m : V). m.stage) o.1 in omega arith)) (at_end vs next b j q))
        (λ (z : (i ≡ length vs) × (next ≡ a)). absurd (let k : 0 ≡ a.stage = ap (λ (m : V). m.stage) z.1 in omega arith)) (at_end vs next a i p);
    queued = λ k l. let t = r.queued k l in let f = still t.0 t.1 t.2 in (t.0, f.0, f.1, subst (λ (k : ℕ). 0 < k) (sym f.2) t.3, f.3 ∙ t.4);
    longest = let l = r.longest in let f = still l.0 l.1 l.2 in (l.0, f.0, f.1, f.4 ∙ l.3);
    at_home = r.at_home;
    away = λ e. let t = r.away e in let f = still t.0 t.1 t.2 in (t.0, f.0, f.1, subst (λ (k : ℕ). 2 ≤ k) (sym f.2) t.3);
    held = λ j u p l. ⊎_elim (λ (q : get_elem? vs j ≡ some u). let m = was j u q in r.held j m.0 m.1 (subst (λ (k : ℕ). 2 ≤ k) m.2 l))
        (λ (q : (j ≡ length vs) × (next ≡ u)). absurd (let k : 0 ≡ u.stage = ap (λ (m : V). m.stage) q.1 in omega arith)) (at_end vs next u j p);
    known = λ c l. r.known c (omega arith);
    gone = λ j u k x p q. ⊎_elim (λ (z : get_elem? vs j ≡ some u). let m = was j u z in let g = r.gone j m.0 k x m.1 (ap (λ (l : List (Joined C)). get_elem? l k) (sym m.4) ∙ q) in let f = still x.caller g.0 g.1 in (f.0, f.1, f.5 ∙ g.2))
        (λ (z : (j ≡ length vs) × (next ≡ u)). absurd (some-ne-none x (sym q ∙ ap (λ (m : V). get_elem? m.joined k) (sym z.1)))) (at_end vs next u j p);
    found = λ j y p e. ⊎_elim (λ (z : get_elem? vs j ≡ some y). let m = was j y z in let g = r.found j m.0 m.1 (sym m.5 ∙ e) in let f = still 0 g.0 g.3 in (f.0, g.1, g.2, f.1, ap (λ (l : List (Joined C)). get_elem? l g.1) f.6 ∙ g.4, g.5))
        (λ (z : (j ≡ length vs) × (next ≡ y)). absurd (clash (ap (λ (m : V). m.spent) z.1 ∙ e))) (at_end vs next y j p);
  }
    where
      left_ : V
      left_ = one_more v

      next : V
      next = next_seat v

      vs : List V
      vs = set s.views id left_

      sits : Sits made r.log r.serving r.out r.seats id v
      sits = r.each id v at

      count : r.seats < 65
      count = let t = sits.maker maker in let e = t.1 in omega arith

      long : length vs ≡ v.made
      long = length-set s.views id left_ ∙ (r.views ∙ sym (sits.maker maker).1)

      mine : Sits made r.log r.serving r.out (r.seats + 1) id left_
      mine = record {
        stages = sits.stages;
        ticket = sits.ticket;
        served = sits.served;
        base = sits.base;
        stepped = sits.stepped;
        live = sits.live;
        own = sits.own;
        ended = λ a. absurd (clash (sym live ∙ a));
        joined = sits.joined;
        collects = λ k x q. omega arith;
        maker = λ _. ((sits.maker maker).0, ap (λ (k : ℕ). k + 1) (sits.maker maker).1);
      }

      others : (j : ℕ) (u : V) → j ≢ id → get_elem? s.views j ≡ some u → Sits made r.log r.serving r.out (r.seats + 1) j u
      others j u ne p = let old = r.each j u p in record {
        stages = old.stages;
        ticket = old.ticket;
        served = old.served;
        base = old.base;
        stepped = old.stepped;
        live = old.live;
        own = old.own;
        ended = old.ended;
        joined = old.joined;
        collects = old.collects;
        maker = λ a. absurd (ne ((old.maker a).0 ∙ sym (sits.maker maker).0));
      }

      new : Sits made r.log r.serving r.out (r.seats + 1) v.made next
      new = record {
        stages = omega arith;
        ticket = λ a. absurd (omega arith);
        served = λ a. absurd (omega arith);
        base = λ a. absurd (omega arith);
        stepped = λ a. absurd (omega arith);
        live = λ _. (refl, (sits.live live).1, record { prefix = (sits.live live).2.prefix; calls = r.known v.made (let e = (sits.maker maker).1 in omega arith); numbers = tt });
        own = λ _. (sits.live live).2.prefix;
        ended = λ a. absurd (clash a);
        joined = λ k x q. absurd (some-ne-none x (sym q));
        collects = λ k x q. absurd (some-ne-none x (sym q));
        maker = λ a. absurd (omega arith);
      }

      -- a view of the old seats, as it was
      was : (j : ℕ) (u : V) → get_elem? vs j ≡ some u → (m : V) × (get_elem? s.views j ≡ some m) × (u.stage ≡ m.stage) × (u.ticket ≡ m.ticket) × (u.joined ≡ m.joined) × (u.spent ≡ m.spent)
      was j u p = ⊎_elim (λ (t : (j ≡ id) × (left_ ≡ u)). (v, ap (λ (k : ℕ). get_elem? s.views k) t.0 ∙ at, ap (λ (m : V). m.stage) (sym t.1), ap (λ (m : V). m.ticket) (sym t.1), ap (λ (m : V). m.joined) (sym t.1), ap (λ (m : V). m.spent) (sym t.1)))
          (λ (t : (j ≢ id) × (get_elem? s.views j ≡ some u)). (u, t.1, refl, refl, refl, refl)) (at_set s.views id j left_ u p)

      -- and as it is
      still : (j : ℕ) (u : V) → get_elem? s.views j ≡ some u
          → (m : V) × (get_elem? (vs ++ next ∷ []) j ≡ some m) × (m.stage ≡ u.stage) × (m.ticket ≡ u.ticket) × (m.seen ≡ u.seen) × (m.spent ≡ u.spent) × (m.joined ≡ u.joined)
      still j u p = dite (ℕ_discrete j id)
          (λ e. let same : v ≡ u = some-injective v u (sym at ∙ (ap (λ (m : ℕ). get_elem? s.views m) (sym e) ∙ p)) in (
            left_,
            at_longer vs (next ∷ []) j left_ (ap (λ (k : ℕ). get_elem? vs k) e ∙ set_here s.views id left_ (at_below s.views id v at)),
            ap (λ (m : V). m.stage) same,
            ap (λ (m : V). m.ticket) same,
            ap (λ (m : V). m.seen) same,
            ap (λ (m : V). m.spent) same,
            ap (λ (m : V). m.joined) same,
          ))
          (λ e. (u, at_longer vs (next ∷ []) j u (set_else s.views id j left_ e ∙ p), refl, refl, refl, refl, refl))

  -- the longer of two lists is one of them
  longer_is : (xs ys : List E) → ((length xs < length ys) × (longer xs ys ≡ ys)) ⊎ ((length ys ≤ length xs) × (longer xs ys ≡ xs))
  longer_is xs ys = dite (dec_le (suc (length xs)) (length ys))
      (λ l. inl (l, ap (λ (b : Bool). cond b ys xs) (lt-ltb (length xs) (length ys) l)))
      (λ n. inr (omega arith, ap (λ (b : Bool). cond b ys xs) (le-ltb (length xs) (length ys) (omega arith))))

  -- a beginning that is as long as the list is the list
  prefix_whole : (log xs : List E) → Begins log xs → length log ≤ length xs → xs ≡ log
  prefix_whole log xs b l = let e = ap (λ (k : List E). length k) b.1 in let a = length-append xs b.0 in none_left b.0 b.1 (omega arith)
    where
      none_left : (rest : List E) → log ≡ xs ++ rest → length rest ≡ 0 → xs ≡ log
      none_left [] e z = sym (e ∙ append-nil xs)
      none_left (y ∷ ys) e z = absurd (omega arith)

  -- a beginning is no longer than the list
  begins_length : (log xs : List E) → Begins log xs → length xs ≤ length log
  begins_length log xs b = let e = ap (λ (k : List E). length k) b.1 in let a = length-append xs b.0 in omega arith

  -- a seat joined: the first has what it told, and its view is spent
  pub joins : (id : ℕ) (v : V) (other : ℕ) (w : V) → v.spent ≡ false → w.spent ≡ false → v.stage ≡ 0 → w.stage ≡ 0 → 0 < v.made
      → Joins Rule id v other w (taken_in v w) spent_view
  joins id v other w live live' idle idle' maker s r at apart there' = record {
    log = r.log;
    out = r.out;
    serving = r.serving;
    seats = r.seats;
    slot = r.slot;
    words = r.words;
    homes = r.homes;
    views = length-set vs other spent_view ∙ (length-set s.views id both ∙ r.views);
    short = r.short;
    low = r.low;
    few = r.few;
    waits = let a = waiting-set s.views id v both at in let b = waiting-set vs other w spent_view there' in let c = r.waits in omega arith;
    each = cases (Sits made r.log r.serving r.out r.seats) mine ended (λ j u _ _ p. r.each j u p);
    apart = λ i j a b p q ne x y. r.apart i j a b (ticketed i a p x) (ticketed j b q y) ne x y;
    queued = λ k l. let t = r.queued k l in (t.0, t.1, served t.0 t.1 t.2 t.3, t.3, t.4);
    longest = let l = r.longest in dite (ℕ_discrete l.0 id)
        (λ e. (id, both, both_there, of_v (ap (λ (m : V). m.seen) (some-injective v l.1 (sym at ∙ (ap (λ (m : ℕ). get_elem? s.views m) (sym e) ∙ l.2))) ∙ l.3)))
        (λ ne. dite (ℕ_discrete l.0 other)
        (λ e. (id, both, both_there, of_w (ap (λ (m : V). m.seen) (some-injective w l.1 (sym there ∙ (ap (λ (m : ℕ). get_elem? s.views m) (sym e) ∙ l.2))) ∙ l.3)))
        (λ ne'. (l.0, l.1, still l.0 l.1 ne ne' l.2, l.3)));
    at_home = r.at_home;
    away = λ e. let t = r.away e in (t.0, t.1, served t.0 t.1 t.2 (let x = t.3 in omega arith), t.3);
    held = λ j u p l. r.held j u (ticketed j u p (omega arith)) l;
    known = r.known;
    gone = λ j u k x p q. cases (λ _ u. (k : ℕ) (x : Joined C) → get_elem? u.joined k ≡ some x → (y : V) × (get_elem? end x.caller ≡ some y) × (y.spent ≡ true))
        (λ k x q. ⊎_elim (λ (z : get_elem? v.joined k ≡ some x). still_gone x (r.gone id v k x at z))
        (λ (z : triple w ≡ x). (spent_view, ap (λ (m : ℕ). get_elem? end m) (ap (λ (m : Joined C). m.caller) (sym z) ∙ (theirs.live live').0) ∙ spent_there, refl)) (at_snoc v.joined (triple w) x k q))
        (λ k x q. absurd (some-ne-none x (sym q)))
        (λ j u _ _ p k x q. still_gone x (r.gone j u k x p q)) j u p k x q;
    found = cases (λ j y. y.spent ≡ true → (v' : V) × (k : ℕ) × (x : Joined C) × (get_elem? end 0 ≡ some v') × (get_elem? v'.joined k ≡ some x) × (x.caller ≡ j))
        (λ e. absurd (clash (sym live ∙ e)))
        (λ _. (both, length v.joined, triple w, at_zero, at_last v.joined (triple w) (length v.joined) refl, (theirs.live live').0))
        (λ j y _ _ p e. let f = r.found j y p e in (
          both,
          f.1,
          f.2,
          at_zero,
          at_longer v.joined (triple w ∷ []) f.1 f.2 (ap (λ (m : V). get_elem? m.joined f.1) (some-injective v f.0 (sym at ∙ (ap (λ (m : ℕ). get_elem? s.views m) (sits.maker maker).0 ∙ f.3))) ∙ f.4),
          f.5,
        ));
  }
    where
      both : V
      both = taken_in v w

      vs : List V
      vs = set s.views id both

      end : List V
      end = set vs other spent_view

      there : get_elem? s.views other ≡ some w
      there = sym (set_else s.views id other both apart) ∙ there'

      sits : Sits made r.log r.serving r.out r.seats id v
      sits = r.each id v at

      theirs : Sits made r.log r.serving r.out r.seats other w
      theirs = r.each other w there

      both_there : get_elem? end id ≡ some both
      both_there = set_else vs other id spent_view (λ e. apart (sym e)) ∙ set_here s.views id both (at_below s.views id v at)

      at_zero : get_elem? end 0 ≡ some both
      at_zero = ap (λ (m : ℕ). get_elem? end m) (sym (sits.maker maker).0) ∙ both_there

      spent_there : get_elem? end other ≡ some spent_view
      spent_there = set_here vs other spent_view (at_below vs other w there')

      still : (j : ℕ) (u : V) → j ≢ id → j ≢ other → get_elem? s.views j ≡ some u → get_elem? end j ≡ some u
      still j u ne ne' p = set_else vs other j spent_view ne' ∙ (set_else s.views id j both ne ∙ p)

      cases : (P : ℕ → V → Type 0) → P id both → P other spent_view → ((j : ℕ) (u : V) → j ≢ id → j ≢ other → get_elem? s.views j ≡ some u → P j u) → (j : ℕ) (u : V) → get_elem? end j ≡ some u → P j u
      cases P a b c = each_after vs other spent_view P b (λ j u ne q. each_after s.views id both (λ j u. j ≢ other → P j u) (λ _. a) (λ j u ne' p ne. c j u ne' ne p) j u q ne)

      -- a view with a ticket is neither of the two
      ticketed : (j : ℕ) (u : V) → get_elem? end j ≡ some u → 0 < u.stage → get_elem? s.views j ≡ some u
      ticketed = cases (λ j u. 0 < u.stage → get_elem? s.views j ≡ some u) (λ l. absurd (omega (arith, idle))) (λ l. absurd (omega arith)) (λ j u _ _ p _. p)

      served : (j : ℕ) (u : V) → get_elem? s.views j ≡ some u → 0 < u.stage → get_elem? end j ≡ some u
      served j u p l = still j u
          (λ e. let x : v.stage ≡ u.stage = ap (λ (m : V). m.stage) (some-injective v u (sym at ∙ (ap (λ (m : ℕ). get_elem? s.views m) (sym e) ∙ p))) in omega (arith, idle))
          (λ e. let x : w.stage ≡ u.stage = ap (λ (m : V). m.stage) (some-injective w u (sym there ∙ (ap (λ (m : ℕ). get_elem? s.views m) (sym e) ∙ p))) in omega (arith, idle')) p

      still_gone : (x : Joined C) → (y : V) × (get_elem? s.views x.caller ≡ some y) × (y.spent ≡ true) → (y : V) × (get_elem? end x.caller ≡ some y) × (y.spent ≡ true)
      still_gone x y = (
        y.0,
        still x.caller y.0
            (λ e. clash (sym live ∙ (ap (λ (m : V). m.spent) (some-injective v y.0 (sym at ∙ (ap (λ (m : ℕ). get_elem? s.views m) (sym e) ∙ y.1))) ∙ y.2)))
            (λ e. clash (sym live' ∙ (ap (λ (m : V). m.spent) (some-injective w y.0 (sym there ∙ (ap (λ (m : ℕ). get_elem? s.views m) (sym e) ∙ y.1))) ∙ y.2))) y.1,
        y.2,
      )

      of_v : v.seen ≡ r.log → longer v.seen w.seen ≡ r.log
      of_v e = ⊎_elim (λ (t : (length v.seen < length w.seen) × (longer v.seen w.seen ≡ w.seen)). let a = begins_length r.log w.seen (theirs.live live').2.prefix in let b = ap (λ (l : List E). length l) e in let c = t.0 in absurd (omega arith))
          (λ (t : (length w.seen ≤ length v.seen) × (longer v.seen w.seen ≡ v.seen)). t.1 ∙ e) (longer_is v.seen w.seen)

      of_w : w.seen ≡ r.log → longer v.seen w.seen ≡ r.log
      of_w e = ⊎_elim (λ (t : (length v.seen < length w.seen) × (longer v.seen w.seen ≡ w.seen)). t.1 ∙ e)
          (λ (t : (length w.seen ≤ length v.seen) × (longer v.seen w.seen ≡ v.seen)). t.1 ∙ prefix_whole r.log v.seen (sits.live live).2.prefix (let b = ap (λ (l : List E). length l) e in let c = t.0 in omega arith)) (longer_is v.seen w.seen)

      prefix_both : Begins r.log (longer v.seen w.seen)
      prefix_both = ⊎_elim (λ (t : (length v.seen < length w.seen) × (longer v.seen w.seen ≡ w.seen)). subst (Begins r.log) (sym t.1) (theirs.live live').2.prefix)
          (λ (t : (length w.seen ≤ length v.seen) × (longer v.seen w.seen ≡ v.seen)). subst (Begins r.log) (sym t.1) (sits.live live).2.prefix) (longer_is v.seen w.seen)

      mine : Sits made r.log r.serving r.out r.seats id both
      mine = record {
        stages = sits.stages;
        ticket = sits.ticket;
        served = sits.served;
        base = sits.base;
        stepped = λ a. absurd (omega (arith, idle));
        live = λ _. let t = sits.live live in (t.0, t.1, record { prefix = prefix_both; calls = t.2.calls; numbers = t.2.numbers });
        own = sits.own;
        ended = λ a. absurd (clash (sym live ∙ a));
        joined = λ k x q. ⊎_elim (λ (z : get_elem? v.joined k ≡ some x). sits.joined k x z)
            (λ (z : triple w ≡ x). subst (λ (m : Joined C). Made r.log m.caller m.seen m.mine) z (theirs.live live').2) (at_snoc v.joined (triple w) x k q);
        collects = λ _ _ _. maker;
        maker = sits.maker;
      }

      ended : Sits made r.log r.serving r.out r.seats other spent_view
      ended = record {
        stages = omega arith;
        ticket = λ a. absurd (omega arith);
        served = λ a. absurd (omega arith);
        base = λ a. absurd (omega arith);
        stepped = λ a. absurd (omega arith);
        live = λ a. absurd (clash (sym a));
        own = λ a. absurd (clash (sym a));
        ended = λ _. (refl, refl, refl);
        joined = λ k x q. absurd (some-ne-none x (sym q));
        collects = λ k x q. absurd (some-ne-none x (sym q));
        maker = λ a. absurd (omega arith);
      }
