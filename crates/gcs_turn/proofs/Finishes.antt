-- What is known once all seats were joined into the first.
use Rattle.std.proofs.Common.{◌≡◌, ℕ, zero, suc, ◌+◌, ◌<◌, ◌≤◌, false, List, [], ◌∷◌, length, map, sym, refl, ap, ◌∙◌, subst, ⊎_elim, arith, Option, Some, eqb, cond}
use mathlib.Core.Option.{none, some, some-injective}
use mathlib.Core.Option as maybe
use lib.ListN.{get_elem?}
use Rattle.atomic_table.specs.Table.{State, Final, Seen}
use Rattle.atomic_table.proofs.Lists.{at_map}
use Rattle.atomic_table.specs.Seated.{TableId}
use Rattle.atomic_table.specs.declared.shared.Seat.{Seat}
use Rattle.gcs_turn.specs.declared.object.Entry.{Entry}
use Rattle.gcs_turn.specs.declared.view.View.{View}
use Rattle.gcs_turn.specs.declared.view.Joined.{Joined}
use Rattle.gcs_turn.specs.Turning.{calls_by, Numbered, Made, Sits, TurnRule}
use Rattle.gcs_turn.specs.Seating.{OfTurn, IsFirst}
use Rattle.gcs_turn.proofs.Histories.{at_below, there_is, at_cons}

module _ {C H O : Type 0} (history : O → List (Entry C)) (home : O → H) (made : H) where
  -- the object, with the history of which the first seat and all that it took in have seen a beginning
  pub record Ended (callers : ℕ) (v : View C H) (object : O) : Type 0 where
    pub home_is : home object ≡ made
    pub first : Made (history object) 0 v.own v.mine
    pub taken : (k : ℕ) (y : Joined C) → get_elem? v.joined k ≡ some y → Made (history object) y.caller y.seen y.mine
    pub all : (c : ℕ) → callers ≤ c → calls_by c (history object) ≡ []

  -- once the first seat has taken in all others, the object is in its slot
  pub ends : {z : TableId} {callers : ℕ} {x : Option O} (words : List ℕ) (slots : List (Option O)) (s : Seat (Option O) (View C H)) → IsFirst z callers s → s.me.0.spent ≡ false → s.me.0.stage ≡ 0 → 0 < callers
      → ((c : ℕ) → 0 < c → c < callers → (k : ℕ) × (y : Joined C) × (get_elem? s.me.0.joined k ≡ some y) × (y.caller ≡ c)) → Final (Seen (TurnRule history home made) s.id s.me.0) words slots → get_elem? slots 0 ≡ some x → (o : O) × (x ≡ Some o) × Ended callers s.me.0 o
  ends {z} {callers} {x} words slots s is_first live idle some_callers has_all final got = in_slot r.slot refl
    where
      v : View C H
      v = s.me.0

      t : State (Option O) (View C H)
      t = final.0

      r : TurnRule history home made t
      r = final.1.0

      at : get_elem? t.views s.id ≡ some v
      at = final.1.1

      sits : Sits made r.log r.serving r.out r.seats s.id v
      sits = r.each s.id v at

      maker : (s.id ≡ 0) × (v.made ≡ r.seats)
      maker = sits.maker (let n = is_first.made in omega (arith, some_callers))

      seats_are : r.seats ≡ callers
      seats_are = sym maker.1 ∙ is_first.made

      out_of_turn : (j : ℕ) (u : View C H) → get_elem? t.views j ≡ some u → 2 ≤ u.stage → ⊥
      out_of_turn zero u p l = let same : v.stage ≡ u.stage = ap (λ (m : View C H). m.stage) (some-injective v u (sym at ∙ (ap (λ (k : ℕ). get_elem? t.views k) maker.0 ∙ p))) in omega (arith, idle)
      out_of_turn (suc j) u p l = let n = at_below t.views (suc j) u p in let m = r.views in let y = has_all (suc j) (omega arith) (omega (arith, seats_are)) in let g = r.gone s.id v y.0 y.1 at y.2 in
          let same : u ≡ g.0 = some-injective u g.0 (sym p ∙ (ap (λ (k : ℕ). get_elem? t.views k) (sym y.3) ∙ g.1)) in
          let none_out : u.stage ≡ 0 = ap (λ (m : View C H). m.stage) same ∙ ((r.each y.1.caller g.0 g.1).ended g.2).0 in omega arith

      in_slot : (h : maybe.Option (Option O)) → r.slot ≡ h → (o : O) × (x ≡ Some o) × Ended callers v o
      in_slot none e = let a = r.away e in absurd (out_of_turn a.0 a.1 a.2 a.3)
      in_slot (some y) e = let a = r.at_home y e in
          let same : x ≡ y = some-injective x y (sym got ∙ final.4 0 y (ap (λ (l : List (maybe.Option (Option O))). get_elem? l 0) r.homes ∙ ap (λ (k : maybe.Option (Option O)). some k) e)) in (
            a.0,
            same ∙ a.1,
            record {
              home_is = a.3;
              first = subst (λ (l : List (Entry C)). Made l 0 v.own v.mine) (sym a.2) record {
                prefix = sits.own live;
                calls = ap (λ (k : ℕ). calls_by k r.log) (sym is_first.caller) ∙ (sits.live live).2.calls;
                numbers = (sits.live live).2.numbers;
              };
              taken = λ k y p. subst (λ (l : List (Entry C)). Made l y.caller y.seen y.mine) (sym a.2) (sits.joined k y p);
              all = λ c l. ap (calls_by c) a.2 ∙ r.known c (omega (arith, seats_are));
            },
          )

  -- the object that is taken out of the slot is that one
  pub closes : {z : TableId} {callers : ℕ} {x : Option O} {o : O} (words : List ℕ) (slots : List (Option O)) (s : Seat (Option O) (View C H)) → IsFirst z callers s → s.me.0.spent ≡ false → s.me.0.stage ≡ 0 → 0 < callers
      → ((c : ℕ) → 0 < c → c < callers → (k : ℕ) × (y : Joined C) × (get_elem? s.me.0.joined k ≡ some y) × (y.caller ≡ c)) → Final (Seen (TurnRule history home made) s.id s.me.0) words slots → get_elem? slots 0 ≡ some x → x ≡ Some o → Ended callers s.me.0 o
  closes {z} {callers} {x} {o} words slots s is_first live idle some_callers has_all final got taken_out = let t = ends words slots s is_first live idle some_callers has_all final got in
      subst (Ended callers s.me.0) (some_is (sym t.1 ∙ taken_out)) t.2
    where
      some_is : {a b : O} → Some a ≡ Some b → a ≡ b
      some_is e = cc

module _ {C A : Type 0} (told : A → Joined C) (first : A) (others passes : List A) (taken : List (Joined C)) (items : passes ≡ first ∷ others) (taken_is : taken ≡ map told others)
    (each : (i : ℕ) (p : A) → get_elem? passes i ≡ some p → (told p).caller ≡ i) where
  -- all passes but the first were taken in
  pub all_taken : (callers : ℕ) → length passes ≡ callers → (c : ℕ) → 0 < c → c < callers → (k : ℕ) × (y : Joined C) × (get_elem? taken k ≡ some y) × (y.caller ≡ c)
  all_taken callers count zero l h = absurd (omega arith)
  all_taken callers count (suc k) l h = let n = ap (λ (l : List A). length l) items in let t = there_is others k (omega arith) in
      (k, told t.0, ap (λ (l : List (Joined C)). get_elem? l k) taken_is ∙ at_map told others k t.0 t.1, each (suc k) t.0 (ap (λ (l : List A). get_elem? l (suc k)) items ∙ t.1))

  -- what is known of the first and of those taken in is known of each
  pub made_by_each : (log own mine : List (Entry C)) → own ≡ (told first).seen → mine ≡ (told first).mine → Made log 0 own mine → ((k : ℕ) (y : Joined C) → get_elem? taken k ≡ some y → Made log y.caller y.seen y.mine)
      → (i : ℕ) (p : A) → get_elem? passes i ≡ some p → Made log i (told p).seen (told p).mine
  made_by_each log own mine own_is mine_is by_first by_taken i p at = ⊎_elim
      (λ (e : (i ≡ 0) × (first ≡ p)). subst (λ (z : ℕ × A). Made log z.0 (told z.1).seen (told z.1).mine) (λ k. (sym e.0 k, e.1 k)) (subst (λ (z : List (Entry C) × List (Entry C)). Made log 0 z.0 z.1) (λ k. (own_is k, mine_is k)) by_first))
      (λ (e : (k : ℕ) × (i ≡ k + 1) × (get_elem? others k ≡ some p)). subst (λ (k : ℕ). Made log k (told p).seen (told p).mine) (each i p at) (by_taken e.0 (told p) (ap (λ (l : List (Joined C)). get_elem? l e.0) taken_is ∙ at_map told others e.0 p e.2)))
      (at_cons first others i p (ap (λ (l : List A). get_elem? l i) (sym items) ∙ at))

module _ {C H O : Type 0} where
  -- the seat of the caller 0 is the first
  pub first_of : {z : TableId} {h : H} {callers : ℕ} (s : Seat (Option O) (View C H)) → OfTurn z h callers s → s.me.0.caller ≡ 0 → IsFirst z callers s
  first_of {z} {h} {callers} s of zero_is = record {
    table = of.table;
    made = of.made ∙ ap (λ (k : ℕ). cond (eqb k 0) callers 0) zero_is;
    caller = zero_is;
  }

  -- a seat by its view
  pub of_view : (s : Seat (Option O) (View C H)) (v : View C H) (z : TableId) (h : H) (callers : ℕ) → s.me.0 ≡ v → s.table_id ≡ z → v.home ≡ Some h → v.made ≡ cond (eqb v.caller 0) callers 0 → v.joined ≡ [] → v.own ≡ v.seen → v.seen ≡ [] → v.mine ≡ [] → OfTurn z h callers s
  of_view s v z h callers e table home_is made joined own none_seen none_mine = record {
    table = table;
    home_is = ap (λ (m : View C H). m.home) e ∙ home_is;
    made = subst (λ (m : View C H). m.made ≡ cond (eqb m.caller 0) callers 0) (sym e) made;
    joined = ap (λ (m : View C H). m.joined) e ∙ joined;
    own = subst (λ (m : View C H). m.own ≡ m.seen) (sym e) own;
    calls = subst (λ (m : View C H). calls_by m.caller m.seen ≡ m.mine) (sym e) (ap (calls_by v.caller) none_seen ∙ sym none_mine);
    numbers = λ c. subst (λ (m : View C H). Numbered 0 (calls_by c m.seen)) (sym e) (subst (λ (l : List (Entry C)). Numbered 0 (calls_by c l)) (sym none_seen) tt);
  }
