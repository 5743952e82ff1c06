-- The rule of the turn cell, and what each step tells.
-- Word 0 counts the entries of the history, word 1 is the next ticket, and word 2 the ticket that is served. The one slot has the object,
-- unless the seat that is served has it out. A seat's stage is 0 without a ticket, 1 with one, 2 once it is served, 3 once its entry was added.
use Rattle.std.specs.Prelude.{◌≡◌, ◌≢◌, ℕ, ◌+◌, ◌%◌, ◌^◌, ◌<◌, ◌≤◌, min, true, false, eqb, ltb, cond, List, [], ◌∷◌, ◌++◌, length, Option, Some, None}
use mathlib.Core.Option.{some, none}
use mathlib.Core.Option as maybe
use lib.ListN.{get_elem?}
use Rattle.atomic_table.specs.Table.{State, Me, Step}
use Rattle.gcs_turn.specs.declared.object.Entry.{Entry}
use Rattle.gcs_turn.specs.declared.view.View.{View}
use Rattle.gcs_turn.specs.declared.view.Joined.{Joined}

-- xs begins with ys
abbrev pub Begins : {A : Type 0} → List A → List A → Type 0
Begins {A} xs ys = (rest : List A) × (xs ≡ ys ++ rest)

module _ {C : Type 0} where
  -- the entries of one caller, in order
  abbrev pub calls_by : ℕ → List (Entry C) → List (Entry C)
  calls_by c [] = []
  calls_by c (e ∷ es) = cond (eqb e.caller c) (e ∷ calls_by c es) (calls_by c es)

  -- the entries are numbered from n on
  abbrev pub Numbered : ℕ → List (Entry C) → Type 0
  Numbered n [] = Unit {0}
  Numbered n (e ∷ es) = (e.number ≡ n) × Numbered (n + 1) es

  -- each caller's entries are numbered from 0, so no two have the same caller and number
  abbrev pub AllNumbered : List (Entry C) → Type 0
  AllNumbered log = (c : ℕ) → Numbered 0 (calls_by c log)

  -- a caller has seen a beginning of the history, and made these calls in it and no others
  pub record Made (log : List (Entry C)) (caller : ℕ) (seen mine : List (Entry C)) : Type 0 where
    pub prefix : Begins log seen
    pub calls : calls_by caller log ≡ mine
    pub numbers : Numbered 0 mine

  -- the new history is what was seen before, entries of others, and then this entry, whose answer is a
  pub record Called {A : Type 0} (answer : List (Entry C) → Entry C → A → Type 0) (caller : ℕ) (seen mine seen' mine' : List (Entry C)) (e : Entry C) (a : A) : Type 0 where
    pub others : List (Entry C)
    pub foreign : calls_by caller others ≡ []
    pub now_seen : seen' ≡ (seen ++ others) ++ e ∷ []
    pub now_mine : mine' ≡ mine ++ e ∷ []
    pub answered : answer (seen ++ others) e a

  -- the longer of two lists, the first where they are as long
  abbrev pub longer : List (Entry C) → List (Entry C) → List (Entry C)
  longer xs ys = cond (ltb (length xs) (length ys)) ys xs

module _ {C H : Type 0} where
  -- a seat that has seen this and has made no call
  abbrev pub newcomer : ℕ → Option H → List (Entry C) → View C H
  newcomer c home seen = record { caller = c; made = 0; spent = false; home = home; seen = seen; own = seen; mine = []; stage = 0; ticket = 0; base = []; joined = [] }

  -- what is left of a seat that was joined into another
  abbrev pub spent_view : View C H
  spent_view = record { caller = 0; made = 0; spent = true; home = None; seen = []; own = []; mine = []; stage = 0; ticket = 0; base = []; joined = [] }

  -- what a seat tells when it is joined into another
  abbrev pub triple : View C H → Joined C
  triple v = record { caller = v.caller; seen = v.seen; mine = v.mine }

  -- the first seat, with one seat more made
  abbrev pub one_more : View C H → View C H
  one_more v = record v { made = v.made + 1 }

  -- the seat that is made next
  abbrev pub next_seat : View C H → View C H
  next_seat v = newcomer v.made v.home v.seen

  -- a seat that has taken another in
  abbrev pub taken_in : View C H → View C H → View C H
  taken_in v w = record v { seen = longer v.seen w.seen; joined = v.joined ++ triple w ∷ [] }

  -- how many of the views have a ticket
  abbrev pub waiting : List (View C H) → ℕ
  waiting [] = 0
  waiting (v ∷ vs) = min v.stage 1 + waiting vs

  -- what holds of the view of the seat j, where `serving` is the ticket that is served, so many tickets are out, and so many seats were made
  pub record Sits (made : H) (log : List (Entry C)) (serving out seats j : ℕ) (v : View C H) : Type 0 where
    pub stages : v.stage ≤ 3
    pub ticket : 0 < v.stage → (k : ℕ) × (k < out) × (v.ticket ≡ (serving + k) % 2 ^ 64)
    pub served : 2 ≤ v.stage → v.ticket ≡ serving
    pub base : v.stage ≡ 2 → v.base ≡ log
    pub stepped : v.stage ≡ 3 → v.seen ≡ log
    pub live : v.spent ≡ false → (v.caller ≡ j) × (v.home ≡ Some made) × Made log v.caller v.seen v.mine
    pub own : v.spent ≡ false → Begins log v.own
    pub ended : v.spent ≡ true → (v.stage ≡ 0) × (v.seen ≡ []) × (v.joined ≡ [])
    pub joined : (k : ℕ) (x : Joined C) → get_elem? v.joined k ≡ some x → Made log x.caller x.seen x.mine
    pub collects : (k : ℕ) (x : Joined C) → get_elem? v.joined k ≡ some x → 0 < v.made
    pub maker : 0 < v.made → (j ≡ 0) × (v.made ≡ seats)

  module _ {O : Type 0} (history : O → List (Entry C)) (home : O → H) (made : H) where
    -- the rule: what holds between any two steps
    pub record TurnRule (s : State (Option O) (View C H)) : Type 0 where
      pub log : List (Entry C)
      pub out : ℕ
      pub serving : ℕ
      pub seats : ℕ
      pub slot : maybe.Option (Option O)
      pub words : s.words ≡ length log ∷ (serving + out) % 2 ^ 64 ∷ serving ∷ []
      pub homes : s.homes ≡ slot ∷ []
      pub views : length s.views ≡ seats
      pub short : length log < 2 ^ 59
      pub low : serving < 2 ^ 64
      pub few : seats ≤ 65
      pub waits : waiting s.views ≡ out
      pub each : (j : ℕ) (v : View C H) → get_elem? s.views j ≡ some v → Sits made log serving out seats j v
      pub apart : (i j : ℕ) (v w : View C H) → get_elem? s.views i ≡ some v → get_elem? s.views j ≡ some w → i ≢ j → 0 < v.stage → 0 < w.stage → v.ticket ≢ w.ticket
      pub queued : (k : ℕ) → k < out → (j : ℕ) × (v : View C H) × (get_elem? s.views j ≡ some v) × (0 < v.stage) × (v.ticket ≡ (serving + k) % 2 ^ 64)
      pub longest : (j : ℕ) × (v : View C H) × (get_elem? s.views j ≡ some v) × (v.seen ≡ log)
      pub at_home : (x : Option O) → slot ≡ some x → (o : O) × (x ≡ Some o) × (history o ≡ log) × (home o ≡ made)
      pub away : slot ≡ none → (j : ℕ) × (v : View C H) × (get_elem? s.views j ≡ some v) × (2 ≤ v.stage)
      pub held : (j : ℕ) (v : View C H) → get_elem? s.views j ≡ some v → 2 ≤ v.stage → slot ≡ none
      pub known : (c : ℕ) → seats ≤ c → calls_by c log ≡ []
      pub gone : (j : ℕ) (v : View C H) (k : ℕ) (x : Joined C) → get_elem? s.views j ≡ some v → get_elem? v.joined k ≡ some x → (y : View C H) × (get_elem? s.views x.caller ≡ some y) × (y.spent ≡ true)
      pub found : (j : ℕ) (y : View C H) → get_elem? s.views j ≡ some y → y.spent ≡ true → (v : View C H) × (k : ℕ) × (x : Joined C) × (get_elem? s.views 0 ≡ some v) × (get_elem? v.joined k ≡ some x) × (x.caller ≡ j)

-- what a seat knows, and the slots that it has out
abbrev Sat : Type 0 → Type 0 → Type 0 → Type 0
Sat O C H = Me (Option O) (View C H)

-- the step that is made
abbrev At : Type 0 → Type 0
At O = Step (Option O)

module _ {O C H : Type 0} where
  -- the seat has the ticket that was read
  abbrev pub drew : At O → Sat O C H → ℕ → Sat O C H → Type 0
  drew st m n m' = m' ≡ (record m.0 { stage = 1; ticket = n }, m.1)

  -- the seat is served, and has the object
  pub record Took (history : O → List (Entry C)) (home : O → H) (m m' : Sat O C H) : Type 0 where
    pub object : O
    pub now : m' ≡ (record m.0 { stage = 2; base = history object }, (0, Some object) ∷ m.1)
    pub home_is : m.0.home ≡ Some (home object)
    pub made : Made (history object) m.0.caller m.0.seen m.0.mine
    pub fewer : length m.0.mine ≤ length (history object)
    pub numbered : AllNumbered (history object)

  -- the seat is served, and its slot is empty: the object was taken out
  abbrev pub HasTurn : (O → List (Entry C)) → Sat O C H → Sat O C H → O → Type 0
  HasTurn history m m' o = (t : ℕ) × (m' ≡ (record m.0 { stage = 2; ticket = t; base = history o }, (0, None) ∷ []))

  -- the seat is served where the ticket read is its own, and else it waits on
  abbrev pub looked : (O → List (Entry C)) → (O → H) → At O → Sat O C H → ℕ → Sat O C H → Type 0
  looked history home st m n m' = (n ≡ m.0.ticket → Took history home m m') × (n ≢ m.0.ticket → m' ≡ m)

  -- the history has one entry more, and the seat has seen all of it
  abbrev pub added : List (Entry C) → At O → Sat O C H → ℕ → Sat O C H → Type 0
  added named st m n m' = m' ≡ (record m.0 { stage = 3; seen = m.0.base ++ named; own = m.0.base ++ named; mine = m.0.mine ++ named }, m.1)

  -- the seat has no ticket, and has nothing out
  abbrev pub left : At O → Sat O C H → ℕ → Sat O C H → Type 0
  left st m n m' = m' ≡ (record m.0 { stage = 0 }, [])
