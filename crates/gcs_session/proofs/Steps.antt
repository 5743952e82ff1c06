-- Histories that grow, and runs of a script over them.
use Rattle.std.proofs.Common.{◌≡◌, ◌≢◌, ◌⊎◌, inl, inr, ℕ, suc, ◌+◌, nat_eq, not, Bool, true, false, List, [], ◌∷◌, ◌++◌, length, refl, ap, sym, subst, ◌∙◌, arith, add-zero, append-nil, append_assoc, length-append, eq-eqb, if◌then◌else◌}
use Rattle.std.proofs.lemmas.Bool.{eqb-true, eqb-false, ne_eqb}
use Rattle.std.specs.List.{AllByRecursion}
use Rattle.gcs_meaning.specs.declared.command.Answer.{Answer}
use Rattle.gcs_meaning.specs.declared.command.Command.{Command}
use Rattle.gcs_meaning.specs.declared.command.Entry.{Entry}
use Rattle.gcs_meaning.specs.History.{AnswersAt, AreDistinct}
use Rattle.gcs_meaning.specs.Desk.{Histories, AreLists, IsStepped, AreUnmoved, entries_of, AreNumbered}
use Rattle.gcs_rewrite.specs.declared.moves.Move.TheVariants.{Ask}
use Rattle.gcs_rewrite.specs.declared.request.Request.{Request}
use Rattle.gcs_rewrite.specs.Scripts.{script}
use Rattle.gcs_session.specs.Asks.{Asks, Counts, SameCounts, IsOneMore, is_some_step}
use Rattle.gcs_session.specs.Running.{lengths, GoesOn, Grows}

decide : (b : Bool) (m n : ℕ) → nat_eq m n ≡ b → (m ≡ n) ⊎ (m ≢ n)
decide true m n e = inl (eqb-true m n e)
decide false m n e = inr (eqb-false m n e)

pub eq_or_not : (m n : ℕ) → (m ≡ n) ⊎ (m ≢ n)
eq_or_not m n = decide (nat_eq m n) m n refl

pub grows_trans : (a b c : Histories) → Grows a b → Grows b c → Grows a c
grows_trans a b c p q = λ s. ((p s).0 ++ (q s).0, (q s).1 ∙ ap (λ (es : List Entry). es ++ (q s).0) (p s).1 ∙ append_assoc (a s) (p s).0 (q s).0)

pub grows_same : (a b : Histories) → ((s : ℕ) → b s ≡ a s) → Grows a b
grows_same a b e = λ s. ([], e s ∙ sym (append-nil (a s)))

pub grows_step : (caller : ℕ) (saw own saw' own' : Histories) (shard moment : ℕ) (command : Command) (a : Answer) → IsStepped caller saw own saw' own' shard moment command a → Grows saw saw'
grows_step caller saw own saw' own' shard moment command a x = λ s.
    let entry : Entry = record { caller = caller; number = length (own shard); moment = moment; command = command } in
    elim (eq_or_not s shard) as (λ _. (more : List Entry) × (saw' s ≡ saw s ++ more)) [
      | inl e ↦ (x.others ++ entry ∷ [], ap saw' e ∙ x.seen ∙ append_assoc (saw shard) x.others (entry ∷ []) ∙ ap (λ (n : ℕ). saw n ++ (x.others ++ entry ∷ [])) (sym e))
      | inr n ↦ ([], (x.elsewhere s n).0 ∙ sym (append-nil (saw s)))
    ]

-- an entry that was answered stays answered
pub AnswersAt-grows : (h more : List Entry) (h' : List Entry) (caller number moment : ℕ) (command : Command) (a : Answer) → h' ≡ h ++ more → AnswersAt h caller number moment command a → AnswersAt h' caller number moment command a
AnswersAt-grows h more h' caller number moment command a e x =
    let entry : Entry = record { caller = caller; number = number; moment = moment; command = command } in
    (x.0, x.1 ++ more, e ∙ ap (λ (es : List Entry). es ++ more) x.2 ∙ append_assoc x.0 (entry ∷ x.1) more, x.3)

-- the caller's new entry is answered
pub AnswersAt-step : (caller : ℕ) (saw own saw' own' : Histories) (shard moment : ℕ) (command : Command) (a : Answer) → IsStepped caller saw own saw' own' shard moment command a → AnswersAt (saw' shard) caller (length (own shard)) moment command a
AnswersAt-step caller saw own saw' own' shard moment command a x = (saw shard ++ x.others, [], x.seen, x.answer)

pub one_more-step : (caller : ℕ) (saw own saw' own' : Histories) (shard moment : ℕ) (command : Command) (a : Answer) → IsStepped caller saw own saw' own' shard moment command a → IsOneMore (lengths own) (lengths own') shard
one_more-step caller saw own saw' own' shard moment command a x = record {
  here = ap (length {A = Entry}) x.mine ∙ length-append (own shard) _;
  elsewhere = λ s n. ap (length {A = Entry}) (x.elsewhere s n).1;
}

-- what was asked stays asked, where histories grow and the counts at the end are the same
pub Asks-kept : (q : Request) (done ans : List Answer) (moment : ℕ) (h h' : Histories) (caller : ℕ) (from to to' : Counts) → Grows h h' → SameCounts to to' → Asks q done ans moment h caller from to → Asks q done ans moment h' caller from to'
Asks-kept q done [] moment h h' caller from to to' g s x = λ n. s n ∙ x n
Asks-kept q done (a ∷ ans) moment h h' caller from to to' g s x = (
  x.0,
  x.1,
  x.2,
  x.3,
  AnswersAt-grows (h x.0) (g x.0).0 (h' x.0) caller (from x.0) moment x.1 a (g x.0).1 x.4,
  x.5,
  Asks-kept q (done ++ a ∷ []) ans moment h h' caller x.2 to to' g s x.6,
)

-- one more answer
pub Asks-more : (q : Request) (done ans : List Answer) (moment : ℕ) (h h' : Histories) (caller : ℕ) (from mid to : Counts) (shard : ℕ) (command : Command) (a : Answer)
    → Grows h h' → Asks q done ans moment h caller from mid → script q (done ++ ans) ≡ Ask shard command
    → AnswersAt (h' shard) caller (mid shard) moment command a → IsOneMore mid to shard
    → Asks q done (ans ++ a ∷ []) moment h' caller from to
Asks-more q done [] moment h h' caller from mid to shard command a g x e at one = (
  shard,
  command,
  to,
  ap (script q) (sym (append-nil done)) ∙ e,
  let P : ℕ → Type 0 = λ n. AnswersAt (h' shard) caller n moment command a in subst P (x shard) at,
  record { here = one.here ∙ ap (λ n. n + 1) (x shard); elsewhere = λ s n. one.elsewhere s n ∙ x s },
  λ s. refl,
)
Asks-more q done (b ∷ ans) moment h h' caller from mid to shard command a g x e at one = (
  x.0,
  x.1,
  x.2,
  x.3,
  AnswersAt-grows (h x.0) (g x.0).0 (h' x.0) caller (from x.0) moment x.1 b (g x.0).1 x.4,
  x.5,
  Asks-more q (done ++ b ∷ []) ans moment h h' caller x.2 mid to shard command a g x.6 (ap (script q) (append_assoc done (b ∷ []) ans) ∙ e) at one,
)

entries_of-append : (caller : ℕ) (xs ys : List Entry) → entries_of caller (xs ++ ys) ≡ entries_of caller xs ++ entries_of caller ys
entries_of-append caller [] ys = refl
entries_of-append caller (e ∷ xs) ys =
    elim (nat_eq e.caller caller) as (λ b. (if b then e ∷ entries_of caller (xs ++ ys) else entries_of caller (xs ++ ys)) ≡ (if b then e ∷ entries_of caller xs else entries_of caller xs) ++ entries_of caller ys)
    [ true ↦ ap (λ (es : List Entry). e ∷ es) (entries_of-append caller xs ys) | false ↦ entries_of-append caller xs ys ]

entries_of-foreign : (caller : ℕ) (xs : List Entry) → AllByRecursion (λ e. e.caller ≢ caller) xs → entries_of caller xs ≡ []
entries_of-foreign caller [] h = refl
entries_of-foreign caller (e ∷ xs) h =
    ap (λ (b : Bool). if b then e ∷ entries_of caller xs else entries_of caller xs) (ne_eqb e.caller caller h.0) ∙ entries_of-foreign caller xs h.1

numbered-more : (n : ℕ) (xs : List Entry) (e : Entry) → AreNumbered n xs → e.number ≡ n + length xs → AreNumbered n (xs ++ e ∷ [])
numbered-more n [] e h k = (k ∙ add-zero n, tt)
numbered-more n (x ∷ xs) e h k = (h.0, numbered-more (n + 1) xs e h.1 (k ∙ (let z : n + suc (length xs) ≡ (n + 1) + length xs = omega arith in z)))

pub lists-step : (caller : ℕ) (saw own saw' own' : Histories) (shard moment : ℕ) (command : Command) (a : Answer) → IsStepped caller saw own saw' own' shard moment command a → AreLists caller saw own → AreLists caller saw' own'
lists-step caller saw own saw' own' shard moment command a x l =
    let entry : Entry = record { caller = caller; number = length (own shard); moment = moment; command = command } in
    let mine : entries_of caller (entry ∷ []) ≡ entry ∷ [] = ap (λ (b : Bool). if b then entry ∷ [] else []) (eq-eqb caller caller refl) in
    let here : entries_of caller (saw' shard) ≡ own' shard =
    ap (entries_of caller) x.seen ∙ entries_of-append caller (saw shard ++ x.others) (entry ∷ [])
    ∙ ap (λ (es : List Entry). es ++ entries_of caller (entry ∷ [])) (entries_of-append caller (saw shard) x.others ∙ ap (λ (es : List Entry). entries_of caller (saw shard) ++ es) (entries_of-foreign caller x.others x.foreign) ∙ append-nil (entries_of caller (saw shard)) ∙ l.own shard)
    ∙ ap (λ (es : List Entry). own shard ++ es) mine ∙ sym x.mine in
    record {
      own = λ s. elim (eq_or_not s shard) as (λ _. entries_of caller (saw' s) ≡ own' s) [
        | inl e ↦ ap (λ (n : ℕ). entries_of caller (saw' n)) e ∙ here ∙ ap own' (sym e)
        | inr n ↦ ap (entries_of caller) (x.elsewhere s n).0 ∙ l.own s ∙ sym (x.elsewhere s n).1
      ];
      numbered = λ s. elim (eq_or_not s shard) as (λ _. AreNumbered 0 (own' s)) [
        | inl e ↦ subst (AreNumbered 0) (sym x.mine ∙ ap own' (sym e)) (numbered-more 0 (own shard) entry (l.numbered shard) (let z : length (own shard) ≡ 0 + length (own shard) = omega arith in z))
        | inr n ↦ subst (AreNumbered 0) (sym (x.elsewhere s n).1) (l.numbered s)
      ];
      distinct = λ s. elim (eq_or_not s shard) as (λ _. AreDistinct (saw' s)) [
        | inl e ↦ subst (λ n. AreDistinct (saw' n)) (sym e) x.distinct
        | inr n ↦ subst AreDistinct (sym (x.elsewhere s n).0) (l.distinct s)
      ];
    }

pub lists-same : (caller : ℕ) (saw own saw' own' : Histories) → AreUnmoved saw own saw' own' → AreLists caller saw own → AreLists caller saw' own'
lists-same caller saw own saw' own' x l = record {
  own = λ s. ap (entries_of caller) (x.seen s) ∙ l.own s ∙ sym (x.mine s);
  numbered = λ s. subst (AreNumbered 0) (sym (x.mine s)) (l.numbered s);
  distinct = λ s. subst AreDistinct (sym (x.seen s)) (l.distinct s);
}

pub same-lengths : (own own' : Histories) → ((s : ℕ) → own' s ≡ own s) → SameCounts (lengths own) (lengths own')
same-lengths own own' e = λ s. ap (length {A = Entry}) (e s)

-- histories that stay go on, as those do in which a step was made, and those that go on from ones that go on
pub goes_on-same : (caller : ℕ) (saw own saw' own' : Histories) → AreUnmoved saw own saw' own' → GoesOn caller saw own saw' own'
goes_on-same caller saw own saw' own' x = record { grows = grows_same saw saw' x.seen; sound = lists-same caller saw own saw' own' x }

goes_on-step : (caller : ℕ) (saw own saw' own' : Histories) (shard moment : ℕ) (command : Command) (a : Answer) → IsStepped caller saw own saw' own' shard moment command a → GoesOn caller saw own saw' own'
goes_on-step caller saw own saw' own' shard moment command a x =
    record { grows = grows_step caller saw own saw' own' shard moment command a x; sound = lists-step caller saw own saw' own' shard moment command a x }

pub goes_on-trans : (caller : ℕ) (saw own saw' own' saw'' own'' : Histories) → GoesOn caller saw own saw' own' → GoesOn caller saw' own' saw'' own'' → GoesOn caller saw own saw'' own''
goes_on-trans caller saw own saw' own' saw'' own'' p q = record { grows = grows_trans saw saw' saw'' p.grows q.grows; sound = λ l. q.sound (p.sound l) }

-- a run so far
pub record IsRun (q : Request) (moment caller : ℕ) (saw own saw' own' : Histories) (ans : List Answer) : Type 0 where
  pub goes_on : GoesOn caller saw own saw' own'
  pub asked : Asks q [] ans moment saw' caller (lengths own) (lengths own')

-- one step more
pub run-step : (q : Request) (moment caller : ℕ) (saw own mid mine saw' own' : Histories) (ans : List Answer) (shard : ℕ) (command : Command) (a : Answer)
    → IsRun q moment caller saw own mid mine ans → script q ans ≡ Ask shard command → IsStepped caller mid mine saw' own' shard moment command a
    → IsRun q moment caller saw own saw' own' (ans ++ a ∷ [])
run-step q moment caller saw own mid mine saw' own' ans shard command a r e x =
    let g = goes_on-step caller mid mine saw' own' shard moment command a x in
    record {
      goes_on = goes_on-trans caller saw own mid mine saw' own' r.goes_on g;
      asked = Asks-more q [] ans moment mid saw' caller (lengths own) (lengths mine) (lengths own') shard command a g.grows r.asked e
          (AnswersAt-step caller mid mine saw' own' shard moment command a x) (one_more-step caller mid mine saw' own' shard moment command a x);
    }

-- and none
pub run-same : (q : Request) (moment caller : ℕ) (saw own mid mine saw' own' : Histories) (ans : List Answer)
    → IsRun q moment caller saw own mid mine ans → AreUnmoved mid mine saw' own' → IsRun q moment caller saw own saw' own' ans
run-same q moment caller saw own mid mine saw' own' ans r x =
    let g = goes_on-same caller mid mine saw' own' x in
    record {
      goes_on = goes_on-trans caller saw own mid mine saw' own' r.goes_on g;
      asked = Asks-kept q [] ans moment mid saw' caller (lengths own) (lengths mine) (lengths own') g.grows (same-lengths mine own' x.mine) r.asked;
    }

pub some_more : (ans : List Answer) (a : Answer) → true ≡ is_some_step (ans ++ a ∷ [])
some_more [] a = refl
some_more (b ∷ ans) a = refl

pub none_yet : (ans : List Answer) → not (nat_eq (length ans) 0) ≡ is_some_step ans
none_yet [] = refl
none_yet (b ∷ ans) = ap not (ne_eqb (length (b ∷ ans)) 0 (λ e. omega arith))

-- counts that are the same at the start
pub Asks-from : (q : Request) (done ans : List Answer) (moment : ℕ) (h : Histories) (caller : ℕ) (from from' to : Counts) → SameCounts from from' → Asks q done ans moment h caller from' to → Asks q done ans moment h caller from to
Asks-from q done [] moment h caller from from' to s x = λ n. x n ∙ s n
Asks-from q done (a ∷ ans) moment h caller from from' to s x =
    let P : ℕ → Type 0 = λ n. AnswersAt (h x.0) caller n moment x.1 a in
    (x.0, x.1, x.2, x.3, subst P (s x.0) x.4, record { here = x.5.here ∙ ap (λ n. n + 1) (s x.0); elsewhere = λ i k. x.5.elsewhere i k ∙ s i }, x.6)
