-- What a call leaves of a desk's rows, of which one changes.
use Rattle.std.proofs.Common.{◌≡◌, ◌≢◌, ℕ, ◌<◌, List, [], ◌∷◌, ◌++◌, length, map, inl, inr, ap, sym, ◌∙◌, subst}
use Rattle.std.specs.List.{AllByRecursion}
use Rattle.std.proofs.Math.ListN.{set}
use Rattle.std.proofs.lemmas.Bool.{cases_eq}
use Rattle.std.proofs.lemmas.List.{get_or-set_same, get_or-set_other}
use mathlib.Core.List.{map-append}
use lib.ListN.{length-map}
use Rattle.gcs_meaning.specs.declared.command.Answer.{Answer}
use Rattle.gcs_meaning.specs.declared.command.Command.{Command}
use Rattle.gcs_meaning.specs.declared.command.Entry.{Entry}
use Rattle.gcs_meaning.specs.Desk.{AreUnmoved, IsStepped}
use Rattle.gcs_meaning.specs.History.{AreDistinct, answer_of}
use Rattle.gcs_turn.specs.declared.object.Entry.{Entry as Turned}
use Rattle.gcs_turn.specs.Turning.{AllNumbered, Called}
use Rattle.gcs_store.specs.Entries.{meant}
use Rattle.gcs_store.specs.Store.{Row, mine_in, row_at, seen_in}
use Rattle.gcs_store.proofs.Entries.{distinct_meant, foreign_meant}

-- the row that changed, and the others
same_row : (rows : List Row) (s : ℕ) (row : Row) → s < length rows → row_at (set rows s row) s ≡ row
same_row rows s row within = get_or-set_same rows s row ([], []) within

other_row : (rows : List Row) (s q : ℕ) (row : Row) → q ≢ s → row_at (set rows s row) q ≡ row_at rows q
other_row rows s q row differ = get_or-set_other rows s q row ([], []) differ

-- the entry that a call makes
abbrev entry : ℕ → ℕ → ℕ → Command → Entry
entry c n moment command = record { caller = c; number = n; moment = moment; command = command }

module _ (rows : List Row) (s : ℕ) (old new : Row) (within : s < length rows) (old_is : old ≡ row_at rows s) where
  -- a call that was made is one step of the caller's
  stepped : (c moment : ℕ) (command : Command) (a : Answer) (others : List Entry) → AllByRecursion (λ e. e.caller ≢ c) others
      → new.0 ≡ (old.0 ++ others) ++ entry c (length old.1) moment command ∷ [] → new.1 ≡ old.1 ++ entry c (length old.1) moment command ∷ [] → AreDistinct new.0 → a ≡ answer_of (old.0 ++ others) moment command
      → IsStepped c (seen_in rows) (mine_in rows) (seen_in (set rows s new)) (mine_in (set rows s new)) s moment command a
  stepped c moment command a others foreign seen mine apart answer = record {
    others = others;
    foreign = foreign;
    seen = ap (λ (r : Row). r.0) (same_row rows s new within) ∙ (seen ∙ ap (λ (r : Row). (r.0 ++ others) ++ entry c (length r.1) moment command ∷ []) old_is);
    mine = ap (λ (r : Row). r.1) (same_row rows s new within) ∙ (mine ∙ ap (λ (r : Row). r.1 ++ entry c (length r.1) moment command ∷ []) old_is);
    distinct = subst (λ (r : Row). AreDistinct r.0) (sym (same_row rows s new within)) apart;
    answer = answer ∙ ap (λ (r : Row). answer_of (r.0 ++ others) moment command) old_is;
    elsewhere = λ q differ. (ap (λ (r : Row). r.0) (other_row rows s q new differ), ap (λ (r : Row). r.1) (other_row rows s q new differ));
  }

  -- where the row is as before, all are
  pub unmoved : new.0 ≡ old.0 → new.1 ≡ old.1 → AreUnmoved (seen_in rows) (mine_in rows) (seen_in (set rows s new)) (mine_in (set rows s new))
  unmoved seen mine =
      let each : (q : ℕ) → row_at (set rows s new) q ≡ row_at rows q = λ q. elim (cases_eq q s) [
        | inl same ↦ ap (row_at (set rows s new)) same ∙ (same_row rows s new within ∙ ((λ i. (seen i, mine i)) ∙ (old_is ∙ ap (row_at rows) (sym same))))
        | inr differ ↦ other_row rows s q new differ
      ] in record {
        seen = λ q. ap (λ (r : Row). r.0) (each q);
        mine = λ q. ap (λ (r : Row). r.1) (each q);
      }

-- the answer of the store at an entry of a turn
abbrev pub answers : List (Turned Command) → Turned Command → Answer → Type 0
answers before e a = a ≡ answer_of (map meant before) e.moment e.command

-- a call of the turn is a step of the desk's caller
pub called : (rows : List Row) (s c moment : ℕ) (command : Command) (a : Answer) (seen mine seen' mine' : List (Turned Command)) → s < length rows → (map meant seen, map meant mine) ≡ row_at rows s
    → Called answers c seen mine seen' mine' (record { caller = c; number = length mine; moment = moment; command = command }) a → AllNumbered seen'
    → IsStepped c (seen_in rows) (mine_in rows) (seen_in (set rows s (map meant seen', map meant mine'))) (mine_in (set rows s (map meant seen', map meant mine'))) s moment command a
called rows s c moment command a seen mine seen' mine' within old_is call numbered =
    let others = map meant call.others in
    let e : ℕ → Entry = λ n. entry c n moment command in
    stepped rows s (map meant seen, map meant mine) (map meant seen', map meant mine') within old_is c moment command a others (foreign_meant c call.others call.foreign)
    (ap (λ (l : List (Turned Command)). map meant l) call.now_seen ∙ (map-append meant (seen ++ call.others) (record { caller = c; number = length mine; moment = moment; command = command } ∷ [])
    ∙ (ap (λ (l : List Entry). l ++ e (length mine) ∷ []) (map-append meant seen call.others) ∙ ap (λ (n : ℕ). (map meant seen ++ others) ++ e n ∷ []) (sym (length-map mine meant)))))
    (ap (λ (l : List (Turned Command)). map meant l) call.now_mine ∙ (map-append meant mine (record { caller = c; number = length mine; moment = moment; command = command } ∷ [])
    ∙ ap (λ (n : ℕ). map meant mine ++ e n ∷ []) (sym (length-map mine meant))))
    (distinct_meant seen' numbered)
    (call.answered ∙ ap (λ (l : List Entry). answer_of l moment command) (map-append meant seen call.others))
