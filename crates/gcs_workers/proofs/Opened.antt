-- The histories of a desk of one caller, once its bucket is made.
use Rattle.std.proofs.Common.{◌≡◌, ℕ, List, [], ◌∷◌, Option, Some, None, refl, inl, inr, ap, ◌∙◌}
use Rattle.std.proofs.lemmas.Bool.{cases_eq}
use Rattle.gcs_meaning.specs.declared.command.Command.{Command}
use Rattle.gcs_meaning.specs.declared.command.Entry.{Entry}
use Rattle.gcs_meaning.specs.Desk.{Histories, AreLists, AreNumbered, entries_of}
use Rattle.gcs_meaning.specs.History.{AreDistinct}
use Rattle.gcs_meaning.specs.Moment.{shard_number}
use Rattle.gcs_workers.specs.Alone.{IsOpened}

-- one history of a caller who shares with nobody
abbrev IsOwn : List Entry → Type 0
IsOwn h = (entries_of 0 h ≡ h) × AreNumbered 0 h × AreDistinct h

-- no entry
own-none : (h : List Entry) → h ≡ [] → IsOwn h
own-none h is = rw is (refl, tt, tt)

-- the first entry of caller 0
own-one : (h : List Entry) (moment : ℕ) (command : Command) → h ≡ record { caller = 0; number = 0; moment = moment; command = command } ∷ [] → IsOwn h
own-one h moment command is = rw is (refl, (refl, tt), (tt, tt))

-- each history at the start
own-opened : (name : Option (List ℕ)) (opening : List ℕ) (start : Histories) → IsOpened name opening start → (s : ℕ) → IsOwn (start s)
own-opened None opening start opened s = own-none (start s) (opened.1 s)
own-opened (Some name) opening start opened s = elim (cases_eq s (shard_number name)) [
  | inl same ↦ own-one (start s) opened.0 _ (ap start same ∙ opened.2)
  | inr differ ↦ own-none (start s) (opened.3 s differ)
]

-- what the caller knows at the start
pub opened_lists : (name : Option (List ℕ)) (opening : List ℕ) (start : Histories) → IsOpened name opening start → AreLists 0 start start
opened_lists name opening start opened = record {
  own = λ s. (own-opened name opening start opened s).0;
  numbered = λ s. (own-opened name opening start opened s).1;
  distinct = λ s. (own-opened name opening start opened s).2;
}
