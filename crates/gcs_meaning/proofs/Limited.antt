-- The settings of every bucket of a slot, alive or deleted, stay in their limits.
use Rattle.std.proofs.Common.{◌≡◌, ℕ, Bool, true, false, List, [], ◌∷◌, Option, Some, None, refl, sym, subst, inr, arith}
use Rattle.std.specs.Prelude.{filter, nat_lt, if◌then◌else◌}
use Rattle.std.specs.Option.{IfSome, ForSome, option_map}
use Rattle.std.specs.List.{AllByRecursion}
use Rattle.gcs_meaning.specs.declared.changes.Set.{Set}
use Rattle.gcs_meaning.specs.declared.changes.Set.TheVariants.{Keep, Clear, To}
use Rattle.gcs_meaning.specs.declared.changes.SettingsChange.{SettingsChange}
use Rattle.gcs_meaning.specs.declared.settings.Retention.{Retention}
use Rattle.gcs_meaning.specs.declared.settings.Settings.{Settings}
use Rattle.gcs_meaning.specs.declared.command.Answer.{Answer}
use Rattle.gcs_meaning.specs.declared.command.Command.{Command}
use Rattle.gcs_meaning.specs.declared.command.Command.TheVariants.{BucketInsert, BucketList, BucketGet, BucketChange, BucketDelete, BucketLock, BucketRestore, List as Listing, Get, Change, Delete, Put, Compose, Restore, Start, Append, Finish, Cancel}
use Rattle.gcs_meaning.specs.Slot.{State, Grave, Slot}
use Rattle.gcs_meaning.specs.Aging.{aged_state, aged_alive, aged_grave, aged_graves, aged}
use Rattle.gcs_meaning.specs.Policy.{AreInLimits, IsPeriod, IsDuration}
use Rattle.gcs_meaning.specs.Changes.{changed, changed_option, IfSet}
use Rattle.gcs_meaning.specs.Insertion.{settings_since}
use Rattle.gcs_meaning.specs.BucketChange.{AreSetInLimits, changed_settings, changed_period, default_soft_seconds, policy_of}
use Rattle.gcs_meaning.specs.BucketDeletion.{grave_of}
use Rattle.gcs_meaning.specs.BucketLock.{locked_policy, locked_settings}
use Rattle.gcs_meaning.specs.BucketRestore.{is_grave_of}
use Rattle.gcs_meaning.specs.Moment.{effective_moment}
use Rattle.gcs_meaning.specs.Step.{IsInRange, command_step, step}
use Rattle.gcs_meaning.proofs.Listed.{all-change_first, all-filter, all-map}
use Rattle.gcs_meaning.proofs.Chosen.{all-find}
use Rattle.gcs_meaning.proofs.SameSettings.{change_settings, delete_settings, put_settings}
use Rattle.gcs_meaning.proofs.Cases.{IfRefused, IfMade, IfFinished, insert_cases, bucket_get_cases, bucket_change_cases, bucket_delete_cases, bucket_lock_cases, bucket_restore_cases, list_cases, get_cases, change_cases, delete_cases, put_cases, compose_cases, restore_cases, start_cases, append_cases, finish_cases, cancel_cases}

-- the settings of a slot's buckets are in their limits
pub record AllLimited (slot : Slot) : Type 0 where
  pub alive : IfSome slot.alive (λ s. AreInLimits s.settings)
  pub graves : AllByRecursion (λ g. AreInLimits g.state.settings) slot.graves

-- a policy that has a period in its limits
abbrev HasPeriod : Option Retention → Type 0
HasPeriod None = Unit {0}
HasPeriod (Some policy) = IsPeriod policy.period

abbrev IsPeriodIf : Option ℕ → Type 0
IsPeriodIf None = Unit {0}
IsPeriodIf (Some period) = IsPeriod period

has_period : (policy : Option Retention) → ForSome policy (λ p. IsPeriod p.period) → HasPeriod policy
has_period None h = tt
has_period (Some policy) h = h policy refl

all_periods : (policy : Option Retention) → HasPeriod policy → ForSome policy (λ p. IsPeriod p.period)
all_periods None h p is = cc
all_periods (Some policy) h p is = subst (λ (q : Option Retention). HasPeriod q) is h

-- a bucket is made within the limits
in_force_period : (t : ℕ) (settings : Settings) → (policy : Option Retention) → policy ≡ settings.retention → HasPeriod policy → HasPeriod (settings_since t settings).retention
in_force_period t settings None is h = rw (sym is) h
in_force_period t settings (Some policy) is h = rw (sym is) h

insert_limits : (t : ℕ) (settings : Settings) → AreInLimits settings → AreInLimits (settings_since t settings)
insert_limits t settings h = record {
  period = all_periods _ (in_force_period t settings settings.retention refl (has_period _ h.period));
  duration = h.duration;
}

-- a change leaves the settings within the limits
period_changed : (whole : Bool) (had : Option Retention) (set : Set ℕ) → HasPeriod had → IfSet set IsPeriod → IsPeriodIf (changed_option whole (option_map (λ policy. policy.period) had) set)
period_changed true had Keep h set = tt
period_changed false None Keep h set = tt
period_changed false (Some policy) Keep h set = h
period_changed whole had Clear h set = tt
period_changed whole had (To period) h set = set

policy_changed : (t : ℕ) (had : Option Retention) (period : Option ℕ) → IsPeriodIf period → HasPeriod (policy_of t had period)
policy_changed t had None h = tt
policy_changed t None (Some period) h = h
policy_changed t (Some policy) (Some period) h = h

default_duration : IsDuration default_soft_seconds
default_duration = inr (omega arith, omega arith)

duration_changed : (whole : Bool) (had : ℕ) (set : Set ℕ) → IsDuration had → IfSet set IsDuration → IsDuration (changed whole default_soft_seconds had set)
duration_changed true had Keep h set = default_duration
duration_changed false had Keep h set = h
duration_changed whole had Clear h set = default_duration
duration_changed whole had (To seconds) h set = set

change_limits : (t : ℕ) (whole : Bool) (change : SettingsChange) (settings : Settings) → AreSetInLimits change → AreInLimits settings → AreInLimits (changed_settings t whole change settings)
unfolding changed_settings
change_limits t whole change settings set h = record {
  period = all_periods _ (policy_changed t settings.retention (changed_period whole change settings)
      (period_changed whole settings.retention change.retention_period (has_period _ h.period) set.period));
  duration = duration_changed whole settings.soft_seconds change.soft_seconds h.duration set.duration;
}

-- a lock leaves the period
lock_period : (policy : Option Retention) → HasPeriod policy → HasPeriod (option_map locked_policy policy)
lock_period None h = h
lock_period (Some policy) h = h

lock_limits : (settings : Settings) → AreInLimits settings → AreInLimits (locked_settings settings)
lock_limits settings h = record { period = all_periods _ (lock_period settings.retention (has_period _ h.period)); duration = h.duration }

-- ageing takes deleted buckets away
alive_aged : (t : ℕ) (alive : Option State) → IfSome alive (λ s. AreInLimits s.settings) → IfSome (aged_alive t alive) (λ s. AreInLimits s.settings)
unfolding aged_state
alive_aged t None h = h
alive_aged t (Some s) h = h

graves_aged : (t : ℕ) (graves : List Grave) → AllByRecursion (λ g. AreInLimits g.state.settings) graves → AllByRecursion (λ g. AreInLimits g.state.settings) (aged_graves t graves)
unfolding aged_graves aged_state
graves_aged t graves h =
    all-map (λ g. AreInLimits g.state.settings) (λ g. AreInLimits g.state.settings) (aged_grave t) (λ g held. held) (filter (λ g. nat_lt t g.hard) graves)
    (all-filter (λ g. AreInLimits g.state.settings) (λ g. nat_lt t g.hard) graves h)

-- what a command leaves has settings in their limits
abbrev Limited : Answer × Slot → Type 0
Limited done = AllLimited done.1

buried_limited : (b : Bool) (t : ℕ) (s : State) (graves : List Grave) → AreInLimits s.settings → AllByRecursion (λ g. AreInLimits g.state.settings) graves
    → AllByRecursion (λ g. AreInLimits g.state.settings) (if b then grave_of t s ∷ graves else graves)
unfolding grave_of
buried_limited true t s graves new h = (new, h)
buried_limited false t s graves new h = h

module _ (slot : Slot) (t : ℕ) (h : AllLimited slot) where
  limits_of : (s : State) → slot.alive ≡ Some s → AreInLimits s.settings
  limits_of s is = subst (λ alive. IfSome alive (λ x. AreInLimits x.settings)) is h.alive

  refused_limited : IfRefused Limited slot
  refused_limited reason = h

  made_limited : IfMade Limited slot t
  made_limited s name pre meta hashed components expect is passed =
      record { alive = subst AreInLimits (sym (put_settings s t _)) (limits_of s is); graves = h.graves }

  finished_limited : (number : ℕ) → IfFinished Limited slot t number
  finished_limited number = record {
    keeps = λ n. h;
    was_done = λ s upload row is found ended. h;
    makes = λ s upload is found runs passed. record { alive = subst AreInLimits (sym (put_settings _ t _)) (limits_of s is); graves = h.graves };
  }

  command_limited : (command : Command) → IsInRange command → AllLimited (command_step slot t command).1
  command_limited (BucketInsert bucket settings) range =
      insert_cases Limited slot t bucket settings refused_limited (λ free. record { alive = insert_limits t settings range; graves = h.graves })
  command_limited (BucketList shard prefix after most) range = h
  command_limited (BucketGet bucket pre) range = bucket_get_cases Limited slot bucket pre refused_limited (λ s. h)
  command_limited (BucketChange bucket pre change whole) range =
      bucket_change_cases Limited slot t bucket pre change whole refused_limited
      (λ s is passed. record { alive = change_limits t whole change s.settings range (limits_of s is); graves = h.graves })
  command_limited (BucketDelete bucket pre) range =
      bucket_delete_cases Limited slot t pre refused_limited
      (λ s is passed. record { alive = tt; graves = buried_limited (nat_lt t (grave_of t s).hard) t s slot.graves (limits_of s is) h.graves })
  command_limited (BucketLock bucket pre) range =
      bucket_lock_cases Limited slot t bucket pre refused_limited (λ s is. record { alive = lock_limits s.settings (limits_of s is); graves = h.graves })
  command_limited (BucketRestore bucket generation) range =
      bucket_restore_cases Limited slot t bucket generation refused_limited
      (λ g found free. record {
        alive = all-find (λ x. AreInLimits x.state.settings) (is_grave_of generation) g slot.graves found h.graves;
        graves = all-change_first (λ x. AreInLimits x.state.settings) (is_grave_of generation) (λ x. []) (λ x held. tt) slot.graves h.graves;
      })
  command_limited (Listing bucket query) range = list_cases Limited slot query refused_limited (λ s. h)
  command_limited (Get bucket name generation soft pre) range = get_cases Limited slot name generation soft pre refused_limited (λ row settings. h)
  command_limited (Change bucket name generation pre change whole) range =
      change_cases Limited slot t name generation pre change whole refused_limited
      (λ s row is found. record { alive = subst AreInLimits (sym (change_settings s name generation _)) (limits_of s is); graves = h.graves })
  command_limited (Delete bucket name generation pre) range =
      delete_cases Limited slot t name generation pre refused_limited
      (λ s row is found passed. record { alive = subst AreInLimits (sym (delete_settings s t name generation)) (limits_of s is); graves = h.graves })
  command_limited (Put bucket name pre meta hashed components expect) range = put_cases Limited slot t name pre meta hashed components expect refused_limited made_limited
  command_limited (Compose bucket name pre meta parts) range = compose_cases Limited slot t name pre meta parts refused_limited made_limited
  command_limited (Restore bucket name generation pre) range = restore_cases Limited slot t name generation pre refused_limited made_limited
  command_limited (Start bucket name pre meta expect total) range =
      start_cases Limited slot t name pre meta expect total refused_limited (λ s is. record { alive = limits_of s is; graves = h.graves })
  command_limited (Append bucket upload offset total content) range =
      append_cases Limited slot upload offset total content refused_limited (λ s progress is answered. record { alive = limits_of s is; graves = h.graves })
  command_limited (Finish bucket upload hashed) range = finish_cases Limited slot t upload refused_limited (finished_limited upload)
  command_limited (Cancel bucket upload) range =
      cancel_cases Limited slot upload refused_limited (λ s progress is answered. record { alive = limits_of s is; graves = h.graves })

-- one step
pub step_limited : (slot : Slot) (moment : ℕ) (command : Command) → IsInRange command → AllLimited slot → AllLimited (step slot moment command).1
step_limited slot moment command range h =
    let t : ℕ = effective_moment slot.last_moment moment in
    command_limited (aged slot t) t (record { alive = alive_aged t slot.alive h.alive; graves = graves_aged t slot.graves h.graves }) command range
