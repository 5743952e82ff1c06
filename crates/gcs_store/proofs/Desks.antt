-- What one more entry does to what a desk's caller knows.
use Rattle.std.proofs.Common.{◌≡◌, ◌≢◌, ℕ, zero, suc, ◌+◌, ◌<◌, false, List, [], ◌∷◌, ◌++◌, length, refl, ap, sym, ◌∙◌, subst, inl, inr, append-nil, arith}
use Rattle.std.specs.Prelude.{replicate, slice_index_or, ◌==◌, ◌&&◌}
use Rattle.std.specs.List.{AllByRecursion}
use Rattle.std.proofs.Math.ListN.{set}
use Rattle.std.proofs.lemmas.List.{get_or-set_same, get_or-set_other, length-set}
use Rattle.std.proofs.lemmas.Bool.Decides.{nat_tests}
use Rattle.std.proofs.lemmas.Bool.{cases_eq}
use Rattle.gcs_chunks.specs.Content.{ChunksValue}
use Rattle.gcs_meaning.specs.declared.command.Answer.{Answer}
use Rattle.gcs_meaning.specs.declared.command.Command.{Command}
use Rattle.gcs_meaning.specs.declared.command.Entry.{Entry}
use Rattle.gcs_meaning.specs.History.{AreDistinct, answer_of, is_entry}
use Rattle.gcs_meaning.specs.Desk.{AreLists, AreNumbered, IsStepped, entries_of}
use Rattle.gcs_store.specs.Desk.{AreOwn, DeskValue, empty_shard, history_at, shard_at}
use Rattle.gcs_store.specs.Shard.{ShardValue}

-- entries that are all of caller 0 are that caller's
entries_of_own : (es : List Entry) → AllByRecursion (λ e. e.caller ≡ 0) es → entries_of 0 es ≡ es
entries_of_own [] own = refl
entries_of_own (e ∷ es) own = grind (arith, nat_tests, own.0, entries_of_own es own.1)

-- a greater number is another
other_number : (a b c d : ℕ) → d < c → ((a == b) && (c == d)) ≡ false
other_number a b c d above = grind (arith, nat_tests)

-- entries that are numbered from m on have no smaller number
none_before : (es : List Entry) (caller n m : ℕ) → n < m → AreNumbered m es → AllByRecursion (λ f. is_entry caller n f ≡ false) es
none_before [] caller n m below numbered = tt
none_before (e ∷ es) caller n m below numbered =
    (other_number e.caller caller e.number n (omega (arith, numbered.0)), none_before es caller n (m + 1) (omega arith) numbered.1)

-- numbered entries are distinct
numbered_distinct : (es : List Entry) (n : ℕ) → AreNumbered n es → AreDistinct es
numbered_distinct [] n numbered = tt
numbered_distinct (e ∷ es) n numbered =
    (none_before es e.caller e.number (n + 1) (omega (arith, numbered.0)) numbered.1, numbered_distinct es (n + 1) numbered.1)

-- what a desk's caller knows
pub own_lists : (desk : DeskValue) → AreOwn desk → AreLists 0 (history_at desk) (history_at desk)
own_lists desk own = record {
  own = λ s. entries_of_own (history_at desk s) (own.own s);
  numbered = own.numbered;
  distinct = λ s. numbered_distinct (history_at desk s) 0 (own.numbered s);
}

-- a shard of the desk has its chunks
pub chunks_at : (desk : DeskValue) (s : ℕ) (shard : ShardValue) → AreOwn desk → shard ≡ shard_at desk s → shard.chunks ≡ desk.chunks
chunks_at desk s shard own is = ap (λ (x : ShardValue). x.chunks) is ∙ own.chunks s

-- one more entry of caller 0, with the next number
own-push : (es : List Entry) (e : Entry) → AllByRecursion (λ f. f.caller ≡ 0) es → e.caller ≡ 0 → AllByRecursion (λ f. f.caller ≡ 0) (es ++ e ∷ [])
own-push [] e own called = (called, tt)
own-push (first ∷ es) e own called = (own.0, own-push es e own.1 called)

numbered-push : (es : List Entry) (e : Entry) (n : ℕ) → AreNumbered n es → e.number ≡ length es + n → AreNumbered n (es ++ e ∷ [])
numbered-push [] e n numbered is = (omega arith, tt)
numbered-push (first ∷ es) e n numbered is = (numbered.0, numbered-push es e (n + 1) numbered.1 (omega arith))

-- the desk once one of its shards is replaced
abbrev pub with_shard : DeskValue → ℕ → ShardValue → DeskValue
with_shard desk s shard = record desk { shards = set desk.shards s shard }

same_at : (desk : DeskValue) (s : ℕ) (shard : ShardValue) → s < length desk.shards → shard_at (with_shard desk s shard) s ≡ shard
same_at desk s shard within = get_or-set_same desk.shards s shard (empty_shard desk.chunks) within

other_at : (desk : DeskValue) (s q : ℕ) (shard : ShardValue) → q ≢ s → shard_at (with_shard desk s shard) q ≡ shard_at desk q
other_at desk s q shard differ = get_or-set_other desk.shards s q shard (empty_shard desk.chunks) differ

-- a fact of all shards, where it holds of the new one
at_each : (P : ShardValue → Type 0) (desk : DeskValue) (s : ℕ) (new : ShardValue) → s < length desk.shards → P new → ((q : ℕ) → P (shard_at desk q)) → (q : ℕ) → P (shard_at (with_shard desk s new) q)
at_each P desk s new inside here others q = elim (cases_eq q s) [
  | inl same ↦ subst P (sym (ap (shard_at (with_shard desk s new)) same ∙ same_at desk s new inside)) here
  | inr differ ↦ subst P (sym (other_at desk s q new differ)) (others q)
]

-- the entry that a call makes
abbrev pub next_entry : List Entry → ℕ → Command → Entry
next_entry h moment command = record { caller = 0; number = length h; moment = moment; command = command }

-- the shard with this entry
pub record IsPushed (moment : ℕ) (command : Command) (shard new : ShardValue) : Type 0 where
  pub entry : new.history ≡ shard.history ++ next_entry shard.history moment command ∷ []
  pub chunks : new.chunks ≡ shard.chunks

-- the desk once a shard has one more entry
pub own_push : (desk : DeskValue) (s moment : ℕ) (command : Command) (shard new : ShardValue) → AreOwn desk → s < 16 → shard ≡ shard_at desk s → IsPushed moment command shard new → AreOwn (with_shard desk s new)
own_push desk s moment command shard new own within is pushed =
    let inside : s < length desk.shards = omega (arith, own.sixteen) in
    let mine : AllByRecursion (λ e. e.caller ≡ 0) shard.history = subst (λ (x : ShardValue). AllByRecursion (λ e. e.caller ≡ 0) x.history) (sym is) (own.own s) in
    let numbered : AreNumbered 0 shard.history = subst (λ (x : ShardValue). AreNumbered 0 x.history) (sym is) (own.numbered s) in
    let e : Entry = next_entry shard.history moment command in
    record {
      sixteen = length-set desk.shards s new ∙ own.sixteen;
      chunks = at_each (λ (x : ShardValue). x.chunks ≡ desk.chunks) desk s new inside (pushed.chunks ∙ chunks_at desk s shard own is) own.chunks;
      own = at_each (λ (x : ShardValue). AllByRecursion (λ e. e.caller ≡ 0) x.history) desk s new inside (subst (AllByRecursion (λ e. e.caller ≡ 0)) (sym pushed.entry) (own-push shard.history e mine refl)) own.own;
      numbered = at_each (λ (x : ShardValue). AreNumbered 0 x.history) desk s new inside (subst (AreNumbered 0) (sym pushed.entry) (numbered-push shard.history e 0 numbered (omega arith))) own.numbered;
    }

-- a call that was made is one step of the caller's
pub stepped_push : (desk : DeskValue) (s moment : ℕ) (command : Command) (answer : Answer) (shard new : ShardValue) → AreOwn desk → s < 16 → shard ≡ shard_at desk s → IsPushed moment command shard new
    → answer ≡ answer_of shard.history moment command
    → IsStepped 0 (history_at desk) (history_at desk) (history_at (with_shard desk s new)) (history_at (with_shard desk s new)) s moment command answer
stepped_push desk s moment command answer shard new own within is pushed answer-is =
    let inside : s < length desk.shards = omega (arith, own.sixteen) in
    let same : shard.history ≡ history_at desk s = ap (λ (x : ShardValue). x.history) is in
    let now : history_at (with_shard desk s new) s ≡ history_at desk s ++ next_entry (history_at desk s) moment command ∷ []
    = ap (λ (x : ShardValue). x.history) (same_at desk s new inside) ∙ pushed.entry ∙ ap (λ (x : List Entry). x ++ next_entry x moment command ∷ []) same in
    let after : AreOwn (with_shard desk s new) = own_push desk s moment command shard new own within is pushed in
    record {
      others = [];
      foreign = tt;
      seen = now ∙ ap (λ (x : List Entry). x ++ next_entry (history_at desk s) moment command ∷ []) (sym (append-nil (history_at desk s)));
      mine = now;
      distinct = numbered_distinct (history_at (with_shard desk s new) s) 0 (after.numbered s);
      answer = answer-is ∙ ap (λ (x : List Entry). answer_of x moment command) (same ∙ sym (append-nil (history_at desk s)));
      elsewhere = λ q differ.
          let stays : history_at (with_shard desk s new) q ≡ history_at desk q = ap (λ (x : ShardValue). x.history) (other_at desk s q new differ) in
          (stays, stays);
    }

-- shards without an entry
pub empty_at : (chunks : ChunksValue) (n s : ℕ) → slice_index_or (replicate n (empty_shard chunks)) s (empty_shard chunks) ≡ empty_shard chunks
empty_at chunks zero s = refl
empty_at chunks (suc n) zero = refl
empty_at chunks (suc n) (suc s) = empty_at chunks n s

-- sixteen shards without an entry
pub replicate_own : (chunks : ChunksValue) → AreOwn (record { chunks = chunks; shards = replicate 16 (empty_shard chunks) })
replicate_own chunks = record {
  sixteen = refl;
  chunks = λ s. ap (λ (x : ShardValue). x.chunks) (empty_at chunks 16 s);
  own = λ s. subst (λ (x : ShardValue). AllByRecursion (λ e. e.caller ≡ 0) x.history) (sym (empty_at chunks 16 s)) tt;
  numbered = λ s. subst (λ (x : ShardValue). AreNumbered 0 x.history) (sym (empty_at chunks 16 s)) tt;
}
