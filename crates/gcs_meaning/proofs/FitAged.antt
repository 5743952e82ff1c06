-- A slot that is fit stays so as time passes: with greater counters, and once it is aged.
use Rattle.std.proofs.Common.{◌≢◌, ◌≤◌, ◌+◌, ℕ, Bool, true, false, List, [], ◌∷◌, ◌++◌, Option, Some, None, arith}
use Rattle.std.specs.Prelude.{filter, map, nat_lt, nat_le, if◌then◌else◌}
use Rattle.std.specs.Option.{IfSome}
use Rattle.std.specs.List.{AllByRecursion}
use Rattle.gcs_meaning.specs.declared.version.Row.{Row}
use Rattle.gcs_meaning.specs.declared.uploading.Upload.{Upload}
use Rattle.gcs_meaning.specs.declared.uploading.UploadState.{UploadState}
use Rattle.gcs_meaning.specs.declared.uploading.UploadState.TheVariants.{Running, Done, Cancelled, Expired}
use Rattle.gcs_meaning.specs.Uploads.{upload_time, expired_if, aged_upload, aged_uploads}
use Rattle.gcs_meaning.specs.Slot.{State, Grave, Slot}
use Rattle.gcs_meaning.specs.Aging.{kind_stays, aged_state, aged_alive, aged_grave, aged_graves, aged}
use Rattle.gcs_meaning.specs.Fit.{IsFitRow, IsFitEnd, IsFitUpload, IsFitState, IsSoftUntil, IsFitGrave, living_generation, Differ, IsFit}
use Rattle.gcs_meaning.proofs.Listed.{all-filter, all-map, all-weaker, some-weaker}
use Rattle.gcs_meaning.proofs.Ordered.{filtered_rise, filtered_single}

-- greater counters: what is fit stays so
row_later : (o p m n : ℕ) → o ≤ p → m ≤ n → (row : Row) → IsFitRow o m row → IsFitRow p n row
row_later o p m n later after row h =
    record { generation = omega (arith, h.generation); created = omega (arith, h.created); updated = omega (arith, h.updated); start = omega (arith, h.start); began = omega (arith, h.began); size = h.size }

end_later : (o p m n : ℕ) → o ≤ p → m ≤ n → (state : UploadState) → IsFitEnd o m state → IsFitEnd p n state
end_later o p m n later after Running h = h
end_later o p m n later after (Done row) h = row_later o p m n later after row h
end_later o p m n later after Cancelled h = h
end_later o p m n later after Expired h = h

upload_later : (o p m n u v : ℕ) → o ≤ p → m ≤ n → u ≤ v → (numbered : ℕ × Upload) → IsFitUpload o m u numbered → IsFitUpload p n v numbered
upload_later o p m n u v later after more numbered h =
    record { number = omega (arith, h.number, more); start = omega (arith, h.start); kept = h.kept; end = end_later o p m n later after numbered.1.state h.end }

pub state_later : (o p m n u v : ℕ) → o ≤ p → m ≤ n → u ≤ v → (s : State) → IsFitState o m u s → IsFitState p n v s
state_later o p m n u v later after more s h = record {
  created = omega (arith, h.created);
  updated = omega (arith, h.updated);
  soft = omega (arith, h.soft);
  policy = some-weaker (λ policy. policy.since ≤ m) (λ policy. policy.since ≤ n) (λ policy since. omega arith) s.settings.retention h.policy;
  rows = all-weaker (IsFitRow o m) (IsFitRow p n) (row_later o p m n later after) s.rows h.rows;
  rise = h.rise;
  single = h.single;
  uploads = all-weaker (IsFitUpload o m u) (IsFitUpload p n v) (upload_later o p m n u v later after more) s.uploads h.uploads;
}

pub grave_later : (o p m n u v : ℕ) → o ≤ p → m ≤ n → u ≤ v → (g : Grave) → IsFitGrave o m u g → IsFitGrave p n v g
grave_later o p m n u v later after more g h = record { state = state_later o p m n u v later after more g.state h.state; soft = h.soft }

-- ageing takes versions away and expires uploads
end_aged : (late : Bool) (o m : ℕ) (state : UploadState) → IsFitEnd o m state → IsFitEnd o m (expired_if late state)
end_aged true o m Running h = h
end_aged false o m Running h = h
end_aged late o m (Done row) h = h
end_aged late o m Cancelled h = h
end_aged late o m Expired h = h

upload_aged : (t o m u : ℕ) (numbered : ℕ × Upload) → IsFitUpload o m u numbered → IsFitUpload o m u (numbered.0, aged_upload t numbered.1)
upload_aged t o m u numbered h =
    record { number = h.number; start = h.start; kept = h.kept; end = end_aged (nat_le (numbered.1.start + upload_time) t) o m numbered.1.state h.end }

state_aged : (t o m u : ℕ) (s : State) → IsFitState o m u s → IsFitState o m u (aged_state t s)
unfolding aged_state aged_uploads
state_aged t o m u s h = record {
  created = h.created;
  updated = h.updated;
  soft = h.soft;
  policy = h.policy;
  rows = all-filter (IsFitRow o m) (λ row. kind_stays t row.kind) s.rows h.rows;
  rise = filtered_rise (λ row. kind_stays t row.kind) s.rows h.rise;
  single = filtered_single (λ row. kind_stays t row.kind) s.rows h.single;
  uploads = all-map (IsFitUpload o m u) (IsFitUpload o m u) (λ numbered. (numbered.0, aged_upload t numbered.1)) (upload_aged t o m u) s.uploads h.uploads;
}

grave_aged : (t o m u : ℕ) (g : Grave) → IsFitGrave o m u g → IsFitGrave o m u (aged_grave t g)
unfolding aged_state
grave_aged t o m u g h =
    record { state = state_aged t o m u g.state h.state; soft = all-filter (λ row. IsSoftUntil g.hard row.kind) (λ row. kind_stays t row.kind) g.state.rows h.soft }

alive_aged : (t o m u : ℕ) (alive : Option State) → IfSome alive (IsFitState o m u) → IfSome (aged_alive t alive) (IsFitState o m u)
alive_aged t o m u None h = h
alive_aged t o m u (Some s) h = state_aged t o m u s h

graves_aged : (t o m u : ℕ) (graves : List Grave) → AllByRecursion (IsFitGrave o m u) graves → AllByRecursion (IsFitGrave o m u) (aged_graves t graves)
unfolding aged_graves
graves_aged t o m u graves h =
    all-map (IsFitGrave o m u) (IsFitGrave o m u) (aged_grave t) (grave_aged t o m u) (filter (λ g. nat_lt t g.hard) graves) (all-filter (IsFitGrave o m u) (λ g. nat_lt t g.hard) graves h)

-- the generations of the graves that stay are some of those before
generations_if : (b : Bool) (P : ℕ → Type 0) (t : ℕ) (g : Grave) (gs : List Grave) → P g.state.generation → AllByRecursion P (map (λ h. h.state.generation) (map (aged_grave t) gs)) → AllByRecursion P (map (λ h. h.state.generation) (map (aged_grave t) (if b then g ∷ gs else gs)))
unfolding aged_state
generations_if true P t g gs first more = (first, more)
generations_if false P t g gs first more = more

generations_aged : (P : ℕ → Type 0) (t : ℕ) (graves : List Grave) → AllByRecursion P (map (λ g. g.state.generation) graves) → AllByRecursion P (map (λ g. g.state.generation) (aged_graves t graves))
unfolding aged_graves
generations_aged P t [] h = h
generations_aged P t (g ∷ gs) h =
    generations_if (nat_lt t g.hard) P t g (filter (λ h. nat_lt t h.hard) gs) h.0 (generations_aged P t gs h.1)

differ_if : (b : Bool) (t : ℕ) (g : Grave) (gs : List Grave) → AllByRecursion (λ m. m ≢ g.state.generation) (map (λ h. h.state.generation) (map (aged_grave t) gs)) → Differ (map (λ h. h.state.generation) (map (aged_grave t) gs)) → Differ (map (λ h. h.state.generation) (map (aged_grave t) (if b then g ∷ gs else gs)))
unfolding aged_state
differ_if true t g gs apart more = (apart, more)
differ_if false t g gs apart more = more

differ_aged : (t : ℕ) (graves : List Grave) → Differ (map (λ g. g.state.generation) graves) → Differ (map (λ g. g.state.generation) (aged_graves t graves))
unfolding aged_graves
differ_aged t [] h = h
differ_aged t (g ∷ gs) h =
    differ_if (nat_lt t g.hard) t g (filter (λ h. nat_lt t h.hard) gs) (generations_aged (λ m. m ≢ g.state.generation) t gs h.0) (differ_aged t gs h.1)

counted_aged : (P : ℕ → Type 0) (t : ℕ) (alive : Option State) (graves : List Grave) → AllByRecursion P (living_generation alive ++ map (λ g. g.state.generation) graves) → AllByRecursion P (living_generation (aged_alive t alive) ++ map (λ g. g.state.generation) (aged_graves t graves))
unfolding aged_state
counted_aged P t None graves h = generations_aged P t graves h
counted_aged P t (Some s) graves h = (h.0, generations_aged P t graves h.1)

apart_aged : (t : ℕ) (alive : Option State) (graves : List Grave) → Differ (living_generation alive ++ map (λ g. g.state.generation) graves) → Differ (living_generation (aged_alive t alive) ++ map (λ g. g.state.generation) (aged_graves t graves))
unfolding aged_state
apart_aged t None graves h = differ_aged t graves h
apart_aged t (Some s) graves h = (generations_aged (λ m. m ≢ s.generation) t graves h.0, differ_aged t graves h.1)

fit_later : (m n : ℕ) (slot : Slot) → slot.last_moment ≤ n → IsFit slot → IsFit (record slot { last_moment = n })
fit_later m n slot after h =
    let o : ℕ = slot.last_object in
    let u : ℕ = slot.next_upload in
    let same : o ≤ o = omega arith in
    let still : u ≤ u = omega arith in
    record {
      alive = some-weaker (IsFitState o slot.last_moment u) (IsFitState o n u) (state_later o o slot.last_moment n u u same after still) slot.alive h.alive;
      graves = all-weaker (IsFitGrave o slot.last_moment u) (IsFitGrave o n u) (grave_later o o slot.last_moment n u u same after still) slot.graves h.graves;
      counted = h.counted;
      differ = h.differ;
    }

-- a slot that is aged to a moment which isn't before its last one
pub fit_aged : (slot : Slot) (t : ℕ) → slot.last_moment ≤ t → IsFit slot → IsFit (aged slot t)
fit_aged slot t after h =
    let later = fit_later slot.last_moment t slot after h in
    record {
      alive = alive_aged t slot.last_object t slot.next_upload slot.alive later.alive;
      graves = graves_aged t slot.last_object t slot.next_upload slot.graves later.graves;
      counted = counted_aged (λ generation. generation ≤ slot.last_bucket) t slot.alive slot.graves later.counted;
      differ = apart_aged t slot.alive slot.graves later.differ;
    }
