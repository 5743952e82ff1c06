-- A soft-deleted version stays as it is until its hard time.
use Rattle.std.proofs.Common.{◌≡◌, ◌≢◌, ◌<◌, ℕ, Bool, true, false, [], ◌∷◌, refl, subst, sym, arith}
use Rattle.std.specs.Prelude.{nat_lt, if◌then◌else◌}
use Rattle.std.proofs.lemmas.Bool.Decides.{nat_tests}
use Rattle.gcs_meaning.specs.declared.version.Kind.{Kind}
use Rattle.gcs_meaning.specs.declared.version.Kind.TheVariants.{Soft}
use Rattle.gcs_meaning.specs.declared.version.Row.{Row}
use Rattle.gcs_meaning.specs.declared.policy.Cover.TheVariants.{Free, SoftDeleted}
use Rattle.gcs_meaning.specs.Choosing.{is_readable}
use Rattle.gcs_meaning.specs.Moment.{effective_moment}
use Rattle.gcs_meaning.specs.Policy.{cover_of, cover_of_kind}
use Rattle.gcs_meaning.specs.Retiring.{facts_of}
use Rattle.gcs_meaning.specs.Slot.{State, Slot}
use Rattle.gcs_meaning.specs.Keeping.{HoldsOfOne, IsOneOf, buckets_of, IsCovered}
use Rattle.gcs_meaning.specs.Step.{step}
use Rattle.gcs_meaning.specs.Laws.{SoftIsKept}
use Rattle.gcs_meaning.proofs.Members.{one-found, one-member}
use Rattle.gcs_meaning.proofs.Fitting.{fit_is_kept}
use Rattle.gcs_meaning.proofs.Staying.{Outlives, Stays}
use Rattle.gcs_meaning.proofs.Covering.{IsThat, itself, step_stays}

-- before its hard time it is covered
deleted_covered : (b : Bool) (t hard : ℕ) → nat_lt t hard ≡ b → t < hard → (if b then SoftDeleted hard else Free) ≢ Free
deleted_covered true t hard is before = λ same. cc
deleted_covered false t hard is before = absurd (grind (arith, nat_tests))

soft_covered : (s : State) (t : ℕ) (row : Row) (at hard : ℕ) → row.kind ≡ Soft at hard → t < hard → IsCovered s t row
unfolding cover_of
soft_covered s t row at hard soft before =
    subst (λ kind. cover_of_kind kind s.settings (facts_of row) t ≢ Free) (sym soft) (deleted_covered (nat_lt t hard) t hard refl before)

-- no command makes anything of it
not_readable : (kind : Kind) (at hard : ℕ) → kind ≡ Soft at hard → is_readable kind ≡ true → ⊥
not_readable kind at hard soft readable = cc (subst (λ k. is_readable k ≡ true) soft readable)

soft_outlives : (t : ℕ) (row : Row) (at hard : ℕ) → row.kind ≡ Soft at hard → Outlives (λ other. other ≡ row) t row
soft_outlives t row at hard soft = record {
  itself = refl;
  changed = λ meta readable. absurd (not_readable row.kind at hard soft readable);
  noncurrent = λ readable. absurd (not_readable row.kind at hard soft readable);
}

pub soft_is_kept : SoftIsKept
soft_is_kept slot [] s row at hard fit is here soft before =
    one-member (λ state. HoldsOfOne (IsThat row) state.rows) s (buckets_of slot) is (one-member (IsThat row) row s.rows here (itself row))
soft_is_kept slot (e ∷ es) s row at hard fit is here soft before =
    let t : ℕ = effective_moment slot.last_moment e.moment in
    let after : Slot = (step slot e.moment e.command).1 in
    let stays : Stays (λ other. other ≡ row) after =
    step_stays (λ other. other ≡ row) slot e.moment e.command s row (soft_outlives t row at hard soft) fit is here (soft_covered s t row at hard soft before.0) in
    let found = one-found (λ state. IsOneOf state.rows row) (buckets_of after) stays in
    soft_is_kept after es found.0 row at hard (fit_is_kept.kept slot e.moment e.command fit) found.1.0 found.1.1 soft before.1
