-- What clap makes of one to four words behind `--`.
use Rattle.std.proofs.Common.{◌≡◌, ◌≤◌, length, refl, codes, true, List, [], ◌∷◌, arith}
use Rattle.std.specs.Prelude.{slice_get}
use Rattle.clap.specs.Words.{Text, first_of, is_simple, matches_of, takes}
use Rattle.clap.proofs.OnLiterals.{clap_on_literals}
use Rattle.gcs_workers.specs.Positionals.{command, behind_dashes}

pub simple : is_simple command ≡ true
unfolding clap_on_literals
simple = refl

pub takes_few : (words : List Text) → 1 ≤ length words → length words ≤ 4 → takes command (behind_dashes words) ≡ true
unfolding clap_on_literals
takes_few [] l h = absurd (omega (arith, l))
takes_few (a ∷ []) l h = refl
takes_few (a ∷ b ∷ []) l h = refl
takes_few (a ∷ b ∷ c ∷ []) l h = refl
takes_few (a ∷ b ∷ c ∷ d ∷ []) l h = refl
takes_few (a ∷ b ∷ c ∷ d ∷ e ∷ ws) l h = absurd (omega (arith, h))

pub first_few : (words : List Text) → 1 ≤ length words → length words ≤ 4 → first_of (codes "first") (matches_of command (behind_dashes words)) ≡ slice_get words 0
unfolding clap_on_literals
first_few [] l h = absurd (omega (arith, l))
first_few (a ∷ []) l h = refl
first_few (a ∷ b ∷ []) l h = refl
first_few (a ∷ b ∷ c ∷ []) l h = refl
first_few (a ∷ b ∷ c ∷ d ∷ []) l h = refl
first_few (a ∷ b ∷ c ∷ d ∷ e ∷ ws) l h = absurd (omega (arith, h))

pub second_few : (words : List Text) → 1 ≤ length words → length words ≤ 4 → first_of (codes "second") (matches_of command (behind_dashes words)) ≡ slice_get words 1
unfolding clap_on_literals
second_few [] l h = absurd (omega (arith, l))
second_few (a ∷ []) l h = refl
second_few (a ∷ b ∷ []) l h = refl
second_few (a ∷ b ∷ c ∷ []) l h = refl
second_few (a ∷ b ∷ c ∷ d ∷ []) l h = refl
second_few (a ∷ b ∷ c ∷ d ∷ e ∷ ws) l h = absurd (omega (arith, h))

pub third_few : (words : List Text) → 1 ≤ length words → length words ≤ 4 → first_of (codes "third") (matches_of command (behind_dashes words)) ≡ slice_get words 2
unfolding clap_on_literals
third_few [] l h = absurd (omega (arith, l))
third_few (a ∷ []) l h = refl
third_few (a ∷ b ∷ []) l h = refl
third_few (a ∷ b ∷ c ∷ []) l h = refl
third_few (a ∷ b ∷ c ∷ d ∷ []) l h = refl
third_few (a ∷ b ∷ c ∷ d ∷ e ∷ ws) l h = absurd (omega (arith, h))

pub fourth_few : (words : List Text) → 1 ≤ length words → length words ≤ 4 → first_of (codes "fourth") (matches_of command (behind_dashes words)) ≡ slice_get words 3
unfolding clap_on_literals
fourth_few [] l h = absurd (omega (arith, l))
fourth_few (a ∷ []) l h = refl
fourth_few (a ∷ b ∷ []) l h = refl
fourth_few (a ∷ b ∷ c ∷ []) l h = refl
fourth_few (a ∷ b ∷ c ∷ d ∷ []) l h = refl
fourth_few (a ∷ b ∷ c ∷ d ∷ e ∷ ws) l h = absurd (omega (arith, h))
