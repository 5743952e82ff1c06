-- The command line for clap: one required and three optional positional words.
use Rattle.std.specs.Prelude.{◌≡◌, ℕ, List, ◌∷◌, true, codes, slice_get}
use Rattle.clap.specs.declared.parser.matches.Found.{Found}
use Rattle.clap.specs.Words.{App, Rule, first_value, new_app, new_rule, with_rule}

-- the first word has to be there
abbrev pub first_rule : Rule
first_rule = record (new_rule (codes "first")) { required = true }

-- the command with its four words
abbrev pub command : App
command = with_rule (with_rule (with_rule (with_rule (new_app (codes "gcs_server")) first_rule) (new_rule (codes "second"))) (new_rule (codes "third"))) (new_rule (codes "fourth"))

-- the words behind the program's name and `--`
abbrev pub behind_dashes : List (List ℕ) → List (List ℕ)
behind_dashes words = codes "gcs_server" ∷ codes "--" ∷ words

-- the values that clap found are the words
pub record HasWords (found : Found) (words : List (List ℕ)) : Type 0 where
  pub first : first_value found (codes "first") ≡ slice_get words 0
  pub second : first_value found (codes "second") ≡ slice_get words 1
  pub third : first_value found (codes "third") ≡ slice_get words 2
  pub fourth : first_value found (codes "fourth") ≡ slice_get words 3
