-- What is done to versions leaves the settings of their bucket.
use Rattle.std.proofs.Common.{◌≡◌, ℕ, List, Option, refl}
use Rattle.gcs_meaning.specs.declared.version.Row.{Row}
use Rattle.gcs_meaning.specs.Slot.{State}
use Rattle.gcs_meaning.specs.ObjectChange.{change_state}
use Rattle.gcs_meaning.specs.ObjectDeletion.{delete_state}
use Rattle.gcs_meaning.specs.Put.{put_state}

pub put_settings : (s : State) (t : ℕ) (row : Row) → (put_state s t row).settings ≡ s.settings
unfolding put_state
put_settings s t row = refl

pub change_settings : (s : State) (name : List ℕ) (generation : Option ℕ) (row : Row) → (change_state s name generation row).settings ≡ s.settings
unfolding change_state
change_settings s name generation row = refl

pub delete_settings : (s : State) (t : ℕ) (name : List ℕ) (generation : Option ℕ) → (delete_state s t name generation).settings ≡ s.settings
unfolding delete_state
delete_settings s t name generation = refl
