-- What is left of the items of a mask on the way down a value
use Rattle.std.specs.Prelude.{◌≡◌, ℕ, true, false, List, [], ◌∷◌, Option}
use Rattle.gcs_fields.specs.declared.select.Rest.{Rest}
use Rattle.gcs_fields.specs.declared.select.Followed.{Followed}
use Rattle.gcs_fields.specs.declared.select.Followed.TheVariants as followed
use Rattle.serde_json.specs.Data.{Data}
use Rattle.gcs_fields.specs.Tree.{Mask, none, item}
use Rattle.gcs_fields.specs.Select.{picks, ends, rests, select, member_by}
use Rattle.gcs_fields.specs.Views.{path_of, mask_of}

-- the rests as a mask
abbrev pub rests_of : List Rest → Mask
rests_of [] = none
rests_of (r ∷ rs) = item (path_of r.path.now) (mask_of r.inner.now) (rests_of rs)

-- what a mask says of the member of this key
abbrev pub IsFollowed : List ℕ → Mask → Followed → Type 0
IsFollowed k mask followed.Missed = (ends k mask ≡ false) × (picks k mask ≡ false)
IsFollowed k mask followed.Whole = ends k mask ≡ true
IsFollowed k mask (followed.By rs) = (ends k mask ≡ false) × (picks k mask ≡ true) × (rests_of rs.items ≡ rests k mask)

-- what stays of the member of this key
abbrev pub members_by : List ℕ → Mask → Data → Option Data
members_by k mask d = member_by k mask d (select (rests k mask) d)
