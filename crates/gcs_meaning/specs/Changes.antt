-- What a change makes of one field: a change that is whole sets each field that it doesn't name to its default (Cloud Storage
-- JSON API, "Objects: patch" and "Objects: update").
use Rattle.std.specs.Prelude.{ℕ, Bool, List, [], Option, Some, None, if◌then◌else◌}
use Rattle.gcs_meaning.specs.declared.changes.Set.{Set}
use Rattle.gcs_meaning.specs.declared.changes.Set.TheVariants.{Keep, Clear, To}
use Rattle.gcs_meaning.specs.Pairs.{PairList, set_pairs}

-- a field with this default
abbrev pub changed : {X : Type 0} → Bool → X → X → Set X → X
changed whole default had Keep = if whole then default else had
changed whole default had Clear = default
changed whole default had (To value) = value

-- a field that is absent by default
abbrev pub changed_option : {X : Type 0} → Bool → Option X → Set X → Option X
changed_option whole had Keep = if whole then None else had
changed_option whole had Clear = None
changed_option whole had (To value) = Some value

-- pairs, of which there are none by default: a whole change begins with none
abbrev pub changed_pairs : Bool → PairList → Set (List (List ℕ × Option (List ℕ))) → PairList
changed_pairs whole had Keep = if whole then [] else had
changed_pairs whole had Clear = []
changed_pairs whole had (To asked) = set_pairs (if whole then [] else had) asked

-- a fact of the value that a field is set to
abbrev pub IfSet : {X : Type 0} → Set X → (X → Type 0) → Type 0
IfSet Keep P = Unit {0}
IfSet Clear P = Unit {0}
IfSet (To value) P = P value
