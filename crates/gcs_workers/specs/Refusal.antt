-- What a refusal writes.
use Rattle.std.specs.Prelude.{◌≡◌, ◌<◌, ◌⊎◌, ℕ, List, ◌++◌, length, Option, codes}
use Rattle.gcs_io.specs.Told.{Gains}
use Rattle.gcs_workers.specs.declared.status.Status.{Status}
use Rattle.gcs_workers.specs.declared.status.Status.TheVariants.{Refused, WriteFault}
use Rattle.gcs_workers.specs.Status.{status_number}

-- the line was written whole, or after a fault a proper prefix of it
abbrev pub IsRefusal : List ℕ → Option (List ℕ) → Option (List ℕ) → Status → Type 0
IsRefusal line before now Refused = Gains before now line
IsRefusal line before now WriteFault = (part more : List ℕ) × (line ≡ part ++ more) × (0 < length more) × Gains before now part
IsRefusal line before now status = ⊥

-- the words were turned away by the line on the error sink, or a part of it after a fault; want of memory is status 5
abbrev pub AreTurnedAway : Option (List ℕ) → Option (List ℕ) → ℕ → Type 0
AreTurnedAway wrong wrong' status =
    ((refusal : Status) × (status ≡ status_number refusal) × IsRefusal (codes "gcs_server: bad words\n") wrong wrong' refusal)
    ⊎ ((status ≡ 5) × (wrong' ≡ wrong))
