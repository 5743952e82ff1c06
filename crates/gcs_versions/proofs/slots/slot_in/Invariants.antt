use Rattle.gcs_versions.proofs.slots.slot_in.Given as goal

-- looks that nobody counts are counted on a ledger of their own
abbrev pub ghosts-slot_on : goal.ghosts-slot_on
ghosts-slot_on a = record { name = a.blank.name; parts = a.blank.parts }
