use Rattle.gcs_store.proofs.shard.Shard.apply.Given as goal

-- the steps of a shard are counted on a ledger of their own
abbrev pub ghosts-step_slots : goal.ghosts-step_slots
ghosts-step_slots a = record { name = a.blank.name; parts = a.blank.parts }
