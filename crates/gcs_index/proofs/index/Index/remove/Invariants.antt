use Rattle.gcs_index.proofs.index.Index.remove.Given as goal

abbrev pub ghosts-remove_on : goal.ghosts-remove_on
ghosts-remove_on g a = record { name = a.blank.name; parts = a.blank.parts }
