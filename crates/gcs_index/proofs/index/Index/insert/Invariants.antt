use Rattle.gcs_index.proofs.index.Index.insert.Given as goal

abbrev pub ghosts-insert_on : goal.ghosts-insert_on
ghosts-insert_on g a = record { name = a.blank.name; parts = a.blank.parts }
