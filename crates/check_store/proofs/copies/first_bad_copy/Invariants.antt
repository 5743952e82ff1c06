use Rattle.check_store.proofs.copies.first_bad_copy.Given as goal

-- the looks at the versions are counted on a ledger of their own
abbrev pub ghosts-are_versions_copied : goal.ghosts-are_versions_copied
ghosts-are_versions_copied a = record { name = a.blank.name; parts = a.blank.parts }
