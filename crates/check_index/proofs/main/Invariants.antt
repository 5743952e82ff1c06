use Rattle.check_index.proofs.main.Given as goal

-- the looks at keys are counted on a ledger of their own
abbrev pub ghosts-try_cases : goal.ghosts-try_cases
ghosts-try_cases a = record { name = a.blank.name; parts = a.blank.parts }
