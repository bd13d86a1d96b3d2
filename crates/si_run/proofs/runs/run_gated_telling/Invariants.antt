use Rattle.si_run.proofs.runs.run_gated_telling.Given as goal

-- the checker is named by what was opened
abbrev pub ghosts-run_named : goal.ghosts-run_named
ghosts-run_named g a = record { board = a.parts.board; limit = a.parts.limit }
