use Rattle.embedded_checker.proofs.opened.Given as goal

-- the checker is named by what was opened
abbrev pub ghosts-shared : goal.ghosts-shared
ghosts-shared g a = record { board = a.parts.board; limit = a.parts.limit }
