use Rattle.si_checker_tests.proofs.tests.callers.was_played.Given as goal

-- the parts that were just opened
abbrev pub ghosts-play_on : goal.ghosts-play_on
ghosts-play_on g a = record { board = a.parts.board; limit = a.parts.limit }
