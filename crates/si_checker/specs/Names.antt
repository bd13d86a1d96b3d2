-- The name that a call picks in place of this one.
use Rattle.std.specs.Prelude.{[]}
use Rattle.si_words.specs.Seats.{Board}

abbrev pub no_board : Board
no_board = record { table = record { words = 0; slots = 0; views_name = 0; atom = 0; block = 0; offset = 0; slot_names = [] }; shards = 0; passes = 0 }
