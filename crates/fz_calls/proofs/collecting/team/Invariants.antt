use Rattle.fz_calls.proofs.collecting.team.Given as goal

abbrev pub ghosts-searched : goal.ghosts-searched
ghosts-searched g a = record { model = a.book.book.model; mode = a.book.book.mode }
