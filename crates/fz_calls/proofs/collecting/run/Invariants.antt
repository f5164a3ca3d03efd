use Rattle.fz_calls.proofs.collecting.run.Given as goal

abbrev pub ghosts-collected : goal.ghosts-collected
ghosts-collected g a = record { model = a.book.book.model; mode = a.book.book.mode }
