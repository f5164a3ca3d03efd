-- The book that the fields are, and its room.
use Rattle.std.specs.Prelude.{◌-◌}
use Rattle.std.specs.Arc.{arc_value}
use Rattle.std.specs.Vec.{vec_len, vec_capacity}
use Rattle.fz_tree.specs.Book.{Book}
use Rattle.fz_book.specs.Room.{Roomy}
use Rattle.fz_book.specs.declared.book.Book.TheInside.{Inside}

abbrev pub book_of : Inside → Book
book_of b = record { model = arc_value b.model; mode = b.mode; recorded = b.recorded.items; parts = b.parts.items }

abbrev pub roomy_of : Inside → Roomy
roomy_of b = record { book = book_of b; gone = b.recorded.gone; found_room = b.recorded.room; given_room = vec_capacity b.parts - vec_len b.parts }
