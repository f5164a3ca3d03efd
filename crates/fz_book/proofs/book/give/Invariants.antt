use Rattle.std.proofs.Common.{◌≡◌, ◌+◌, ◌≤◌, ◌++◌, length, map}
use Rattle.std.specs.Vec.{vec_len, vec_capacity}
use Rattle.fz_tree.specs.Book.{claimed_part}
use Rattle.fz_book.proofs.book.give.Given as goal

-- those so far are added
abbrev pub invariant-loop-frontier : goal.invariant-loop-frontier
invariant-loop-frontier l =
    (l.parts.items ≡ l.initial.parts.items ++ map claimed_part l.yielded)
    × ((vec_len l.parts ≡ vec_len l.initial.parts + length l.yielded) × (vec_capacity l.initial.parts ≤ vec_capacity l.parts))
