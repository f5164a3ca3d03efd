use Rattle.std.proofs.Common.{◌≡◌, ◌++◌, ◌+◌, ◌-◌, ◌*◌, ◌≤◌, length, drop}
use Rattle.fz_language.specs.Search.{parts_of_all}
use Rattle.fz_syntax.specs.Trees.{arguments_of, inside}
use Rattle.fz_resolve.specs.Meant.{environment_of}
use Rattle.fz_solve.proofs.search.+calls.Given as goal

abbrev pub decreases-push_call : goal.decreases-push_call
decreases-push_call l = 3 * length l.arguments.now

abbrev pub decreases-push_sequence : goal.decreases-push_sequence
decreases-push_sequence l = 3 * inside l.list + 2

abbrev pub decreases-push_member_call : goal.decreases-push_member_call
decreases-push_member_call l = 3 * inside l.member + 1

-- those so far before those of the members that are left
abbrev pub invariant-push_sequence-places : goal.invariant-push_sequence-places
invariant-push_sequence-places l = record {
  within : l.place ≤ length l.members;
  parted : l.parts.items ++ parts_of_all (environment_of l.names) (arguments_of (drop l.place l.members))
      ≡ l.fn.parts.items ++ parts_of_all (environment_of l.names) (arguments_of l.members);
}

abbrev pub decreases-push_sequence-places : goal.decreases-push_sequence-places
decreases-push_sequence-places l = length l.members - l.place
