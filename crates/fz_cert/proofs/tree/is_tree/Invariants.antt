use Rattle.std.proofs.Common.{◌≡◌, length}
use Rattle.fz_cert.specs.Steps.{HaveLength}
use Rattle.fz_cert.proofs.Reading.{IsRead}
use Rattle.fz_cert.proofs.Unread.{IsTreeText}
use Rattle.fz_cert.proofs.tree.is_tree.Given as goal

abbrev pub invariant-lines : goal.invariant-lines
invariant-lines l = record {
  read : IsRead l.model l.head l.initial.walk l.walk l.text l.rest;
  unread : IsTreeText l.model l.head l.initial.walk l.text → IsTreeText l.model l.head l.walk l.rest;
  room : length l.values.items ≡ length l.model.variables;
  length : HaveLength (length l.model.variables) l.walk;
}

abbrev pub decreases-lines : goal.decreases-lines
decreases-lines l = length l.rest
