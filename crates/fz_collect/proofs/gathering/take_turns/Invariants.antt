use Rattle.std.proofs.Common.{◌≡◌}
use Rattle.fz_collect.proofs.gathering.take_turns.Given as goal

abbrev pub invariant-turns : goal.invariant-turns
invariant-turns g l = record {
  next : (goal.iterator-turns g).can_next l.iterator';
  finite : (goal.iterator-turns g).is_finite l.iterator';
  works : g.C.Collect.works l.collector l.lent;
  more : g.C.Collect.enough l.collector → ⊥;
  model : g.C.Collect.model l.collector ≡ g.T.Subject.model;
  mode : g.C.Collect.mode l.collector ≡ g.T.Subject.mode;
  grew : g.C.Collect.grew l.initial.collector l.initial.lent l.collector l.lent;
}
