use Rattle.std.proofs.Common.{◌≡◌}
use Rattle.fz_collect.proofs.gathering.take_all.Given as goal

abbrev pub invariant-each : goal.invariant-each
invariant-each g l = record {
  works : g.C.Collect.works l.collector l.lent;
  more : g.C.Collect.enough l.collector → ⊥;
  model : g.C.Collect.model l.collector ≡ g.T.Subject.model;
  mode : g.C.Collect.mode l.collector ≡ g.T.Subject.mode;
  grew : g.C.Collect.grew l.initial.collector l.initial.lent l.collector l.lent;
}
