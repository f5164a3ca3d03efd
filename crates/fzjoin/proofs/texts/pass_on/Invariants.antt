use Rattle.std.proofs.Common.{◌≡◌, []}
use Rattle.fzjoin.proofs.Passing.{IsPassing}
use Rattle.fzjoin.proofs.texts.pass_on.Given as goal

abbrev pub invariant-pieces : goal.invariant-pieces
invariant-pieces g l = record {
  empty : l.text.items ≡ [];
  source : g.R.Source.faults l.source ≡ g.R.Source.faults l.initial.source;
  sink : g.S.Sink.faults l.sink ≡ g.S.Sink.faults l.initial.sink;
  passing : IsPassing l.initial.join l.join (g.R.Source.left l.initial.source) (g.R.Source.left l.source) (g.S.Sink.taken l.initial.sink) (g.S.Sink.taken l.sink);
}
