use Rattle.std.proofs.Common.{◌≡◌, ◌≤◌, ◌-◌, ◌+◌, ◌++◌, length, drop, IfSome, vec_len}
use Rattle.fz_io.specs.Outside.{without}
use Rattle.fz_io.proofs.whole.read_all.Given as goal

abbrev pub invariant-pieces : goal.invariant-pieces
invariant-pieces g l = record {
  within : vec_len l.bytes ≤ l.limit + 1;
  front : IfSome (g.R.Source.left l.initial.source) (λ b. b ≡ l.bytes.items ++ drop (length l.bytes.items) b);
  left : g.R.Source.left l.source ≡ without (g.R.Source.left l.initial.source) (length l.bytes.items);
  faults : g.R.Source.faults l.source ≡ g.R.Source.faults l.initial.source;
  selected : g.R.Source.is_selected l.source ≡ g.R.Source.is_selected l.initial.source;
  counted : g.R.Source.selections l.source ≡ g.R.Source.selections l.initial.source;
  texts : g.R.Source.texts l.source ≡ g.R.Source.texts l.initial.source;
}

abbrev pub decreases-pieces : goal.decreases-pieces
decreases-pieces g l = l.limit + 1 - vec_len l.bytes
