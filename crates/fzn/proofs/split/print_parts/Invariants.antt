use Rattle.std.proofs.Common.{◌≡◌, take}
use Rattle.fz_io.specs.Outside.{with_more}
use Rattle.fzn.specs.Asked.{split_text}
use Rattle.fzn.proofs.split.print_parts.Given as goal

-- the lines of those so far are taken
abbrev pub invariant-loop-part : goal.invariant-loop-part
invariant-loop-part g l = record {
  taken : g.S.Sink.taken l.sink ≡ with_more (g.S.Sink.taken l.initial.sink) (split_text (take l.part-index l.parts));
  faults : g.S.Sink.faults l.sink ≡ g.S.Sink.faults l.initial.sink;
}
