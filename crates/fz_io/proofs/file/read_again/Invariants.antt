use Rattle.std.specs.Io.KnownBytes.{Keeps}
use Rattle.fz_io.proofs.file.read_again.Given as goal

abbrev pub invariant-tries : goal.invariant-tries
invariant-tries g l = Keeps (g.T.Read.remaining l.initial.reader) (g.T.Read.remaining l.reader)
