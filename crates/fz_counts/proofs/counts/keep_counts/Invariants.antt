use Rattle.std.proofs.Common.{◌≡◌, true}
use Rattle.fz_counts.proofs.Covering.{IsCounting}
use Rattle.fz_counts.proofs.Deciding.{AreEntailed}
use Rattle.fz_counts.proofs.counts.keep_counts.Given as goal

-- no assignment is lost that makes it true; where nothing changed the lines of those so far hold; where all are decided they hold for good
abbrev pub invariant-loop-place : goal.invariant-loop-place
invariant-loop-place l = record {
  counting : IsCounting l.terms l.cover l.counts l.initial.store l.store l.has_changed l.place;
  entailed : l.are_decided ≡ true → AreEntailed l.terms l.cover l.counts l.store.doms l.place;
}
