use Rattle.std.proofs.Common.{◌≡◌, ℕ, ◌≤◌, ◌<◌, pos, count_by}
use Rattle.std.specs.Prelude.{◌+ℤ◌, ◌-ℤ◌}
use Rattle.fz_strength.specs.Differences.{IsSpread}
use Rattle.fz_hall.specs.Counts.{begins_in, ends_in}
use Rattle.fz_hall.proofs.close.crossed_from.Given as goal

-- how many begin and end in those so far, none of which has too many
abbrev pub invariant-loop-last : goal.invariant-loop-last
invariant-loop-last l = record {
  begins : l.begins ≡ count_by (begins_in l.store.doms (l.tally.span.low +ℤ pos l.place) ((l.tally.span.low +ℤ pos l.last) -ℤ pos 1)) l.terms;
  ends : l.ends ≡ count_by (ends_in l.store.doms (l.tally.span.low +ℤ pos l.place) ((l.tally.span.low +ℤ pos l.last) -ℤ pos 1)) l.terms;
  spread : (u : ℕ) → l.place ≤ u → u < l.last → IsSpread l.terms l.store.doms (l.tally.span.low +ℤ pos l.place) (l.tally.span.low +ℤ pos u);
}
