use Rattle.std.proofs.Common.{◌≡◌, ◌<◌, ℕ, pos, get_or}
use Rattle.fz_dom.proofs.domain.Dom.has_ranges_of.Given as goal

abbrev pub invariant-loop-i : goal.invariant-loop-i
invariant-loop-i l = (k : ℕ) → k < l.i → get_or l.self k (pos 0, pos 0) ≡ get_or l.other k (pos 0, pos 0)
