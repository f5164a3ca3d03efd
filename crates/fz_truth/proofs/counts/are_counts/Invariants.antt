use Rattle.std.specs.Prelude.{◌↔◌}
use Rattle.fz_spec.specs.Constraints.{term_value, term_values}
use Rattle.fz_spec.specs.Truth.{AreCounts}
use Rattle.fz_truth.proofs.CountLaws.{AreCountsBehind}
use Rattle.fz_truth.proofs.counts.are_counts.Given as goal

-- all are counts where those from here on are
abbrev pub invariant-loop-i : goal.invariant-loop-i
invariant-loop-i l = AreCounts (term_values l.values l.terms) l.cover (term_values l.values l.counts) ↔ AreCountsBehind (term_value l.values) (term_values l.values l.terms) l.cover l.counts l.i
