use Rattle.std.proofs.Common.{◌≡◌, ◌++◌, take, codes}
use Rattle.std.specs.Prelude.{flat_map}
use Rattle.fz_spec.specs.Constraints.{term_value}
use Rattle.fz_spec.specs.Run.{value_text}
use Rattle.fz_print.proofs.block.push_further.Given as goal

-- the values so far
abbrev pub invariant-loop-term : goal.invariant-loop-term
invariant-loop-term l = l.text.items ≡ l.initial.text.items ++ flat_map (λ t. codes ", " ++ value_text l.kind (term_value l.values t)) (take l.term-index l.terms)
