use Rattle.std.proofs.Common.{◌≡◌, ◌∙◌, ap, length, suc, ℕ, List, true}
use Rattle.std.specs.Prelude.{◌==◌}
use Rattle.fz_tree.specs.declared.decision.Decision.{Decision}
use Rattle.fz_join.proofs.Placing.{line_misplaced, rest_misplaced}
use Rattle.fz_join.proofs.parts.parts_of.Goals as goal

pub returns-in-Err-clause-refused : goal.returns-in-Err-clause-refused
returns-in-Err-clause-refused c =
    line_misplaced c.args.model.now c.args.text.now c.lines.left.now c.in-Some.line.now c.in-Some.later.now c.lines.parts.items c.behind.result.line c.lines.invariant.text c.lines.invariant.of_model c.in-Some.ensures.some.0 c.in-Some.ensures.some.1
    (c.behind.ensures.line ∙ ap (λ (ps : List (List Decision)). suc (length ps)) c.deref.ensures.value) (λ p part is. rw c.in-Err.is at (c.in_ok-part.ensures.exact p part is))

pub returns-else-is_empty-clause-refused : goal.returns-else-is_empty-clause-refused
returns-else-is_empty-clause-refused c =
    rest_misplaced c.args.model.now c.args.text.now c.lines.left.now c.lines.parts.items c.behind-else-is_empty.result.line c.lines.invariant.text c.lines.invariant.of_model c.in_default.ensures.none
    (λ none. let empty : (length c.lines.left.now == 0) ≡ true = ap (λ (t : List ℕ). length t == 0) none in cc)
    (c.behind-else-is_empty.ensures.line ∙ ap (λ (ps : List (List Decision)). suc (length ps)) c.deref-else-is_empty.ensures.value)
