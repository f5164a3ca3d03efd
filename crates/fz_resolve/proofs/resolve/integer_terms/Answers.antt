use Rattle.std.proofs.Common.{◌∙◌, ℤ, pos, List, [], ◌∷◌, ◌++◌, get_or, sym, ap, rules}
use Rattle.std.proofs.lemmas.List.{map_more}
use Rattle.std.proofs.Math.Facts.{to_z-of_z}
use mir.Val.{SFits}
use mir.Syntax.{w32}
use Rattle.fz_spec.specs.declared.term.Term.{Term}
use Rattle.fz_spec.specs.declared.term.Term.TheVariants.{Num}
use Rattle.fz_syntax.specs.declared.leaf.Integer.{Integer}
use Rattle.fz_resolve.proofs.resolve.integer_terms.Goals as goal

pub loop-integer-preserved : goal.loop-integer-preserved
loop-integer-preserved c =
    let none : Integer = record { value = pos 0; at = 0 } in
    let value : ℤ = (get_or c.args.integers.now c.loop-integer.integer-index none).value in
    let fits : SFits w32 value = search rules in
    (rw (to_z-of_z fits) at c.in_ok-push.ensures.items)
    ∙ ap (λ (terms : List Term). terms ++ Num value ∷ []) c.loop-integer.invariant
    ∙ sym (map_more (λ (i : Integer). Num i.value) c.args.integers.now c.loop-integer.integer-index none c.loop-integer-test.true)
