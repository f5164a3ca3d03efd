use Rattle.std.proofs.Common.{◌∙◌, ℤ, pos, List, [], ◌∷◌, ◌++◌, get_or, sym, ap, rules}
use Rattle.std.proofs.lemmas.List.{map_more}
use Rattle.std.proofs.Math.Facts.{to_z-of_z}
use mir.Val.{SFits}
use mir.Syntax.{w32}
use Rattle.fz_spec.specs.declared.term.Term.{Term}
use Rattle.fz_spec.specs.declared.term.Term.TheVariants.{Num}
use Rattle.fz_resolve.proofs.arrays.number_terms.Goals as goal

pub loop-number-preserved : goal.loop-number-preserved
loop-number-preserved c =
    let number : ℤ = get_or c.args.numbers.now c.loop-number.number-index (pos 0) in
    let fits : SFits w32 number = search rules in
    (rw (to_z-of_z fits) at c.in_ok-push.ensures.items)
    ∙ ap (λ (terms : List Term). terms ++ Num number ∷ []) c.loop-number.invariant
    ∙ sym (map_more Num c.args.numbers.now c.loop-number.number-index (pos 0) c.loop-number-test.true)
