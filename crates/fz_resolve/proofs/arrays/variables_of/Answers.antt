use Rattle.std.proofs.Common.{◌∙◌, ◌++◌, ◌∷◌, [], ap, sym, get_or}
use Rattle.std.specs.Prelude.{pos}
use Rattle.fz_spec.specs.declared.term.Term.TheVariants.{Num}
use Rattle.std.proofs.lemmas.List.{take_all}
use Rattle.fz_language.specs.Search.{variables_of_terms}
use Rattle.fz_resolve.proofs.VariableLaws.{terms_more}
use Rattle.fz_resolve.proofs.arrays.variables_of.Goals as goal

pub loop-term-preserved : goal.loop-term-preserved
loop-term-preserved c =
    c.in_ok-push_term.ensures ∙ ap (λ u. u ++ variables_of_terms (get_or c.args.terms.now c.loop-term.term-index (Num (pos 0)) ∷ [])) c.loop-term.invariant ∙ sym (terms_more c.args.terms.now c.loop-term.term-index (Num (pos 0)) c.loop-term-test.true)

pub returns : goal.returns
returns c = c.loop-term.invariant ∙ ap variables_of_terms (take_all c.loop-term.term-index c.args.terms.now c.loop-term-test.false)
