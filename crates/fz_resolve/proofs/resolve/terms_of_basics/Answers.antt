use Rattle.std.proofs.Common.{ap, ◌∙◌, sym, Ok}
use Rattle.fz_language.specs.Entries.{term_in}
use Rattle.fz_syntax.specs.Trees.{basic_of}
use Rattle.fz_resolve.specs.Meant.{environment_of}
use Rattle.fz_language.proofs.Each.{each_more, each_stop}
use Rattle.fz_resolve.proofs.resolve.terms_of_basics.Goals as goal

pub returns-in-None : goal.returns-in-None
returns-in-None c =
    each_stop (term_in (environment_of c.args.names.now) c.args.asked) basic_of c.args.basics.now c.loop-basic.basic-index c.basic-item.result c.loop-basic.terms.items c.at.result c.loop-basic-test.true c.basic-item.is
    c.in-None.ensures c.at.ensures c.loop-basic.invariant

pub loop-basic-preserved : goal.loop-basic-preserved
loop-basic-preserved c =
    each_more (term_in (environment_of c.args.names.now) c.args.asked) basic_of c.args.basics.now c.loop-basic.basic-index c.basic-item.result c.loop-basic.terms.items c.in-Some.term c.loop-basic-test.true c.basic-item.is
    c.in-Some.ensures c.loop-basic.invariant
    ∙ ap (λ xs. Ok xs) (sym c.in_ok-push-in-Some.ensures.items)
