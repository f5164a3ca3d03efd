use Rattle.fz_language.specs.Rules.{unknown_in}
use Rattle.fz_syntax.specs.Trees.{basic_of}
use Rattle.fz_resolve.specs.Meant.{environment_of}
use Rattle.fz_syntax.proofs.Firsts.{found_item, none_item, none_found}
use Rattle.fz_resolve.proofs.names.Names.unknown_basic.Goals as goal

pub returns-in-Some : goal.returns-in-Some
returns-in-Some c =
    found_item (unknown_in (environment_of c.args.self.now)) basic_of c.args.basics.now c.loop-basic.basic-index c.basic-item.result c.in-Some.at c.loop-basic-test.true c.basic-item.is c.in-Some.ensures c.loop-basic.invariant

pub loop-basic-preserved : goal.loop-basic-preserved
loop-basic-preserved c =
    none_item (unknown_in (environment_of c.args.self.now)) basic_of c.args.basics.now c.loop-basic.basic-index c.basic-item.result c.loop-basic-test.true c.basic-item.is c.in_default.ensures c.loop-basic.invariant

pub returns : goal.returns
returns c = none_found (unknown_in (environment_of c.args.self.now)) basic_of c.args.basics.now c.loop-basic.basic-index c.loop-basic-test.false c.loop-basic.invariant
