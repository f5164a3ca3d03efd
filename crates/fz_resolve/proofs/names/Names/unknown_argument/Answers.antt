use Rattle.fz_language.specs.Rules.{unknown_of}
use Rattle.fz_syntax.specs.Trees.{expression_of}
use Rattle.fz_resolve.specs.Meant.{environment_of}
use Rattle.fz_syntax.proofs.Firsts.{found_item, none_item, none_found}
use Rattle.fz_resolve.proofs.names.Names.unknown_argument.Goals as goal

pub returns-in-Some : goal.returns-in-Some
returns-in-Some c =
    found_item (unknown_of (environment_of c.args.self.now)) expression_of c.args.arguments.now c.loop-argument.argument-index c.argument-item.result c.in-Some.at c.loop-argument-test.true c.argument-item.is c.in-Some.ensures c.loop-argument.invariant

pub loop-argument-preserved : goal.loop-argument-preserved
loop-argument-preserved c =
    none_item (unknown_of (environment_of c.args.self.now)) expression_of c.args.arguments.now c.loop-argument.argument-index c.argument-item.result c.loop-argument-test.true c.argument-item.is c.in_default.ensures c.loop-argument.invariant

pub returns : goal.returns
returns c = none_found (unknown_of (environment_of c.args.self.now)) expression_of c.args.arguments.now c.loop-argument.argument-index c.loop-argument-test.false c.loop-argument.invariant
