use Rattle.std.proofs.lemmas.Result.{err_from_is_err_and}
use Rattle.fz_language.specs.Grammar.{flatzinc}
use Rattle.fz_grammar.specs.Reading.{head}
use Rattle.fz_syntax.specs.Trees.{program_of}
use Rattle.fz_parse.proofs.Takes.{has_kind, has_other}
use Rattle.fz_parse.proofs.Verdicts.{accepts, breaks_behind_program, blames}
use Rattle.fz_parse.proofs.parser.whole.Goals as goal

pub returns-in_err-program-clause-taken : goal.returns-in_err-program-clause-taken
returns-in_err-program-clause-taken c =
    let p = err_from_is_err_and c.from_residual.result c.from_residual.ensures.1 in
    rw (p.1, p.2) (blames _ c.args.lexer.now.tokens _ c.in_err-program.ensures.taken)

pub returns-then-not-is-clause-taken : goal.returns-then-not-is-clause-taken
returns-then-not-is-clause-taken c =
    let new = c.program.new.lexer.tokens in
    breaks_behind_program c.args.lexer.now.tokens new (program_of c.in_ok-program.program) c.in_ok-program.ensures.taken
    (has_other c.is.result 0 (head flatzinc new) c.is.ensures.found c.if-not-is.true)

pub returns-clause-taken : goal.returns-clause-taken
returns-clause-taken c =
    let new = c.program.new.lexer.tokens in
    accepts c.args.lexer.now.tokens new (program_of c.in_ok-program.program) c.in_ok-program.ensures.taken
    (has_kind c.is.result 0 (head flatzinc new) c.is.ensures.found c.if-not-is.false)
