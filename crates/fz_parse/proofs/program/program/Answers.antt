use Rattle.std.proofs.Common.{refl}
use Rattle.std.proofs.lemmas.Result.{err_from_is_err_and}
use Rattle.fz_language.specs.Grammar as grammar
use Rattle.fz_parse.proofs.Follows.{reads_by, halts_by, here, rule_then, rule_behind, ended}
use Rattle.fz_parse.proofs.program.program.Goals as goal

pub returns-in_err-items-clause-taken : goal.returns-in_err-items-clause-taken
returns-in_err-items-clause-taken c =
    let p = err_from_is_err_and c.from_residual.result c.from_residual.ensures.1 in
    rw (p.1, p.2) (halts_by {n = grammar.WholeProgram} refl (here (c.in_err-items.ensures.taken)))

pub returns-in_err-solve-clause-taken : goal.returns-in_err-solve-clause-taken
returns-in_err-solve-clause-taken c =
    let p = err_from_is_err_and c.from_residual-in_err-solve.result c.from_residual-in_err-solve.ensures.1 in
    rw (p.1, p.2) (halts_by {n = grammar.WholeProgram} refl (rule_behind (c.in_ok-items.ensures.taken) (here (c.in_err-solve.ensures.taken))))

pub returns-clause-taken : goal.returns-clause-taken
returns-clause-taken c =
    reads_by {n = grammar.WholeProgram} refl (rule_then (c.in_ok-items.ensures.taken) (rule_then (c.in_ok-solve.ensures.taken) ended))
