use Rattle.std.proofs.Common.{◌<◌, subst, sym}
use Rattle.fz_language.specs.Kinds.{number}
use Rattle.fz_language.specs.Grammar.{flatzinc}
use Rattle.fz_grammar.specs.Reading as reading
use Rattle.fz_parse.proofs.Takes.{has_kind, has_other, missed, took_mark, fewer, positive}
use Rattle.fz_parse.proofs.steps.take.Goals as goal

pub returns-then-not-is-clause-taken : goal.returns-then-not-is-clause-taken
returns-then-not-is-clause-taken c =
    missed (number c.args.kind) _ (has_other c.is.result (number c.args.kind) _ c.is.ensures.found c.if-not-is.true)

pub returns-clause-taken : goal.returns-clause-taken
returns-clause-taken c =
    let e = has_kind c.is.result (number c.args.kind) (reading.head flatzinc c.args.lexer.now.tokens) c.is.ensures.found c.if-not-is.false in
    took_mark c.args.kind c.args.lexer.now.source c.args.lexer.now.tokens c.advance.new.self.tokens c.place-at.result c.requires.mark e (positive c.args.kind c.requires.mark) c.place-at.ensures c.advance.ensures.tokens

pub returns-clause-forward : goal.returns-clause-forward
returns-clause-forward c =
    let e = has_kind c.is.result (number c.args.kind) (reading.head flatzinc c.args.lexer.now.tokens) c.is.ensures.found c.if-not-is.false in
    fewer c.args.lexer.now.tokens c.advance.new.self.tokens (subst (λ (n : _). 0 < n) (sym e) (positive c.args.kind c.requires.mark)) c.advance.ensures.tokens
