use Rattle.std.proofs.Common.{refl}
use Rattle.fz_language.specs.Tokens.{Identifier}
use Rattle.fz_parse.proofs.Takes.{missed, took_next, fewer_next}
use Rattle.fz_parse.proofs.steps.identifier.Goals as goal

pub returns-in-Some-clause-taken : goal.returns-in-Some-clause-taken
returns-in-Some-clause-taken c = λ l. took_next 1 l (record { lexeme = Identifier c.in-Some.name.bytes.now; at = c.in-Some.name.at }) _ _ c.in-Some.ensures c.advance.ensures.tokens refl refl

pub returns-in-Some-clause-forward : goal.returns-in-Some-clause-forward
returns-in-Some-clause-forward c = fewer_next (record { lexeme = Identifier c.in-Some.name.bytes.now; at = c.in-Some.name.at }) _ _ c.in-Some.ensures c.advance.ensures.tokens

pub returns-in-None-clause-taken : goal.returns-in-None-clause-taken
returns-in-None-clause-taken c = missed 1 _ c.in-None.ensures
