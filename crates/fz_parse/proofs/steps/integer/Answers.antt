use Rattle.std.proofs.Common.{refl}
use Rattle.fz_language.specs.Tokens.{Number}
use Rattle.fz_parse.proofs.Takes.{missed, took_next, fewer_next}
use Rattle.fz_parse.proofs.steps.integer.Goals as goal

pub returns-in-Some-clause-taken : goal.returns-in-Some-clause-taken
returns-in-Some-clause-taken c = λ l. took_next 2 l (record { lexeme = Number c.in-Some.integer.value; at = c.in-Some.integer.at }) _ _ c.in-Some.ensures c.advance.ensures.tokens refl refl

pub returns-in-Some-clause-forward : goal.returns-in-Some-clause-forward
returns-in-Some-clause-forward c = fewer_next (record { lexeme = Number c.in-Some.integer.value; at = c.in-Some.integer.at }) _ _ c.in-Some.ensures c.advance.ensures.tokens

pub returns-in-None-clause-taken : goal.returns-in-None-clause-taken
returns-in-None-clause-taken c = missed 2 _ c.in-None.ensures
