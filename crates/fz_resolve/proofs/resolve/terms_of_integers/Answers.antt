use Rattle.std.proofs.Common.{Ok, ap, ◌∙◌}
use Rattle.fz_syntax.proofs.Integers.{unasked, asked}
use Rattle.fz_resolve.proofs.resolve.terms_of_integers.Goals as goal

pub returns-in-Some : goal.returns-in-Some
returns-in-Some c = λ env. unasked env c.args.asked c.args.integers.now c.in-Some.at (record { truth = c.in-Some.ensures.truth; integer = c.in-Some.ensures.integer })

pub returns-in_ok-integer_terms-in-None : goal.returns-in_ok-integer_terms-in-None
returns-in_ok-integer_terms-in-None c = λ env.
    ap (λ ts. Ok ts) c.in_ok-integer_terms-in-None.ensures ∙ asked env c.args.asked c.args.integers.now (record { truth = c.in-None.ensures.truth; integer = c.in-None.ensures.integer })
