use Rattle.std.proofs.Common.{get_or, refl}
use Rattle.fz_sets.proofs.Lists.{same_at}
use Rattle.fz_cert.proofs.Fixing.{none_more, one_empty}
use Rattle.fz_cert.proofs.variables.is_empty_among.Goals as goal

pub returns-then-is_none_of : goal.returns-then-is_none_of
returns-then-is_none_of c =
    let vs = c.args.variables.now in
    let i = c.loop-variable.variable-index in
    let v = get_or vs i 0 in
    let within = c.loop-variable-test.true in
    ((λ _. one_empty c.args.area.now vs i v within (same_at vs i 0 v within) (c.if-is_none_of.ensures.0 refl)), (λ _. refl))

pub loop-variable-preserved : goal.loop-variable-preserved
loop-variable-preserved c =
    let vs = c.args.variables.now in
    let i = c.loop-variable.variable-index in
    let v = get_or vs i 0 in
    let within = c.loop-variable-test.true in
    none_more c.args.area.now vs i v within (same_at vs i 0 v within) (λ e. let t = c.if-is_none_of.ensures.1 e in absurd (cc (t))) c.loop-variable.invariant
