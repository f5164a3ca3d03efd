use Rattle.std.proofs.Common.{get_or}
use Rattle.fz_sets.proofs.Lists.{same_at}
use Rattle.fz_cert.proofs.Fixing.{fixed_more}
use Rattle.fz_cert.proofs.variables.fix.Goals as goal

pub loop-variable-preserved : goal.loop-variable-preserved
loop-variable-preserved c =
    let vs = c.args.variables.now in
    let i = c.loop-variable.variable-index in
    let v = get_or vs i 0 in
    let within = c.loop-variable-test.true in
    fixed_more c.args.area.now c.loop-variable.values.items c.fix_one.new.values.items vs i v within (same_at vs i 0 v within) c.loop-variable.invariant c.fix_one.ensures.length c.fix_one.ensures.fixed c.fix_one.ensures.others
