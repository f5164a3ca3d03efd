use Rattle.fz_refutes.proofs.Opening.{added}
use Rattle.fz_cert.proofs.variables.add_open.Goals as goal

pub returns-clause-choices : goal.returns-clause-choices
returns-clause-choices c =
    added c.args.area.now c.args.several.now.items c.push.new.self.items c.args.variable c.args.choices c.size_at-size.result c.in_ok-push.ensures.items c.requires.choices c.size_at-size.ensures.size
