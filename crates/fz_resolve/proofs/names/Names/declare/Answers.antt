use Rattle.fz_resolve.proofs.NameLaws.{declared}
use Rattle.fz_resolve.proofs.names.Names.declare.Goals as goal

pub returns : goal.returns
returns c = λ i name. declared c.args.name.bytes.now c.args.self.now.known c.insert.new.self c.args.entry c.key_of.result.0 c.key_of.result.1.now c.key_of.ensures.tail c.key_of.ensures.bytes c.in_ok-insert.ensures.updates name i
