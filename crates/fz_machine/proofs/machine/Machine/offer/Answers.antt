use Rattle.fz_machine.specs.Cores.{Core}
use Rattle.fz_machine.proofs.Assets.{offer_law, offer_better, offer_none}
use Rattle.fz_machine.proofs.machine.Machine.offer.Goals as goal

pub invariant_of-self : goal.invariant_of-self
invariant_of-self g c =
    let s : Core = record { workers = c.self.inside.workers.items; book = c.self.inside.book.book } in
    offer_law s c.args.assignment c.in-Ok-Better.field-0 c.offer_found.new.self.book c.self.invariant c.in-Ok-Better.ensures.ok

pub returns-in-Ok-Better-clause-ok : goal.returns-in-Ok-Better-clause-ok
returns-in-Ok-Better-clause-ok g c =
    let s : Core = record { workers = c.self.inside.workers.items; book = c.self.inside.book.book } in
    offer_better s c.args.self.now c.args.assignment c.in-Ok-Better.field-0 c.offer_found.new.self.book c.self.view_is c.in-Ok-Better.field-0-is c.in-Ok-Better.ensures.ok

pub returns-in-Ok-NotBetter-clause-ok : goal.returns-in-Ok-NotBetter-clause-ok
returns-in-Ok-NotBetter-clause-ok g c =
    let s : Core = record { workers = c.self.inside.workers.items; book = c.self.inside.book.book } in
    offer_none s c.args.self.now c.args.assignment c.in-Ok-NotBetter.field-0-0 c.in-Ok-NotBetter.field-0 c.offer_found.new.self.book c.self.view_is c.requires.mode c.requires.satisfies c.in-Ok-NotBetter.field-0-is c.in-Ok-NotBetter.ensures.ok
