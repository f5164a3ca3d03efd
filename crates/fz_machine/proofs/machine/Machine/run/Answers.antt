use Rattle.fz_machine.proofs.Going.{begins_so, acting, acts_lawful, acts_on, acts_less, acts_short, stops_run, closed_by}
use Rattle.fz_machine.proofs.machine.Machine.run.Goals as goal

pub turns-init : goal.turns-init
turns-init g c = begins_so c.args.enough c.args.seed c.args.self.now

pub act-requires : goal.act-requires
act-requires g c =
    acts_lawful c.args.enough c.turns.number c.turns.self c.in-Some.event
    (acting c.args.enough c.turns.number c.next_number-number.result c.book.result.now.book c.has_enough.result c.turns.self c.turn.result c.in-Some.event c.turn.ensures.law
    c.book.ensures.book c.has_enough.ensures.enough c.if-has_enough.false c.next_number-number.ensures c.turn.ensures.turn c.in-Some.is)

pub turns-preserved : goal.turns-preserved
turns-preserved g c =
    acts_on c.args.enough c.args.seed c.turns.number c.next_number-number.result c.args.self.now c.turns.self c.act.new.self c.in-Some.event c.in_ok-act.field-0 c.next_number-number.ensures
    (acting c.args.enough c.turns.number c.next_number-number.result c.book.result.now.book c.has_enough.result c.turns.self c.turn.result c.in-Some.event c.turn.ensures.law
    c.book.ensures.book c.has_enough.ensures.enough c.if-has_enough.false c.next_number-number.ensures c.turn.ensures.turn c.in-Some.is)
    c.turns.invariant c.in_ok-act.ensures.ok

pub turns-smaller : goal.turns-smaller
turns-smaller g c =
    acts_less c.args.enough c.turns.number c.turns.self c.act.new.self c.in-Some.event c.in_ok-act.field-0
    (acting c.args.enough c.turns.number c.next_number-number.result c.book.result.now.book c.has_enough.result c.turns.self c.turn.result c.in-Some.event c.turn.ensures.law
    c.book.ensures.book c.has_enough.ensures.enough c.if-has_enough.false c.next_number-number.ensures c.turn.ensures.turn c.in-Some.is)
    c.turn.ensures.kept c.in_ok-act.ensures.ok

pub returns-in_default-clause-closed : goal.returns-in_default-clause-closed
returns-in_default-clause-closed g c = λ _. closed_by c.turns.self c.args.enough _ c.turn.result c.turn.ensures.law c.turn.ensures.turn c.in_default.is

pub returns-in_err-act-clause-stopped : goal.returns-in_err-act-clause-stopped
returns-in_err-act-clause-stopped g c =
    acts_short c.from_residual.result c.args.enough c.args.seed c.turns.number c.args.self.now c.turns.self c.act.new.self c.in-Some.event
    (acting c.args.enough c.turns.number c.next_number-number.result c.book.result.now.book c.has_enough.result c.turns.self c.turn.result c.in-Some.event c.turn.ensures.law
    c.book.ensures.book c.has_enough.ensures.enough c.if-has_enough.false c.next_number-number.ensures c.turn.ensures.turn c.in-Some.is)
    c.turns.invariant c.in_err-act.ensures.err

pub returns-in_err-act-clause-events : goal.returns-in_err-act-clause-events
returns-in_err-act-clause-events g c =
    (stops_run c.args.enough c.args.seed c.turns.number c.args.self.now c.turns.self c.act.new.self c.in-Some.event c.turns.invariant c.in_err-act.ensures.err).0
