use Rattle.fz_prop.proofs.Answering.{same_answer}
use Rattle.fz_shift.specs.Planes.{HasPartners, PlaneTruth}
use Rattle.fz_shift.proofs.Turning.{turned_plane, turned_same, turned_truth}
use Rattle.fz_shift.proofs.plane.keep_plane.Goals as goal

pub returns-in_err-keep_sides-2-clause-correct : goal.returns-in_err-keep_sides-2-clause-correct
returns-in_err-keep_sides-2-clause-correct c = λ a truth within. (rw c.turned.ensures at c.keep_sides-2.ensures.correct) a (turned_truth c.args.plane a truth) within

pub returns-clause-correct : goal.returns-clause-correct
returns-clause-correct c = λ a truth within. (rw c.turned.ensures at c.keep_sides-2.ensures.correct) a (turned_truth c.args.plane a truth) within

pub returns-clause-answer : goal.returns-clause-answer
returns-clause-answer c =
    let p = c.args.plane in
    let q = turned_plane p in
    same_answer c.in_ok-keep_sides-2.field-0 (PlaneTruth q) (PlaneTruth p) (HasPartners q) (HasPartners p) c.args.store.now.doms c.keep_sides-2.new.store.doms (turned_same p)
    (rw c.turned.ensures at c.in_ok-keep_sides-2.ensures.answer)
