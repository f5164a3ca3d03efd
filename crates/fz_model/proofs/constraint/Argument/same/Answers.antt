use Rattle.std.proofs.Common.{ap}
use Rattle.std.proofs.lemmas.Slice.Eq.{slice_eq-Decides}
use Rattle.std.proofs.lemmas.Bool.Decides.{Decides-int_eq}
use Rattle.fz_model.specs.Arguments.{argument_of}
use Rattle.fz_model.proofs.Mapped.{equal_terms, same_numbers, same_terms}
use Rattle.fz_model.proofs.constraint.Argument.same.Goals as goal

pub returns-in-Numbers-Numbers : goal.returns-in-Numbers-Numbers
returns-in-Numbers-Numbers c =
    same_numbers c.eq-in-Numbers-Numbers.result (argument_of c.args.self.now) (argument_of c.args.other.now) c.as_slice.result.now c.as_slice-in-Numbers-Numbers.result.now c.in-Numbers-Numbers.these c.in-Numbers-Numbers.those
    (slice_eq-Decides Decides-int_eq c.as_slice.result.now c.as_slice-in-Numbers-Numbers.result.now c.eq-in-Numbers-Numbers.result c.eq-in-Numbers-Numbers.ensures)
    c.as_slice.ensures c.as_slice-in-Numbers-Numbers.ensures (ap argument_of c.in-Numbers-Numbers.is-0) (ap argument_of c.in-Numbers-Numbers.is-1)

pub returns-in-Terms-Terms : goal.returns-in-Terms-Terms
returns-in-Terms-Terms c =
    same_terms c.eq-in-Terms-Terms.result (argument_of c.args.self.now) (argument_of c.args.other.now) c.as_slice-in-Terms-Terms.result.now c.as_slice-in-Terms-Terms-2.result.now c.in-Terms-Terms.these c.in-Terms-Terms.those
    (slice_eq-Decides equal_terms c.as_slice-in-Terms-Terms.result.now c.as_slice-in-Terms-Terms-2.result.now c.eq-in-Terms-Terms.result c.eq-in-Terms-Terms.ensures)
    c.as_slice-in-Terms-Terms.ensures c.as_slice-in-Terms-Terms-2.ensures (ap argument_of c.in-Terms-Terms.is-0) (ap argument_of c.in-Terms-Terms.is-1)
