use Rattle.std.proofs.Common.{◌≡◌, List, ap, arith, get_or, length, subst, sym}
use Rattle.fz_spec.specs.Instance.{SearchPart}
use Rattle.fz_branch.proofs.Starting.{said_at, said_size}
use Rattle.fz_branch.proofs.plan.Plan.rises.Goals as goal

pub index-requires : goal.index-requires
index-requires c =
    omega (arith, said_size c.self.inside.rises.items c.self.inside.parts.items c.self.invariant, c.requires, ap length c.self.view_is)

pub returns : goal.returns
returns c = λ p says is.
    said_at c.self.inside.rises.items c.self.inside.parts.items c.args.place c.index.result.now p (omega (arith, c.requires, ap length c.self.view_is)) c.index.ensures
    (subst (λ (ps : List SearchPart). p ≡ get_or ps c.args.place p) (sym c.self.view_is) is) c.self.invariant says
