use Rattle.std.proofs.Common.{◌≡◌, ◌∙◌, ap, sym, subst, Option, is_some}
use Rattle.std.specs.Prelude.{IfSome}
use Rattle.fz_tree.specs.Frontier.{Frontier, AreEdges, part_of}
use Rattle.fz_region.proofs.AtPlace.{parts_code}
use Rattle.fz_region.proofs.frontier.Frontier.cut_last.Goals as goal

pub returns-clause-parts : goal.returns-clause-parts
returns-clause-parts c =
    let part : c.in-Some.part ≡ part_of c.args.self.now = subst (λ (o : Option Frontier). IfSome o (λ f. f ≡ part_of c.args.self.now)) c.in-Some.is c.in_ok-part.ensures.part in
    parts_code c.args.self.now c.in-Some.part c.drop_part.new.self (subst (λ (f : Frontier). AreEdges f.edges) c.self.view_is c.self.invariant)
    (sym c.in_ok-part.ensures.some ∙ ap (λ (o : Option Frontier). is_some o) c.in-Some.is) part c.drop_part.ensures
