use Rattle.std.proofs.Common.{ap₂, ◌∙◌, ◌++◌, ◌∷◌, [], List}
use Rattle.fz_tree.specs.Frontier.{Edge}
use Rattle.fz_region.proofs.AtPlace.{part_code}
use Rattle.fz_region.proofs.tail.cut_part_of.Goals as goal

pub returns-clause-part : goal.returns-clause-part
returns-clause-part c =
    part_code c.args.tail.now c.push.new.self.items c.in-Some.i c.index-tail-i.result c.in-Some.ensures c.index-tail-i.is
    (c.in_ok-push.ensures.items ∙ ap₂ (λ (l : List Edge) (e : Edge). l ++ e ∷ []) c.in_ok-part.ensures c.in_ok-below.ensures)
