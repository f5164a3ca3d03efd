use Rattle.std.proofs.Common.{sym, subst}
use Rattle.std.specs.Prelude.{flat_map}
use Rattle.fz_language.specs.Rules.{array_element_additions}
use Rattle.fz_syntax.specs.Trees.{elements_of}
use Rattle.fz_syntax.specs.Rooms.{IsBehind}
use Rattle.fz_syntax.proofs.limits.Room.behind_array.Goals as goal

pub returns-else-is_bound : goal.returns-else-is_bound
returns-else-is_bound c = λ n h. subst (λ b. IsBehind n (flat_map (array_element_additions b) (elements_of c.args.elements.now)) c.behind_elements.result) (sym c.if-is_bound.false) (c.behind_elements.ensures n h)
