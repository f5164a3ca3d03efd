use Rattle.std.proofs.Common.{◌≡◌, ◌<◌, ◌∙◌, length, reverse, List, ap, get_or, ◌++◌, ◌∷◌, [], false}
use Rattle.std.proofs.Math.Facts.{to_z-of_z}
use Rattle.std.specs.Prelude.{ℤ, pos}
use Rattle.fz_sets.specs.Sets.{single}
use Rattle.fz_sets.proofs.Lists.{same_at}
use Rattle.fz_refutes.specs.Boxes.{set_at, up_to}
use Rattle.fz_cert.specs.Walks.{IsPlace, boxes_left}
use Rattle.fz_cert.proofs.Walking.{turn_of, split_is, turns_pushed, place_within}
use Rattle.fz_cert.proofs.walk.Walk.split.Goals as goal

place : (c : goal.In_ok-push) → IsPlace c.args.variable (boxes_left c.self.inside.is_done c.self.inside.area (reverse c.self.inside.turns.items))
place c = rw (c.self.view_is) c.requires.place

within : (c : goal.In_ok-push) → c.args.variable < length c.self.inside.area
within c = place_within c.self.inside.is_done c.self.inside.area (reverse c.self.inside.turns.items) c.args.variable (place c)

part : (c : goal.In_ok-push) → c.in_ok-low.low ≡ up_to c.args.number (set_at c.self.inside.area c.args.variable)
part c =
    let at : c.index-sets-variable.result ≡ set_at c.self.inside.area c.args.variable = c.index-sets-variable.is ∙ ap (λ (box : List (List (ℤ × ℤ))). get_or box c.args.variable c.index-sets-variable.result) c.sets.ensures.sets ∙ same_at c.self.inside.area c.args.variable c.index-sets-variable.result (single (pos 0)) (within c) in
    c.in_ok-low.ensures.part ∙ ap (λ (n : ℤ). up_to n c.index-sets-variable.result) (to_z-of_z c.ranges.number) ∙ ap (up_to c.args.number) at

pushed : (c : goal.In_ok-push) → c.push.new.self.items ≡ c.self.inside.turns.items ++ turn_of c.args.variable c.args.number c.put-whole.result false ∷ []
pushed c = c.in_ok-push.ensures.items ∙ ap (λ (n : ℤ). c.self.inside.turns.items ++ turn_of c.args.variable n c.put-whole.result false ∷ []) (to_z-of_z c.ranges.number)

pub invariant_of-self-2 : goal.invariant_of-self-2
invariant_of-self-2 c = turns_pushed c.self.inside.area c.put-whole.new.self c.self.inside.turns.items c.push.new.self.items c.args.variable c.args.number c.in_ok-low.low c.put-whole.result
    (within c) c.self.invariant c.put-whole.ensures.after (pushed c)

pub returns : goal.returns
returns c = rw (← c.self.view_is) (split_is c.self.inside.is_done c.self.inside.area c.put-whole.new.self c.self.inside.turns.items c.push.new.self.items c.args.variable c.args.number c.in_ok-low.low c.put-whole.result
    (place c) c.put-whole.ensures.before (part c) c.put-whole.ensures.after (pushed c))
