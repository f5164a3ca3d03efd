use Rattle.std.proofs.Common.{◌<◌, ◌≤◌, ◌∙◌, ap, sym, get_or, arith}
use Rattle.fz_tree.specs.Frontier.{Edge}
use Rattle.fz_region.proofs.AtPlace.{other_met, other_unmet}
use Rattle.fz_region.proofs.edge.Edge.other_is_met_by.Goals as goal

pub returns-then-is_met_by : goal.returns-then-is_met_by
returns-then-is_met_by c =
    let e : Edge = c.args.self.now in
    let i = c.loop-alternative.alternative in
    let after : e.taken < i = omega (arith, ap (λ (f : Edge). f.taken) c.self.view_is) in
    let upto : i ≤ e.last = omega (arith, ap (λ (f : Edge). f.last) c.self.view_is) in
    sym (other_met e i c.args.numbers.now c.decision.result after upto c.requires.last_below
    (c.decision.ensures ∙ ap (λ (f : Edge). get_or f.choice i c.decision.result) c.self.view_is) (sym c.if-is_met_by.ensures))

pub loop-alternative-preserved : goal.loop-alternative-preserved
loop-alternative-preserved c =
    let e : Edge = c.args.self.now in
    let i = c.loop-alternative.alternative in
    let after : e.taken < i = omega (arith, ap (λ (f : Edge). f.taken) c.self.view_is) in
    let upto : i ≤ e.last = omega (arith, ap (λ (f : Edge). f.last) c.self.view_is) in
    other_unmet e i c.args.numbers.now c.decision.result after upto c.requires.last_below
    (c.decision.ensures ∙ ap (λ (f : Edge). get_or f.choice i c.decision.result) c.self.view_is) (sym c.if-is_met_by.ensures) c.loop-alternative.invariant
