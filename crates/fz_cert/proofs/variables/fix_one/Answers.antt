use Rattle.std.proofs.Common.{◌≡◌, ◌≤◌, ◌<◌, ◌∙◌, ℕ, rules, length, subst, sym, ap, List, to_z, of_z}
use Rattle.std.specs.Prelude.{ℤ}
use Rattle.std.proofs.Math.Facts.{to_z-of_z}
use mir.Val.{SFits}
use mir.Syntax.{w32}
use Rattle.fz_dom.specs.Shape.{least}
use Rattle.fz_refutes.specs.Boxes.{set_at}
use Rattle.fz_cert.proofs.Fixing.{fixed_beyond, fixed_put, fixed_others, read_is}
use Rattle.fz_cert.proofs.variables.fix_one.Goals as goal

pub returns-then-place-sets-clause-fixed : goal.returns-then-place-sets-clause-fixed
returns-then-place-sets-clause-fixed c =
    let out : length c.sets-sets.result.now ≤ c.args.variable = search rules in
    fixed_beyond c.args.area.now c.args.values.now.items c.args.variable c.requires (subst (λ (box : List (List (ℤ × ℤ))). length box ≤ c.args.variable) c.sets-sets.ensures.sets out)

pub returns-then-is_fixed-clause-fixed : goal.returns-then-is_fixed-clause-fixed
returns-then-is_fixed-clause-fixed c =
    let v = c.args.variable in
    let box = c.args.area.now in
    let inside : v < length c.sets-sets.result.now = search rules in
    let within : v < length box = subst (λ (b : List (List (ℤ × ℤ))). v < length b) c.sets-sets.ensures.sets inside in
    let room : v < length c.args.values.now.items = subst (λ (k : ℕ). v < k) (sym c.requires) within in
    let fits : SFits w32 c.min.result = search rules in
    let put : to_z w32 (of_z w32 c.min.result) ≡ least (set_at box v) =
    to_z-of_z fits ∙ c.min.ensures.first ∙ ap least (read_is c.sets-sets.result.now box v c.index-sets-place-then-is_fixed.result c.sets-sets.ensures.sets within c.index-sets-place-then-is_fixed.is) in
    fixed_put box c.args.values.now.items v (to_z w32 (of_z w32 c.min.result)) room put

pub returns-then-is_fixed-clause-others : goal.returns-then-is_fixed-clause-others
returns-then-is_fixed-clause-others c =
    let v = c.args.variable in
    let box = c.args.area.now in
    let inside : v < length c.sets-sets.result.now = search rules in
    let within : v < length box = subst (λ (b : List (List (ℤ × ℤ))). v < length b) c.sets-sets.ensures.sets inside in
    let room : v < length c.args.values.now.items = subst (λ (k : ℕ). v < k) (sym c.requires) within in
    let fits : SFits w32 c.min.result = search rules in
    let put : to_z w32 (of_z w32 c.min.result) ≡ least (set_at box v) =
    to_z-of_z fits ∙ c.min.ensures.first ∙ ap least (read_is c.sets-sets.result.now box v c.index-sets-place-then-is_fixed.result c.sets-sets.ensures.sets within c.index-sets-place-then-is_fixed.is) in
    fixed_others box c.args.values.now.items v (to_z w32 (of_z w32 c.min.result)) room put
