use Rattle.std.proofs.Common.{◌≡◌, rules, ◌+ℤ◌, ◌*ℤ◌, negsuc}
use Rattle.std.proofs.Math.Facts.{to_z-of_z}
use mir.Val.{SFits}
use mir.Syntax.{w32, w128}
use Rattle.fz_dom.specs.Shape.{least, greatest}
use Rattle.fz_refutes.specs.Boxes.{set_of}
use Rattle.fz_refutes.specs.Refuted.{least_sum, greatest_sum}
use Rattle.fz_cert.proofs.refute.is_sum_out.Goals as goal

pub returns : goal.returns
returns c =
    let box = c.args.area.now in
    let ks = c.args.factors.now in
    let ts = c.args.terms.now in
    let low_fits : SFits w128 c.sum_ends-low.result.0 = search rules in
    let high_fits : SFits w128 c.sum_ends-low.result.1 = search rules in
    let least_fits : SFits w32 c.term_ends-least.result.0 = search rules in
    let greatest_fits : SFits w32 c.term_ends-least.result.1 = search rules in
    let first_fits : SFits w128 c.lessened.result = search rules in
    let second_fits : SFits w128 c.lessened-2.result = search rules in
    let first : c.lessened.result ≡ ((negsuc 0 *ℤ greatest (set_of box c.args.bound)) +ℤ least_sum box ks ts) =
    rw (to_z-of_z low_fits, to_z-of_z greatest_fits, c.sum_ends-low.ensures.least, c.term_ends-least.ensures.greatest) at c.lessened.ensures in
    let second : c.lessened-2.result ≡ ((negsuc 0 *ℤ least (set_of box c.args.bound)) +ℤ greatest_sum box ks ts) =
    rw (to_z-of_z high_fits, to_z-of_z least_fits, c.sum_ends-low.ensures.greatest, c.term_ends-least.ensures.least) at c.lessened-2.ensures in
    rw (to_z-of_z first_fits, to_z-of_z second_fits, first, second) at c.is_out.ensures
