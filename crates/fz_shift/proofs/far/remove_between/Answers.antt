use Rattle.std.proofs.Common.{rules}
use Rattle.std.specs.Prelude.{ℤ}
use Rattle.std.proofs.Math.Facts.{to_z-of_z}
use Rattle.fz_dom.specs.Changes.{IsFromTo}
use Rattle.fz_spec.specs.declared.term.Term.TheVariants.{Var}
use Rattle.fz_prop.proofs.TermChanges.{within_kept}
use Rattle.fz_shift.proofs.Kept.{keeps_either}
use Rattle.fz_shift.proofs.far.remove_between.Goals as goal

pub returns-in-Same : goal.returns-in-Same
returns-in-Same c =
    let s = c.args.store.now in
    let t = c.remove_range.new.self in
    let change = c.in_ok-remove_range.field-0 in
    let P : ℤ → Type 0 = λ x. IsFromTo c.args.low c.args.high x → ⊥ in
    let h = rw (to_z-of_z c.ranges.low, to_z-of_z c.ranges.high) at c.in_ok-remove_range.ensures.change in
    record {
      shrinks = c.remove_range.ensures.shrinks;
      stays = λ a within holds. within_kept change (Var c.args.variable) P s t a h c.remove_range.ensures.shrinks within holds;
      kept = λ yes. keeps_either change c.args.variable P s t c.in-Same.is h;
      some = λ a within holds. search rules;
    }
