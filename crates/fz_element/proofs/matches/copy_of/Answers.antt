use Rattle.std.proofs.Common.{◌≡◌, [], ◌∷◌, List, sym, subst, arith, rules}
use Rattle.std.specs.Prelude.{ℤ, IfOk}
use Rattle.std.proofs.lemmas.Int.{ints}
use Rattle.std.proofs.lemmas.Result.{IfOk-weaker}
use Rattle.std.proofs.Math.Facts.{to_z-of_z}
use mir.Val.{SFits}
use mir.Syntax.{w32}
use Rattle.fz_sets.specs.Sets.{AreRanges}
use Rattle.fz_spec.specs.declared.term.Term.{Term}
use Rattle.fz_strength.specs.Domains.{term_set}
use Rattle.fz_element.proofs.matches.copy_of.Goals as goal

pub returns-in-Num : goal.returns-in-Num
returns-in-Num c =
    let n = c.in-Num.number in
    let fits : SFits w32 n = search rules in
    let one : List (ℤ × ℤ) = (n, n) ∷ [] in
    let ranges : AreRanges one = omega (arith, ints) in
    subst (λ (t : Term). IfOk c.from_ranges.result (λ (d : List (ℤ × ℤ)). d ≡ term_set c.args.store.now.doms t)) (sym c.in-Num.is)
    (IfOk-weaker c.from_ranges.result _ (λ (d : List (ℤ × ℤ)). d ≡ one) (λ d unique. unique one ranges (λ x. rw (to_z-of_z fits) (λ h. h, λ h. h))) c.from_ranges.ensures.unique)
