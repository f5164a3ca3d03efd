use Rattle.std.proofs.Math.Facts.{to_z-of_z}
use mir.Val.{SFits}
use mir.Syntax.{w32}
use Rattle.std.proofs.Common.{rules, ◌≡◌, sym, arith}
use Rattle.std.specs.Prelude.{ℤ, ◌+ℤ◌, ◌-ℤ◌, neg_ℤ}
use Rattle.std.proofs.lemmas.Int.{ints}
use Rattle.fz_spec.specs.declared.shape.Relation.TheVariants.{Equal}
use Rattle.fz_spec.specs.declared.term.Term.TheVariants.{Var}
use Rattle.fz_strength.specs.Domains.{dom_at, number_at}
use Rattle.fz_prop.specs.Answers.{IsCorrectOf}
use Rattle.fz_prop.proofs.Answering.{answer_twice}
use Rattle.fz_prop.proofs.Filled.{term_ranges}
use Rattle.fz_shift.specs.Differences.{DifferenceTruth, DifferenceLine}
use Rattle.fz_shift.proofs.Differences.{partners_after, partners_still, correct_partners, failed_partners, as_many}
use Rattle.fz_shift.proofs.difference.keep_second.Goals as goal

-- the second has its partner so far below it in the first
turned : (x y c d : ℤ) → d ≡ neg_ℤ c → (x -ℤ y) ≡ c → (y -ℤ d) ≡ x
turned x y c d is e = omega (arith, ints, is, e)

corrected : (c : goal.After-partnered-in_default) → IsCorrectOf (DifferenceTruth Equal c.args.d.first c.args.d.second c.args.d.above) c.args.store.now.doms c.keep_partners.new.self.doms
corrected c =
    let d = c.args.d in
    let fits : SFits w32 d.below = search rules in
    correct_partners c.in_ok-keep_partners.field-0 d.second d.first d.below (DifferenceTruth Equal d.first d.second d.above) c.args.store.now c.keep_partners.new.self c.requires.first
    (rw (to_z-of_z fits) at c.in_ok-keep_partners.ensures.change) c.in_ok-keep_partners.ensures.shrinks (λ a e. turned (number_at a d.first) (number_at a d.second) d.above d.below c.requires.turned e)

pub partnered-requires-in_default-clause-partners : goal.partnered-requires-in_default-clause-partners
partnered-requires-in_default-clause-partners c =
    let d = c.args.d in
    let fits : SFits w32 d.below = search rules in
    partners_still c.in_ok-keep_partners.field-0 d.second d.first d.above d.below c.args.store.now c.keep_partners.new.self (λ e. c.requires.apart (sym e)) c.requires.turned
    (rw (to_z-of_z fits) at c.in_ok-keep_partners.ensures.change) c.requires.partners

pub partnered-requires-clause-back : goal.partnered-requires-clause-back
partnered-requires-clause-back c =
    let d = c.args.d in
    let told = c.sizes-first.ensures in
    let ds = c.args.store.now.doms in
    as_many (dom_at ds d.first) (dom_at ds d.second) d.above (term_ranges ds (Var d.first) c.requires.first told.domains).ranges (term_ranges ds (Var d.second) c.requires.second told.domains).ranges
    (omega (arith, told.first, told.second, c.if-first-second.true)) c.requires.partners

pub partnered-requires-in_default-clause-back : goal.partnered-requires-in_default-clause-back
partnered-requires-in_default-clause-back c =
    let d = c.args.d in
    let fits : SFits w32 d.below = search rules in
    λ z i.
    let same : (z -ℤ d.below) ≡ (z +ℤ d.above) = (let t = c.requires.turned in omega (arith, ints, t)) in
    rw (← same)
    (partners_after c.in_ok-keep_partners.field-0 d.second d.first d.below c.args.store.now c.keep_partners.new.self (λ e. c.requires.apart (sym e))
    (rw (to_z-of_z fits) at c.in_ok-keep_partners.ensures.change) c.in_default.not-Wiped z i)

pub returns-in-Wiped-clause-answer : goal.returns-in-Wiped-clause-answer
returns-in-Wiped-clause-answer c =
    let d = c.args.d in
    let fits : SFits w32 d.below = search rules in
    failed_partners d.second d.first d.below (DifferenceTruth Equal d.first d.second d.above) (DifferenceLine Equal d.first d.second d.above) c.args.store.now c.keep_partners.new.self c.requires.second c.requires.first
    (rw (to_z-of_z fits, c.in-Wiped.is) at c.in_ok-keep_partners.ensures.change) (λ a e. turned (number_at a d.first) (number_at a d.second) d.above d.below c.requires.turned e)

pub returns-in_default-clause-correct : goal.returns-in_default-clause-correct
returns-in_default-clause-correct c = corrected c

pub returns-in_default-clause-answer : goal.returns-in_default-clause-answer
returns-in_default-clause-answer c =
    let d = c.args.d in
    answer_twice c.partnered-in_default.result (DifferenceTruth Equal d.first d.second d.above) (DifferenceLine Equal d.first d.second d.above) c.args.store.now c.keep_partners.new.self c.keep_partners.new.self
    c.in_ok-keep_partners.ensures.shrinks (corrected c) c.partnered-in_default.ensures.answer
