use Rattle.std.proofs.Math.Facts.{to_z-of_z}
use mir.Val.{SFits}
use mir.Syntax.{w32}
use Rattle.std.proofs.Common.{rules, ◌≡◌, arith}
use Rattle.std.specs.Prelude.{ℤ, ◌-ℤ◌}
use Rattle.std.proofs.lemmas.Int.{ints}
use Rattle.std.proofs.lemmas.Result.{IfOk-weaker}
use Rattle.fz_spec.specs.declared.shape.Relation.TheVariants.{Equal}
use Rattle.fz_strength.specs.Domains.{number_at}
use Rattle.fz_prop.specs.declared.answer.Answer.{Answer}
use Rattle.fz_prop.specs.Answers.{IsCorrectOf}
use Rattle.fz_prop.proofs.Answering.{answer_twice, correct_twice}
use Rattle.fz_prop.proofs.Twice.{shrinks_twice}
use Rattle.fz_shift.specs.Differences.{DifferenceTruth, DifferenceLine, IsAnswerDifference}
use Rattle.fz_shift.proofs.Differences.{partners_after, correct_partners, failed_partners}
use Rattle.fz_shift.proofs.difference.keep_first.Goals as goal

partner : (x y c : ℤ) → (x -ℤ y) ≡ c → (x -ℤ c) ≡ y
partner x y c e = omega (arith, ints, e)

corrected : (c : goal.After-keep_second) → IsCorrectOf (DifferenceTruth Equal c.args.d.first c.args.d.second c.args.d.above) c.args.store.now.doms c.keep_partners.new.self.doms
corrected c =
    let d = c.args.d in
    let fits : SFits w32 d.above = search rules in
    correct_partners c.in_ok-keep_partners.field-0 d.first d.second d.above (DifferenceTruth Equal d.first d.second d.above) c.args.store.now c.keep_partners.new.self c.requires.second
    (rw (to_z-of_z fits) at c.in_ok-keep_partners.ensures.change) c.in_ok-keep_partners.ensures.shrinks (λ a e. partner (number_at a d.first) (number_at a d.second) d.above e)

pub keep_second-requires-clause-partners : goal.keep_second-requires-clause-partners
keep_second-requires-clause-partners c =
    let d = c.args.d in
    let fits : SFits w32 d.above = search rules in
    partners_after c.in_ok-keep_partners.field-0 d.first d.second d.above c.args.store.now c.keep_partners.new.self c.requires.apart (rw (to_z-of_z fits) at c.in_ok-keep_partners.ensures.change) c.in_default.not-Wiped

pub returns-in-Wiped-clause-answer : goal.returns-in-Wiped-clause-answer
returns-in-Wiped-clause-answer c =
    let d = c.args.d in
    let fits : SFits w32 d.above = search rules in
    failed_partners d.first d.second d.above (DifferenceTruth Equal d.first d.second d.above) (DifferenceLine Equal d.first d.second d.above) c.args.store.now c.keep_partners.new.self c.requires.first c.requires.second
    (rw (to_z-of_z fits, c.in-Wiped.is) at c.in_ok-keep_partners.ensures.change) (λ a e. partner (number_at a d.first) (number_at a d.second) d.above e)

pub returns-in_default-clause-shrinks : goal.returns-in_default-clause-shrinks
returns-in_default-clause-shrinks c =
    shrinks_twice c.args.store.now c.keep_partners.new.self c.keep_second.new.store c.in_ok-keep_partners.ensures.shrinks c.keep_second.ensures.shrinks

pub returns-in_default-clause-correct : goal.returns-in_default-clause-correct
returns-in_default-clause-correct c =
    let d = c.args.d in
    correct_twice (DifferenceTruth Equal d.first d.second d.above) c.args.store.now.doms c.keep_partners.new.self.doms c.keep_second.new.store.doms (corrected c) c.keep_second.ensures.correct

pub returns-in_default-clause-answer : goal.returns-in_default-clause-answer
returns-in_default-clause-answer c =
    let d = c.args.d in
    IfOk-weaker c.keep_second.result (λ (r : Answer). IsAnswerDifference Equal d.first d.second d.above r c.keep_partners.new.self.doms c.keep_second.new.store.doms)
    (λ (r : Answer). IsAnswerDifference Equal d.first d.second d.above r c.args.store.now.doms c.keep_second.new.store.doms)
    (λ r h. answer_twice r (DifferenceTruth Equal d.first d.second d.above) (DifferenceLine Equal d.first d.second d.above) c.args.store.now c.keep_partners.new.self c.keep_second.new.store
    c.in_ok-keep_partners.ensures.shrinks (corrected c) h)
    c.keep_second.ensures.answer
