use Rattle.std.proofs.Common.{rules, ◌≡◌, ◌≤◌, ◌+◌, ◌∙◌, List, drop, length, arith, ap, sym, subst, ◌-ℤ◌}
use Rattle.std.specs.List.{AllByRecursion}
use Rattle.std.proofs.Math.Facts.{to_z-of_z}
use Rattle.std.proofs.lemmas.Result.{IfOk-weaker}
use mir.Val.{SFits}
use mir.Syntax.{w32}
use Rattle.fz_spec.specs.declared.limits.TheConstants.{ELEMENT_LIMIT}
use Rattle.fz_spec.specs.declared.term.Term.{Term}
use Rattle.fz_prop.specs.declared.answer.Answer.{Answer}
use Rattle.fz_prop.specs.Answers.{IsAnswerOf}
use Rattle.fz_prop.specs.Truths.{TruthWith, LineWith}
use Rattle.fz_strength.specs.Domains.{IsTermOf}
use Rattle.fz_prop.specs.Stores.{FitsTerm}
use Rattle.fz_linear.specs.Terms.{AreTermsOf}
use Rattle.fz_linear.specs.Precisions.{Allows}
use Rattle.fz_linear.specs.Sums.{SumTruth}
use Rattle.fz_linear.proofs.Told.{told_inside, all_dropped, allowed_dropped, length_dropped, length_falls}
use Rattle.fz_linreif.specs.ReifiedLinears.{sum_sides}
use Rattle.fz_linreif.proofs.Fronts.{with_correct, with_answer}
use Rattle.fz_linreif.proofs.front.keep_behind.Goals as goal

pub factors_behind-factors-requires : goal.factors_behind-factors-requires
factors_behind-factors-requires c =
    let inside = told_inside c.args.sum.now.factors.now c.args.sum.now.terms.now c.args.front c.args.passed c.args.store.now.doms c.requires.told in
    omega (arith, inside, c.requires.law.same)

pub terms_behind-terms-requires : goal.terms_behind-terms-requires
terms_behind-terms-requires c = told_inside c.args.sum.now.factors.now c.args.sum.now.terms.now c.args.front c.args.passed c.args.store.now.doms c.requires.told

pub keep_reified-answer-requires-clause-law : goal.keep_reified-answer-requires-clause-law
keep_reified-answer-requires-clause-law c =
    let ks = c.args.sum.now.factors.now in
    let ts = c.args.sum.now.terms.now in
    let law = c.requires.law in
    let less = length_falls c.args.front ts in
    let factors = c.factors_behind-factors.ensures in
    let terms = c.terms_behind-terms.ensures in
    record {
      same = ap length factors ∙ (length_dropped c.args.front ks ts law.same ∙ sym (ap length terms));
      few = subst (λ (xs : List Term). length xs ≤ ELEMENT_LIMIT + 1) (sym terms) (omega (arith, less, law.few));
      allowed = subst (Allows c.args.sum.now.precision) (sym factors) (allowed_dropped c.args.sum.now.precision c.args.front ks law.allowed);
    }

pub keep_reified-answer-requires-clause-inside : goal.keep_reified-answer-requires-clause-inside
keep_reified-answer-requires-clause-inside c =
    subst (AreTermsOf (length c.args.store.now.doms)) (sym c.terms_behind-terms.ensures) (all_dropped (IsTermOf (length c.args.store.now.doms)) c.args.front c.args.sum.now.terms.now c.requires.inside)

pub keep_reified-answer-requires-clause-fits : goal.keep_reified-answer-requires-clause-fits
keep_reified-answer-requires-clause-fits c = subst (AllByRecursion FitsTerm) (sym c.terms_behind-terms.ensures) (all_dropped FitsTerm c.args.front c.args.sum.now.terms.now c.requires.fits)

pub returns-clause-correct : goal.returns-clause-correct
returns-clause-correct c =
    let fits : SFits w32 c.in-Some.left = search rules in
    let is : c.in-Some.left ≡ c.args.number -ℤ c.args.passed = rw (to_z-of_z c.ranges.number, to_z-of_z c.ranges.passed) at c.in-Some.ensures in
    with_correct c.args.relation c.args.sum.now.factors.now c.args.sum.now.terms.now c.args.front c.args.passed c.args.number c.in-Some.left c.args.r c.args.store.now.doms c.keep_reified-answer.new.store.doms
    c.requires.inside is c.requires.told
    (rw (c.factors_behind-factors.ensures, c.terms_behind-terms.ensures, to_z-of_z fits) at c.keep_reified-answer.ensures.correct)

pub returns-clause-answer : goal.returns-clause-answer
returns-clause-answer c =
    let ks = c.args.sum.now.factors.now in
    let ts = c.args.sum.now.terms.now in
    let before = c.args.store.now.doms in
    let after = c.keep_reified-answer.new.store.doms in
    let fits : SFits w32 c.in-Some.left = search rules in
    let is : c.in-Some.left ≡ c.args.number -ℤ c.args.passed = rw (to_z-of_z c.ranges.number, to_z-of_z c.ranges.passed) at c.in-Some.ensures in
    IfOk-weaker c.keep_reified-answer.result
    (λ (a : Answer). IsAnswerOf a (TruthWith (SumTruth c.args.relation (drop c.args.front ks) (drop c.args.front ts) c.in-Some.left) c.args.r) (LineWith (sum_sides c.args.relation (drop c.args.front ks) (drop c.args.front ts) c.in-Some.left) c.args.r) before after)
    (λ (a : Answer). IsAnswerOf a (TruthWith (SumTruth c.args.relation ks ts c.args.number) c.args.r) (LineWith (sum_sides c.args.relation ks ts c.args.number) c.args.r) before after)
    (λ a h. with_answer a c.args.relation ks ts c.args.front c.args.passed c.args.number c.in-Some.left c.args.r before after c.requires.inside is c.doms.ensures.store.domains c.keep_reified-answer.ensures.shrinks.narrower c.requires.told h)
    (rw (c.factors_behind-factors.ensures, c.terms_behind-terms.ensures, to_z-of_z fits) at c.keep_reified-answer.ensures.answer)

pub returns-in_default-clause-correct : goal.returns-in_default-clause-correct
returns-in_default-clause-correct c = rw (to_z-of_z c.ranges.number) at c.keep_reified.ensures.correct
