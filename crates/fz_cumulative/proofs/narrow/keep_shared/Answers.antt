use Rattle.std.proofs.Common.{rules, refl, sym, subst, ◌∙◌, ℕ, List, length, ◌≡◌}
use Rattle.std.specs.Prelude.{ℤ, ◌≤ℤ◌}
use Rattle.std.specs.List.{AllByRecursion}
use Rattle.std.proofs.Math.Facts.{to_z-of_z}
use mir.Val.{SFits}
use mir.Syntax.{w32}
use Rattle.fz_strength.specs.declared.open_task.OpenTask.{OpenTask}
use Rattle.fz_strength.proofs.Cumulatives.{all_of_tasks}
use Rattle.fz_prop.specs.Answers.{IsAnswerOf}
use Rattle.fz_prop.specs.Outcomes.{rested_by}
use Rattle.fz_strength.specs.Domains.{IsTermOf}
use Rattle.fz_prop.specs.Stores.{Stored}
use Rattle.fz_prop.proofs.Steps.{same_shrinks}
use Rattle.fz_cumulative.specs.Cumulatives.{AreTermsOf, TasksShare, TasksRest}
use Rattle.fz_cumulative.specs.Outcomes.{AreStarts}
use Rattle.fz_cumulative.specs.Tasks.{profile_of}
use Rattle.fz_cumulative.proofs.FreeStarts.{starts_of, correct_of, fails_of, overloaded, line_of}
use Rattle.fz_cumulative.proofs.Resting.{rested_answer}
use Rattle.fz_cumulative.proofs.narrow.keep_shared.Goals as goal

pub open_tasks-requires-clause-durations : goal.open_tasks-requires-clause-durations
open_tasks-requires-clause-durations c = (all_of_tasks (IsTermOf (length c.args.store.now.doms)) c.args.starts.now c.args.durations.now c.args.usages.now c.args.bound c.requires).durations

pub open_tasks-requires-clause-usages : goal.open_tasks-requires-clause-usages
open_tasks-requires-clause-usages c = (all_of_tasks (IsTermOf (length c.args.store.now.doms)) c.args.starts.now c.args.durations.now c.args.usages.now c.args.bound c.requires).usages

pub least_of-low-requires : goal.least_of-low-requires
least_of-low-requires c = (all_of_tasks (IsTermOf (length c.args.store.now.doms)) c.args.starts.now c.args.durations.now c.args.usages.now c.args.bound c.requires).bound

pub returns-then-not-are_within-clause-answer : goal.returns-then-not-are_within-clause-answer
returns-then-not-are_within-clause-answer c =
    let fits : SFits w32 c.greatest_of-high.result = search rules in
    let tells = rw (to_z-of_z fits) at c.are_within.ensures in
    let loads : c.deref-3.result.now ≡ profile_of c.in_ok-tasks.tasks.items = c.deref-3.ensures.value ∙ rw c.deref-2.ensures.value at c.in_ok-loads.ensures in
    overloaded c.args.store.now.doms c.args.starts.now c.args.durations.now c.args.usages.now c.args.bound c.in_ok-tasks.tasks.items c.greatest_of-high.result
    (record { terms = all_of_tasks (IsTermOf (length c.args.store.now.doms)) c.args.starts.now c.args.durations.now c.args.usages.now c.args.bound c.requires; domains = c.doms.ensures.store.domains })
    c.in_ok-tasks.ensures c.greatest_of-high.ensures.greatest (λ all.
    let is = tells.1 (subst (AllByRecursion (λ (load : ℤ). load ≤ℤ c.greatest_of-high.result)) (sym loads) all) in let not = c.if-not-are_within.true in cc)

pub keep_starts-requires-clause-terms : goal.keep_starts-requires-clause-terms
keep_starts-requires-clause-terms c = (all_of_tasks (IsTermOf (length c.args.store.now.doms)) c.args.starts.now c.args.durations.now c.args.usages.now c.args.bound c.requires).starts

pub keep_starts-requires-clause-starts : goal.keep_starts-requires-clause-starts
keep_starts-requires-clause-starts c =
    subst (λ (tasks : List OpenTask). AreStarts c.args.store.now.doms tasks c.args.starts.now) (sym (c.deref-4.ensures.value ∙ c.in_ok-tasks.ensures))
    (starts_of c.args.store.now.doms c.args.starts.now c.args.durations.now c.args.usages.now)

pub keep_starts-requires-clause-within : goal.keep_starts-requires-clause-within
keep_starts-requires-clause-within c =
    let fits : SFits w32 c.greatest_of-high.result = search rules in
    let tells = rw (to_z-of_z fits) at c.are_within.ensures in
    let within = subst (AllByRecursion (λ (load : ℤ). load ≤ℤ c.greatest_of-high.result)) (c.deref-3.ensures.value ∙ sym c.deref-5.ensures.value) (tells.0 c.if-not-are_within.false) in
    subst (λ (high : ℤ). AllByRecursion (λ (load : ℤ). load ≤ℤ high) c.deref-5.result.now) (sym (to_z-of_z fits)) within

pub returns-in_err-keep_starts-clause-correct : goal.returns-in_err-keep_starts-clause-correct
returns-in_err-keep_starts-clause-correct c =
    let fits : SFits w32 c.greatest_of-high.result = search rules in
    correct_of c.args.store.now.doms c.keep_starts.new.store.doms c.args.starts.now c.args.durations.now c.args.usages.now c.args.bound c.deref-4.result.now c.greatest_of-high.result
    (record { terms = all_of_tasks (IsTermOf (length c.args.store.now.doms)) c.args.starts.now c.args.durations.now c.args.usages.now c.args.bound c.requires; domains = c.doms.ensures.store.domains })
    (c.deref-4.ensures.value ∙ c.in_ok-tasks.ensures) c.greatest_of-high.ensures.greatest (rw (to_z-of_z fits) at c.in_err-keep_starts.ensures.free)

pub are_all_fixed-requires : goal.are_all_fixed-requires
are_all_fixed-requires c = subst (λ (n : ℕ). AreTermsOf n c.args.starts.now c.args.durations.now c.args.usages.now c.args.bound) (sym c.in_ok-keep_starts.ensures.shrinks.narrower.size) c.requires

pub returns-in-Same-clause-answer : goal.returns-in-Same-clause-answer
returns-in-Same-clause-answer c =
    let fits : SFits w32 c.greatest_of-high.result = search rules in
    let low : SFits w32 c.least_of-low.result = search rules in
    let before = c.args.store.now in
    let after = c.keep_starts.new.store in
    let T = TasksShare c.args.starts.now c.args.durations.now c.args.usages.now c.args.bound in
    let R = TasksRest c.args.starts.now c.args.durations.now c.args.usages.now c.args.bound in
    let tells = rw (to_z-of_z fits) at c.are_within.ensures in
    let loads : c.deref-3.result.now ≡ profile_of c.in_ok-tasks.tasks.items = c.deref-3.ensures.value ∙ rw c.deref-2.ensures.value at c.in_ok-loads.ensures in
    let kept = rw (to_z-of_z fits, c.deref-4.ensures.value) at (rw c.in-Same.is at c.in_ok-keep_starts.ensures.change) in
    let same : after ≡ before = kept.0 in
    let line = line_of before.doms c.args.starts.now c.args.durations.now c.args.usages.now c.args.bound c.in_ok-tasks.tasks.items c.least_of-low.result c.greatest_of-high.result
    c.in_ok-tasks.ensures c.least_of-low.ensures.least c.greatest_of-high.ensures.greatest (rw (to_z-of_z low) at (c.in_default.ensures.bound refl))
    (c.greatest_of-high.ensures.upper_bound c.least_of-low.result c.least_of-low.ensures.member) (rw c.deref.ensures.value at (c.in_default.ensures.sound refl))
    (subst (AllByRecursion (λ (load : ℤ). load ≤ℤ c.greatest_of-high.result)) loads (tells.0 c.if-not-are_within.false)) kept.1 in
    rw c.rested.ensures (subst (λ (u : Stored). IsAnswerOf (rested_by c.are_all_fixed.result) T R u.doms after.doms) same
    (rested_answer c.are_all_fixed.result after.doms c.args.starts.now c.args.durations.now c.args.usages.now c.args.bound
    (subst (λ (n : ℕ). AreTermsOf n c.args.starts.now c.args.durations.now c.args.usages.now c.args.bound) (sym c.in_ok-keep_starts.ensures.shrinks.narrower.size) c.requires)
    (subst (λ (u : Stored). R u.doms) (sym same) line) c.are_all_fixed.ensures))

pub returns-in-Changed-clause-correct : goal.returns-in-Changed-clause-correct
returns-in-Changed-clause-correct c =
    let fits : SFits w32 c.greatest_of-high.result = search rules in
    correct_of c.args.store.now.doms c.keep_starts.new.store.doms c.args.starts.now c.args.durations.now c.args.usages.now c.args.bound c.deref-4.result.now c.greatest_of-high.result
    (record { terms = all_of_tasks (IsTermOf (length c.args.store.now.doms)) c.args.starts.now c.args.durations.now c.args.usages.now c.args.bound c.requires; domains = c.doms.ensures.store.domains })
    (c.deref-4.ensures.value ∙ c.in_ok-tasks.ensures) c.greatest_of-high.ensures.greatest (rw (to_z-of_z fits) at c.in_ok-keep_starts.ensures.free)

pub returns-clause-correct : goal.returns-clause-correct
returns-clause-correct c =
    let fits : SFits w32 c.greatest_of-high.result = search rules in
    correct_of c.args.store.now.doms c.keep_starts.new.store.doms c.args.starts.now c.args.durations.now c.args.usages.now c.args.bound c.deref-4.result.now c.greatest_of-high.result
    (record { terms = all_of_tasks (IsTermOf (length c.args.store.now.doms)) c.args.starts.now c.args.durations.now c.args.usages.now c.args.bound c.requires; domains = c.doms.ensures.store.domains })
    (c.deref-4.ensures.value ∙ c.in_ok-tasks.ensures) c.greatest_of-high.ensures.greatest (rw (to_z-of_z fits) at c.in_ok-keep_starts.ensures.free)

pub returns-clause-answer : goal.returns-clause-answer
returns-clause-answer c =
    let fits : SFits w32 c.greatest_of-high.result = search rules in
    fails_of c.args.store.now.doms c.args.starts.now c.args.durations.now c.args.usages.now c.args.bound c.deref-4.result.now c.greatest_of-high.result
    (record { terms = all_of_tasks (IsTermOf (length c.args.store.now.doms)) c.args.starts.now c.args.durations.now c.args.usages.now c.args.bound c.requires; domains = c.doms.ensures.store.domains })
    (c.deref-4.ensures.value ∙ c.in_ok-tasks.ensures) c.greatest_of-high.ensures.greatest (rw (to_z-of_z fits) at (rw c.in-Wiped.is at c.in_ok-keep_starts.ensures.change))

pub open_tasks-requires-clause-starts : goal.open_tasks-requires-clause-starts
open_tasks-requires-clause-starts c = (all_of_tasks (IsTermOf (length c.args.store.now.doms)) c.args.starts.now c.args.durations.now c.args.usages.now c.args.bound c.requires).starts

pub greatest_of-high-requires : goal.greatest_of-high-requires
greatest_of-high-requires c = (all_of_tasks (IsTermOf (length c.args.store.now.doms)) c.args.starts.now c.args.durations.now c.args.usages.now c.args.bound c.requires).bound

pub returns-in-Same-clause-shrinks : goal.returns-in-Same-clause-shrinks
returns-in-Same-clause-shrinks c = c.in_ok-keep_starts.ensures.shrinks

pub returns-in-Changed-clause-shrinks : goal.returns-in-Changed-clause-shrinks
returns-in-Changed-clause-shrinks c = c.in_ok-keep_starts.ensures.shrinks

pub returns-clause-shrinks : goal.returns-clause-shrinks
returns-clause-shrinks c = c.in_ok-keep_starts.ensures.shrinks

pub returns-in_err-keep_starts-clause-shrinks : goal.returns-in_err-keep_starts-clause-shrinks
returns-in_err-keep_starts-clause-shrinks c = c.in_err-keep_starts.ensures.shrinks

pub returns-in_err-loads-clause-shrinks : goal.returns-in_err-loads-clause-shrinks
returns-in_err-loads-clause-shrinks c = same_shrinks c.args.store.now

pub returns-in_err-loads-clause-correct : goal.returns-in_err-loads-clause-correct
returns-in_err-loads-clause-correct c = λ a holds within. within

pub returns-in_err-tasks-clause-shrinks : goal.returns-in_err-tasks-clause-shrinks
returns-in_err-tasks-clause-shrinks c = same_shrinks c.args.store.now

pub returns-in_err-tasks-clause-correct : goal.returns-in_err-tasks-clause-correct
returns-in_err-tasks-clause-correct c = λ a holds within. within

pub returns-then-not-are_within-clause-shrinks : goal.returns-then-not-are_within-clause-shrinks
returns-then-not-are_within-clause-shrinks c = same_shrinks c.args.store.now

pub returns-then-not-are_within-clause-correct : goal.returns-then-not-are_within-clause-correct
returns-then-not-are_within-clause-correct c = λ a holds within. within

pub returns-in-Same-clause-correct : goal.returns-in-Same-clause-correct
returns-in-Same-clause-correct c =
    let fits : SFits w32 c.greatest_of-high.result = search rules in
    correct_of c.args.store.now.doms c.keep_starts.new.store.doms c.args.starts.now c.args.durations.now c.args.usages.now c.args.bound c.deref-4.result.now c.greatest_of-high.result
    (record { terms = all_of_tasks (IsTermOf (length c.args.store.now.doms)) c.args.starts.now c.args.durations.now c.args.usages.now c.args.bound c.requires; domains = c.doms.ensures.store.domains })
    (c.deref-4.ensures.value ∙ c.in_ok-tasks.ensures) c.greatest_of-high.ensures.greatest (rw (to_z-of_z fits) at c.in_ok-keep_starts.ensures.free)
