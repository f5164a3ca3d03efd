use Rattle.std.proofs.Common.{rules, List, pos, get_or, SFits, to_z, of_z}
use Rattle.std.specs.Prelude.{ℤ, ◌≤ℤ◌}
use Rattle.std.proofs.Math.Facts.{to_z-of_z}
use Rattle.std.proofs.lemmas.Option.{slice_get-get_or}
use mir.Syntax.{w128, w32}
use Rattle.fz_dom.specs.declared.change.Change.TheVariants.{Wiped}
use Rattle.fz_spec.specs.declared.term.Term.TheVariants.{Num}
use Rattle.fz_spec.specs.Constraints.{term_value}
use Rattle.fz_prop.proofs.Twice.{shrinks_twice}
use Rattle.fz_disjunctive.specs.declared.job.Job.{Job}
use Rattle.fz_disjunctive.specs.Jobs.{begins, starts_by}
use Rattle.fz_prop.specs.Outcomes.{IsOutcome}
use Rattle.fz_disjunctive.specs.Outcomes.{IsScheduling}
use Rattle.fz_prop.proofs.Keeping.{correct_more, kept_changed, kept_wiped, changed_of}
use Rattle.fz_disjunctive.proofs.narrow.keep_starts.Goals as goal

pub returns-in_err-change-clause-shrinks : goal.returns-in_err-change-clause-shrinks
returns-in_err-change-clause-shrinks c = shrinks_twice c.args.store.now c.loop-index.store c.keep_start.new.store c.loop-index.invariant.shrinks c.keep_start.ensures.shrinks

pub returns-in-Wiped-clause-shrinks : goal.returns-in-Wiped-clause-shrinks
returns-in-Wiped-clause-shrinks c = shrinks_twice c.args.store.now c.loop-index.store c.keep_start.new.store c.loop-index.invariant.shrinks c.keep_start.ensures.shrinks

pub returns-in_err-change-clause-correct : goal.returns-in_err-change-clause-correct
returns-in_err-change-clause-correct c =
    let d : Job = record { place = 0; earliest = pos 0; latest = pos 0; duration = pos 0 } in
    let job : Job = get_or c.args.jobs.now c.loop-index.index d in
    let at = slice_get-get_or c.args.jobs.now c.loop-index.index d c.loop-index-test.true in
    let T : List ℤ → Type 0 = IsScheduling c.args.direction c.args.jobs.now c.args.starts.now in
    let time_fits : SFits w128 c.earliest_start-time.result = search rules in
    let duration_fits : SFits w32 job.duration = search rules in
    let P : List ℤ → Type 0 = λ a. to_z w128 (of_z w128 c.earliest_start-time.result) ≤ℤ begins c.args.direction (term_value a (get_or c.args.starts.now job.place (Num (pos 0)))) (to_z w32 (of_z w32 job.duration)) in
    let needs : (a : List ℤ) → T a → P a = λ a h. rw (to_z-of_z time_fits, to_z-of_z duration_fits) (c.earliest_start-time.ensures job at (starts_by c.args.direction c.args.starts.now a) h) in
    correct_more T P c.args.store.now c.loop-index.store c.keep_start.new.store c.loop-index.invariant.correct needs c.keep_start.ensures.correct

pub returns-in-Wiped-clause-correct : goal.returns-in-Wiped-clause-correct
returns-in-Wiped-clause-correct c =
    let d : Job = record { place = 0; earliest = pos 0; latest = pos 0; duration = pos 0 } in
    let job : Job = get_or c.args.jobs.now c.loop-index.index d in
    let at = slice_get-get_or c.args.jobs.now c.loop-index.index d c.loop-index-test.true in
    let T : List ℤ → Type 0 = IsScheduling c.args.direction c.args.jobs.now c.args.starts.now in
    let time_fits : SFits w128 c.earliest_start-time.result = search rules in
    let duration_fits : SFits w32 job.duration = search rules in
    let P : List ℤ → Type 0 = λ a. to_z w128 (of_z w128 c.earliest_start-time.result) ≤ℤ begins c.args.direction (term_value a (get_or c.args.starts.now job.place (Num (pos 0)))) (to_z w32 (of_z w32 job.duration)) in
    let needs : (a : List ℤ) → T a → P a = λ a h. rw (to_z-of_z time_fits, to_z-of_z duration_fits) (c.earliest_start-time.ensures job at (starts_by c.args.direction c.args.starts.now a) h) in
    correct_more T P c.args.store.now c.loop-index.store c.keep_start.new.store c.loop-index.invariant.correct needs c.keep_start.ensures.correct

pub returns-in-Wiped-clause-outcome : goal.returns-in-Wiped-clause-outcome
returns-in-Wiped-clause-outcome c =
    let d : Job = record { place = 0; earliest = pos 0; latest = pos 0; duration = pos 0 } in
    let job : Job = get_or c.args.jobs.now c.loop-index.index d in
    let at = slice_get-get_or c.args.jobs.now c.loop-index.index d c.loop-index-test.true in
    let T : List ℤ → Type 0 = IsScheduling c.args.direction c.args.jobs.now c.args.starts.now in
    let time_fits : SFits w128 c.earliest_start-time.result = search rules in
    let duration_fits : SFits w32 job.duration = search rules in
    let P : List ℤ → Type 0 = λ a. to_z w128 (of_z w128 c.earliest_start-time.result) ≤ℤ begins c.args.direction (term_value a (get_or c.args.starts.now job.place (Num (pos 0)))) (to_z w32 (of_z w32 job.duration)) in
    let needs : (a : List ℤ) → T a → P a = λ a h. rw (to_z-of_z time_fits, to_z-of_z duration_fits) (c.earliest_start-time.ensures job at (starts_by c.args.direction c.args.starts.now a) h) in
    let none : IsOutcome Wiped P c.loop-index.store c.keep_start.new.store = rw c.in-Wiped.is at c.in_ok-change.ensures.outcome in
    kept_wiped T P c.args.store.now c.loop-index.store c.keep_start.new.store c.keep_start.new.store c.loop-index.has_changed c.loop-index.invariant needs none

pub loop-index-preserved : goal.loop-index-preserved
loop-index-preserved c =
    let d : Job = record { place = 0; earliest = pos 0; latest = pos 0; duration = pos 0 } in
    let job : Job = get_or c.args.jobs.now c.loop-index.index d in
    let at = slice_get-get_or c.args.jobs.now c.loop-index.index d c.loop-index-test.true in
    let T : List ℤ → Type 0 = IsScheduling c.args.direction c.args.jobs.now c.args.starts.now in
    let time_fits : SFits w128 c.earliest_start-time.result = search rules in
    let duration_fits : SFits w32 job.duration = search rules in
    let P : List ℤ → Type 0 = λ a. to_z w128 (of_z w128 c.earliest_start-time.result) ≤ℤ begins c.args.direction (term_value a (get_or c.args.starts.now job.place (Num (pos 0)))) (to_z w32 (of_z w32 job.duration)) in
    let needs : (a : List ℤ) → T a → P a = λ a h. rw (to_z-of_z time_fits, to_z-of_z duration_fits) (c.earliest_start-time.ensures job at (starts_by c.args.direction c.args.starts.now a) h) in
    kept_changed T P c.args.store.now c.loop-index.store c.keep_start.new.store c.loop-index.has_changed c.loop-index.invariant needs c.keep_start.ensures.shrinks c.keep_start.ensures.correct
    (changed_of c.in_ok-change.change P c.loop-index.store c.keep_start.new.store c.in_default.not-Wiped c.in_default-change.not-Same c.in_ok-change.ensures.outcome)
