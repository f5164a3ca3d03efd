-- A term that may be negative is raised: each assignment that makes the constraint true gives it 0 or more.
use Rattle.std.proofs.Common.{◌≡◌, ℕ, ◌<◌, List, sym, ap, subst, ◌∙◌, arith, length}
use Rattle.std.specs.Prelude.{ℤ, pos, slice_get, Some}
use Rattle.std.proofs.lemmas.Int.{ints}
use Rattle.std.proofs.lemmas.Option.{slice_get_within}
use Rattle.fz_sets.proofs.Lists.{some_is, all_at}
use Rattle.fz_dom.specs.Shape.{least}
use Rattle.fz_spec.specs.declared.term.Term.{Term}
use Rattle.fz_strength.specs.declared.open_task.OpenTask.{OpenTask}
use Rattle.fz_strength.specs.Cumulatives.{open_tasks}
use Rattle.fz_strength.specs.Domains.{term_set, IsTermOf}
use Rattle.fz_cumulative.specs.Cumulatives.{TasksShare}
use Rattle.fz_cumulative.specs.Findings.{IsNegativeOf}
use Rattle.fz_cumulative.specs.Outcomes.{IsBelow}
use Rattle.fz_cumulative.specs.declared.finding.Negative.TheVariants.{Bound, Duration, Usage}
use Rattle.fz_cumulative.proofs.Sharing.{IsSetting, terms_at, task_shared}

abbrev pub IsBelowOf : List (List (ℤ × ℤ)) → List Term → List Term → List Term → Term → Term → Type 0
IsBelowOf ds ss dd us b t = IsBelow (pos 0) t (TasksShare ss dd us b) ds

-- ---- the place is one of each list

pub place_of : (ds : List (List (ℤ × ℤ))) (ss dd us : List Term) (place : ℕ) (known : OpenTask) → slice_get (open_tasks ds ss dd us) place ≡ Some known
    → (place < length ss) × (place < length dd) × (place < length us)
place_of ds ss dd us place known at =
    let t = terms_at ds ss dd us place known at in
    (slice_get_within ss place t.start t.at_start, slice_get_within dd place t.duration t.at_duration, slice_get_within us place t.usage t.at_usage)

-- ---- a term that may be negative

pub bound_raised : (ds : List (List (ℤ × ℤ))) (ss dd us : List Term) (b : Term) → IsSetting ds ss dd us b → IsNegativeOf ds ss dd us b Bound → IsBelowOf ds ss dd us b b
bound_raised ds ss dd us b set found = (set.terms.bound, found, λ a within h. h.0)

pub duration_raised : (ds : List (List (ℤ × ℤ))) (ss dd us : List Term) (b : Term) (place : ℕ) (e : Term) → slice_get dd place ≡ Some e → IsSetting ds ss dd us b → IsNegativeOf ds ss dd us b (Duration place)
    → IsBelowOf ds ss dd us b e
duration_raised ds ss dd us b place e at set found =
    let t = terms_at ds ss dd us place found.task found.at in
    let P : Term → Type 0 = λ (d : Term). IsBelowOf ds ss dd us b d in
    let below = found.holds in
    let same : least (term_set ds t.duration) ≡ found.task.duration = ap (λ (o : OpenTask). o.duration) t.is in
    subst P (some_is t.duration e (sym t.at_duration ∙ at)) (
      all_at (IsTermOf (length ds)) dd place t.duration set.terms.durations t.at_duration,
      omega (arith, ints, same, below),
      λ a within h. (task_shared ds ss dd us b place found.task a t h).0,
    )

pub usage_raised : (ds : List (List (ℤ × ℤ))) (ss dd us : List Term) (b : Term) (place : ℕ) (e : Term) → slice_get us place ≡ Some e → IsSetting ds ss dd us b → IsNegativeOf ds ss dd us b (Usage place)
    → IsBelowOf ds ss dd us b e
usage_raised ds ss dd us b place e at set found =
    let t = terms_at ds ss dd us place found.task found.at in
    let P : Term → Type 0 = λ (u : Term). IsBelowOf ds ss dd us b u in
    let below = found.holds in
    let same : least (term_set ds t.usage) ≡ found.task.usage = ap (λ (o : OpenTask). o.usage) t.is in
    subst P (some_is t.usage e (sym t.at_usage ∙ at)) (
      all_at (IsTermOf (length ds)) us place t.usage set.terms.usages t.at_usage,
      omega (arith, ints, same, below),
      λ a within h. (task_shared ds ss dd us b place found.task a t h).1,
    )
