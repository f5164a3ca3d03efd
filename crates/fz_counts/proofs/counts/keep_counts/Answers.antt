use Rattle.std.proofs.Common.{◌≡◌, ◌<◌, arith, get_or, length, pos, rules, subst, sym, to_z, of_z, w32}
use Rattle.std.specs.Prelude.{ℕ, ℤ}
use Rattle.std.specs.List.{AllByRecursion}
use Rattle.std.proofs.lemmas.Option.{slice_get-get_or}
use Rattle.fz_dom.specs.declared.change.Change.TheVariants.{Changed, Wiped}
use Rattle.fz_spec.specs.declared.term.Term.{Term}
use Rattle.fz_spec.specs.declared.term.Term.TheVariants.{Num}
use Rattle.fz_spec.specs.Constraints.{term_values}
use Rattle.fz_strength.specs.Counts.{fewest, most, IsCountLine, AreCountLines}
use Rattle.fz_strength.specs.Domains.{IsTermOf}
use Rattle.fz_prop.specs.Answers.{IsCorrectOf}
use Rattle.fz_prop.specs.Outcomes.{IsOutcome}
use Rattle.fz_prop.specs.Stores.{Stored}
use Rattle.fz_prop.proofs.Keeping.{correct_more, kept_wiped}
use Rattle.fz_prop.proofs.Twice.{shrinks_twice}
use Rattle.fz_counts.specs.Counting.{IsCount, AreCountsOf}
use Rattle.fz_counts.proofs.Covering.{as_many, count_at, counting_none, counting_same, counting_changed, counting_all}
use Rattle.fz_counts.proofs.Deciding.{entailed_none, entailed_next, entailed_all}
use Rattle.fz_counts.proofs.counts.keep_counts.Goals.{in-Changed, in-Same}
use Rattle.fz_counts.proofs.counts.keep_counts.Goals as goal

pub returns-then-cover-counts-clause-answer : goal.returns-then-cover-counts-clause-answer
returns-then-cover-counts-clause-answer c = λ a within holds. c.if-cover-counts.true (as_many (term_values a c.args.terms.now) c.args.cover.now c.args.counts.now a holds)

pub loop-place-init : goal.loop-place-init
loop-place-init c = record {
  counting = counting_none c.args.terms.now c.args.cover.now c.args.counts.now c.args.store.now;
  entailed = λ e. entailed_none c.args.terms.now c.args.cover.now c.args.counts.now c.args.store.now.doms;
}

pub returns-in_err-keep_count-clause-shrinks : goal.returns-in_err-keep_count-clause-shrinks
returns-in_err-keep_count-clause-shrinks c = shrinks_twice c.args.store.now c.loop-place.store c.keep_count.new.store c.loop-place.invariant.counting.kept.shrinks c.keep_count.ensures.shrinks

pub returns-in_err-keep_count-clause-correct : goal.returns-in_err-keep_count-clause-correct
returns-in_err-keep_count-clause-correct c =
    let xs = c.args.terms.now in
    let cover = c.args.cover.now in
    let counts = c.args.counts.now in
    let k = c.loop-place.place in
    let value : ℤ = get_or cover k (pos 0) in
    let count : Term = get_or counts k (Num (pos 0)) in
    let kept : to_z w32 (of_z w32 value) ≡ value = search rules in
    let in_cover : k < length cover = c.loop-place-test.true in
    let same : length cover ≡ length counts = c.if-cover-counts.false in
    let at_value = slice_get-get_or cover k (pos 0) in_cover in
    let at_count = slice_get-get_or counts k (Num (pos 0)) (omega (arith, in_cover, same)) in
    correct_more (AreCountsOf xs cover counts) (IsCount xs value count) c.args.store.now c.loop-place.store c.keep_count.new.store c.loop-place.invariant.counting.kept.correct
    (λ a holds. count_at (term_values a xs) cover counts a k value count at_value at_count holds)
    (subst (λ (n : ℤ). IsCorrectOf (IsCount xs n count) c.loop-place.store.doms c.keep_count.new.store.doms) kept c.keep_count.ensures.correct)

pub returns-in-Wiped-clause-shrinks : goal.returns-in-Wiped-clause-shrinks
returns-in-Wiped-clause-shrinks c = shrinks_twice c.args.store.now c.loop-place.store c.keep_count.new.store c.loop-place.invariant.counting.kept.shrinks c.keep_count.ensures.shrinks

pub returns-in-Wiped-clause-correct : goal.returns-in-Wiped-clause-correct
returns-in-Wiped-clause-correct c =
    let xs = c.args.terms.now in
    let cover = c.args.cover.now in
    let counts = c.args.counts.now in
    let k = c.loop-place.place in
    let value : ℤ = get_or cover k (pos 0) in
    let count : Term = get_or counts k (Num (pos 0)) in
    let kept : to_z w32 (of_z w32 value) ≡ value = search rules in
    let in_cover : k < length cover = c.loop-place-test.true in
    let same : length cover ≡ length counts = c.if-cover-counts.false in
    let at_value = slice_get-get_or cover k (pos 0) in_cover in
    let at_count = slice_get-get_or counts k (Num (pos 0)) (omega (arith, in_cover, same)) in
    correct_more (AreCountsOf xs cover counts) (IsCount xs value count) c.args.store.now c.loop-place.store c.keep_count.new.store c.loop-place.invariant.counting.kept.correct
    (λ a holds. count_at (term_values a xs) cover counts a k value count at_value at_count holds)
    (subst (λ (n : ℤ). IsCorrectOf (IsCount xs n count) c.loop-place.store.doms c.keep_count.new.store.doms) kept c.in_ok-keep_count.ensures.correct)

pub returns-in-Wiped-clause-answer : goal.returns-in-Wiped-clause-answer
returns-in-Wiped-clause-answer c =
    let xs = c.args.terms.now in
    let cover = c.args.cover.now in
    let counts = c.args.counts.now in
    let k = c.loop-place.place in
    let value : ℤ = get_or cover k (pos 0) in
    let count : Term = get_or counts k (Num (pos 0)) in
    let kept : to_z w32 (of_z w32 value) ≡ value = search rules in
    let in_cover : k < length cover = c.loop-place-test.true in
    let same : length cover ≡ length counts = c.if-cover-counts.false in
    let at_value = slice_get-get_or cover k (pos 0) in_cover in
    let at_count = slice_get-get_or counts k (Num (pos 0)) (omega (arith, in_cover, same)) in
    let none : IsOutcome Wiped (IsCount xs value count) c.loop-place.store c.keep_count.new.store =
    subst (λ (n : ℤ). IsOutcome Wiped (IsCount xs n count) c.loop-place.store c.keep_count.new.store) kept (rw c.in-Wiped.is at c.in_ok-keep_count.ensures.outcome) in
    kept_wiped (AreCountsOf xs cover counts) (IsCount xs value count) c.args.store.now c.loop-place.store c.keep_count.new.store c.keep_count.new.store c.loop-place.has_changed c.loop-place.invariant.counting.kept
    (λ a holds. count_at (term_values a xs) cover counts a k value count at_value at_count holds) none

pub loop-place-preserved : goal.loop-place-preserved
loop-place-preserved c =
    let xs = c.args.terms.now in
    let cover = c.args.cover.now in
    let counts = c.args.counts.now in
    let r = c.args.store.now in
    let s = c.loop-place.store in
    let t = c.keep_count.new.store in
    let k = c.loop-place.place in
    let value : ℤ = get_or cover k (pos 0) in
    let count : Term = get_or counts k (Num (pos 0)) in
    let kept : to_z w32 (of_z w32 value) ≡ value = search rules in
    let in_cover : k < length cover = c.loop-place-test.true in
    let same : length cover ≡ length counts = c.if-cover-counts.false in
    let at_value = slice_get-get_or cover k (pos 0) in_cover in
    let at_count = slice_get-get_or counts k (Num (pos 0)) (omega (arith, in_cover, same)) in
    let terms = subst (λ (n : ℕ). AllByRecursion (IsTermOf n) xs) (sym c.loop-place.invariant.counting.kept.shrinks.narrower.size) c.requires.terms in
    let tally = c.tally_of-tally.result in
    let is_f = subst (λ (n : ℤ). tally.fewest ≡ fewest xs s.doms n) kept c.tally_of-tally.ensures.fewest in
    let is_m = subst (λ (n : ℤ). tally.most ≡ most xs s.doms n) kept c.tally_of-tally.ensures.most in
    let entailed = λ (not : c.in_ok-keep_count.field-0 ≡ Wiped → ⊥).
    entailed_next xs cover counts s.doms t.doms k value count tally.fewest tally.most c.loop-place.are_decided c.is_decided-are_decided.result at_value at_count terms c.doms.ensures.store.domains c.doms-in-loop-place.ensures.store.domains
    c.in_ok-keep_count.ensures.shrinks.narrower is_f is_m (c.in_ok-keep_count.ensures.between not) c.is_decided-are_decided.ensures c.loop-place.invariant.entailed in
    elim c.match-branch-2.branch [
      | in-Changed w ↦
          let less : IsOutcome Changed (IsCount xs value count) s t =
          subst (λ (n : ℤ). IsOutcome Changed (IsCount xs n count) s t) kept (rw w.in-Changed.is at c.in_ok-keep_count.ensures.outcome) in
          rw w.has_changed-is
          record {
            counting = counting_changed xs cover counts r s t c.loop-place.has_changed k value count at_value at_count c.in_ok-keep_count.ensures.shrinks
                (subst (λ (n : ℤ). IsCorrectOf (IsCount xs n count) s.doms t.doms) kept c.in_ok-keep_count.ensures.correct) less c.loop-place.invariant.counting;
            entailed = entailed (λ e. cc (e, w.in-Changed.is));
          }
      | in-Same w ↦
          rw w.has_changed-is
          record {
            counting = counting_same xs cover counts r s t c.loop-place.has_changed k value count at_value at_count (rw w.in-Same.is at c.in_ok-keep_count.ensures.outcome)
                (subst (λ (n : ℤ). IsCountLine xs t.doms n count) kept (c.in_ok-keep_count.ensures.line w.in-Same.is)) c.loop-place.invariant.counting;
            entailed = entailed (λ e. cc (e, w.in-Same.is));
          }
    ]

pub returns-then-are_decided-clause-answer : goal.returns-then-are_decided-clause-answer
returns-then-are_decided-clause-answer c =
    let xs = c.args.terms.now in
    let counts = c.args.counts.now in
    let r = c.args.store.now in
    let s = c.loop-place.store in
    let size = c.loop-place.invariant.counting.kept.shrinks.narrower.size in
    let end = c.loop-place-test.false in
    entailed_all xs c.args.cover.now counts r.doms s.doms c.loop-place.place c.if-cover-counts.false (omega (arith, end)) (subst (λ (n : ℕ). AllByRecursion (IsTermOf n) xs) (sym size) c.requires.terms)
    (subst (λ (n : ℕ). AllByRecursion (IsTermOf n) counts) (sym size) c.requires.counts) c.doms-2.ensures.store.domains (c.loop-place.invariant.entailed c.if-are_decided.true)

pub returns-in-Same-2-clause-answer : goal.returns-in-Same-2-clause-answer
returns-in-Same-2-clause-answer c =
    let xs = c.args.terms.now in
    let cover = c.args.cover.now in
    let counts = c.args.counts.now in
    let end = c.loop-place-test.false in
    let still = c.if-has_changed.false in
    let same = rw c.in-Same-2.is at c.in_ok-keep_whole.ensures.outcome in
    let lines = counting_all xs cover counts c.args.store.now c.loop-place.store c.loop-place.place c.if-cover-counts.false (omega (arith, end)) (rw still at c.loop-place.invariant.counting) in
    subst (λ (u : Stored). AreCountLines xs cover counts u.doms) (sym same) lines
