use Rattle.std.proofs.Common.{◌≢◌, ◌+◌, subst, sym, arith, rules, get_or, pos}
use Rattle.std.specs.Prelude.{ℤ}
use Rattle.std.proofs.lemmas.Option.{slice_get-get_or}
use Rattle.std.proofs.Math.Facts.{to_z-of_z}
use mir.Val.{SFits}
use mir.Syntax.{w32}
use Rattle.fz_dom.specs.declared.change.Change.TheVariants.{Wiped}
use Rattle.fz_spec.specs.declared.term.Term.TheVariants.{Num}
use Rattle.fz_prop.specs.Stores.{IsTermChange}
use Rattle.fz_alldiff.proofs.Removing.{IsRemoving, removing_more, removing_all, never_different}
use Rattle.fz_alldiff.proofs.far.remove_others.Goals as goal

pub returns-in-Wiped-clause-failed : goal.returns-in-Wiped-clause-failed
returns-in-Wiped-clause-failed c = λ left.
    let fits : SFits w32 c.args.value = search rules in
    let so_far : IsRemoving c.args.terms.now c.args.done.now c.args.value c.args.place c.args.store.now c.loop-other.store c.loop-other.other =
    subst (λ (n : ℤ). IsRemoving c.args.terms.now c.args.done.now n c.args.place c.args.store.now c.loop-other.store c.loop-other.other) (to_z-of_z fits) c.loop-other.invariant in
    let y = get_or c.args.terms.now c.loop-other.other (Num (pos 0)) in
    never_different c.args.terms.now c.args.done.now c.args.value c.args.place c.args.store.now c.loop-other.store c.remove_from.new.store c.loop-other.other y
    c.requires.terms c.requires.only (λ same. let test = c.if-other-place.false in omega (arith, test, same)) (slice_get-get_or c.args.terms.now c.loop-other.other (Num (pos 0)) c.loop-other-test.true)
    (subst (λ (n : ℤ). IsTermChange Wiped y (λ x. x ≢ n) c.loop-other.store c.remove_from.new.store) (to_z-of_z fits) (rw c.in-Wiped.is at c.in_ok-remove_from.ensures.change))
    so_far

pub loop-other-preserved : goal.loop-other-preserved
loop-other-preserved c =
    let fits : SFits w32 c.args.value = search rules in
    let so_far : IsRemoving c.args.terms.now c.args.done.now c.args.value c.args.place c.args.store.now c.loop-other.store c.loop-other.other =
    subst (λ (n : ℤ). IsRemoving c.args.terms.now c.args.done.now n c.args.place c.args.store.now c.loop-other.store c.loop-other.other) (to_z-of_z fits) c.loop-other.invariant in
    let y = get_or c.args.terms.now c.loop-other.other (Num (pos 0)) in
    subst (λ (n : ℤ). IsRemoving c.args.terms.now c.args.done.now n c.args.place c.args.store.now c.remove_from.new.store (c.loop-other.other + 1)) (sym (to_z-of_z fits))
    (removing_more c.in_ok-remove_from.field-0 c.args.terms.now c.args.done.now c.args.value c.args.place c.args.store.now c.loop-other.store c.remove_from.new.store c.loop-other.other y
    c.requires.terms c.requires.only (λ same. let test = c.if-other-place.false in omega (arith, test, same)) (slice_get-get_or c.args.terms.now c.loop-other.other (Num (pos 0)) c.loop-other-test.true)
    (subst (λ (n : ℤ). IsTermChange c.in_ok-remove_from.field-0 y (λ x. x ≢ n) c.loop-other.store c.remove_from.new.store) (to_z-of_z fits) c.in_ok-remove_from.ensures.change)
    c.in_default.not-Wiped c.in_ok-remove_from.ensures.shrinks so_far)

pub returns-clause-outside : goal.returns-clause-outside
returns-clause-outside c = λ left.
    let fits : SFits w32 c.args.value = search rules in
    let so_far : IsRemoving c.args.terms.now c.args.done.now c.args.value c.args.place c.args.store.now c.loop-other.store c.loop-other.other =
    subst (λ (n : ℤ). IsRemoving c.args.terms.now c.args.done.now n c.args.place c.args.store.now c.loop-other.store c.loop-other.other) (to_z-of_z fits) c.loop-other.invariant in
    removing_all c.args.terms.now c.args.done.now c.args.value c.args.place c.args.store.now c.loop-other.store c.loop-other.other
    (let test = c.loop-other-test.false in omega (arith, test)) so_far
