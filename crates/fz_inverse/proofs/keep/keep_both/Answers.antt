use Rattle.std.proofs.Common.{◌≡◌, refl, sym, subst}
use Rattle.fz_sets.proofs.Lists.{all_left, all_right}
use Rattle.fz_prop.specs.Stores.{Stored}
use Rattle.fz_prop.proofs.Twice.{shrinks_twice}
use Rattle.fz_inverse.specs.Pointing.{AllCanPointBack}
use Rattle.fz_inverse.proofs.Keeping.{terms_still}
use Rattle.fz_inverse.proofs.Lines.{both_correct, first_correct, first_fails, first_outcome, second_outcome, second_keeps, is_changed, turned}
use Rattle.fz_inverse.proofs.keep.keep_both.Goals as goal

pub keep_pointing-requires-clause-others : goal.keep_pointing-requires-clause-others
keep_pointing-requires-clause-others c = all_right _ c.args.firsts.now c.args.seconds.now c.requires.terms

pub keep_pointing-requires-clause-fits : goal.keep_pointing-requires-clause-fits
keep_pointing-requires-clause-fits c = all_left _ c.args.firsts.now c.args.seconds.now c.requires.fits

pub keep_pointing-requires-clause-fits_others : goal.keep_pointing-requires-clause-fits_others
keep_pointing-requires-clause-fits_others c = all_right _ c.args.firsts.now c.args.seconds.now c.requires.fits

pub keep_pointing-requires-2 : goal.keep_pointing-requires-2
keep_pointing-requires-2 c =
    let fs = c.args.firsts.now in
    let gs = c.args.seconds.now in
    let r = c.args.store.now in
    let s = c.keep_pointing.new.store in
    record {
      terms = terms_still r s gs c.in_ok-change.ensures.shrinks (all_right _ fs gs c.requires.terms);
      others = terms_still r s fs c.in_ok-change.ensures.shrinks (all_left _ fs gs c.requires.terms);
      fits = all_right _ fs gs c.requires.fits;
      fits_others = all_left _ fs gs c.requires.fits;
    }

pub returns-in_err-other-clause-shrinks : goal.returns-in_err-other-clause-shrinks
returns-in_err-other-clause-shrinks c =
    shrinks_twice c.args.store.now c.keep_pointing.new.store c.keep_pointing-2.new.store c.in_ok-change.ensures.shrinks c.in_err-other.ensures.shrinks

pub returns-in_err-other-clause-correct : goal.returns-in_err-other-clause-correct
returns-in_err-other-clause-correct c =
    both_correct c.args.firsts.now c.args.seconds.now c.args.store.now c.keep_pointing.new.store c.keep_pointing-2.new.store c.in_ok-change.ensures.correct c.in_err-other.ensures.correct

pub returns-clause-shrinks : goal.returns-clause-shrinks
returns-clause-shrinks c =
    shrinks_twice c.args.store.now c.keep_pointing.new.store c.keep_pointing-2.new.store c.in_ok-change.ensures.shrinks c.in_ok-other.ensures.shrinks

pub returns-clause-correct : goal.returns-clause-correct
returns-clause-correct c =
    both_correct c.args.firsts.now c.args.seconds.now c.args.store.now c.keep_pointing.new.store c.keep_pointing-2.new.store c.in_ok-change.ensures.correct c.in_ok-other.ensures.correct

pub returns-clause-outcome : goal.returns-clause-outcome
returns-clause-outcome c =
    second_outcome c.in_ok-other.other c.args.firsts.now c.args.seconds.now c.args.store.now c.keep_pointing.new.store c.keep_pointing-2.new.store c.in_default-other.not-Same
    c.in_ok-change.ensures.shrinks c.in_ok-change.ensures.correct c.in_ok-other.ensures.outcome

pub returns-clause-firsts : goal.returns-clause-firsts
returns-clause-firsts c = λ not apart.
    let both = apart (is_changed c.in_ok-other.other not c.in_default-other.not-Same) in
    second_keeps c.args.firsts.now c.args.seconds.now c.keep_pointing.new.store c.keep_pointing-2.new.store both (c.in_ok-other.ensures.apart not)
    (c.in_ok-change.ensures.pointing c.in_default.not-Wiped (λ e. both.others))

pub returns-clause-seconds : goal.returns-clause-seconds
returns-clause-seconds c = λ not apart. c.in_ok-other.ensures.pointing not (λ e. turned c.args.firsts.now c.args.seconds.now (apart e).others)

pub returns-in_err-change-clause-correct : goal.returns-in_err-change-clause-correct
returns-in_err-change-clause-correct c = first_correct c.args.firsts.now c.args.seconds.now c.args.store.now c.keep_pointing.new.store c.in_err-change.ensures.correct

pub returns-in-Wiped-clause-correct : goal.returns-in-Wiped-clause-correct
returns-in-Wiped-clause-correct c = first_correct c.args.firsts.now c.args.seconds.now c.args.store.now c.keep_pointing.new.store c.in_ok-change.ensures.correct

pub returns-in-Wiped-clause-outcome : goal.returns-in-Wiped-clause-outcome
returns-in-Wiped-clause-outcome c =
    first_fails c.args.firsts.now c.args.seconds.now c.args.store.now c.keep_pointing.new.store c.keep_pointing.new.store (rw c.in-Wiped.is at c.in_ok-change.ensures.outcome)

pub returns-in-Wiped-clause-firsts : goal.returns-in-Wiped-clause-firsts
returns-in-Wiped-clause-firsts c = λ not apart. absurd (not refl)

pub returns-in-Wiped-clause-seconds : goal.returns-in-Wiped-clause-seconds
returns-in-Wiped-clause-seconds c = λ not apart. absurd (not refl)

pub returns-in-Same-clause-shrinks : goal.returns-in-Same-clause-shrinks
returns-in-Same-clause-shrinks c =
    shrinks_twice c.args.store.now c.keep_pointing.new.store c.keep_pointing-2.new.store c.in_ok-change.ensures.shrinks c.in_ok-other.ensures.shrinks

pub returns-in-Same-clause-correct : goal.returns-in-Same-clause-correct
returns-in-Same-clause-correct c =
    both_correct c.args.firsts.now c.args.seconds.now c.args.store.now c.keep_pointing.new.store c.keep_pointing-2.new.store c.in_ok-change.ensures.correct c.in_ok-other.ensures.correct

pub returns-in-Same-clause-outcome : goal.returns-in-Same-clause-outcome
returns-in-Same-clause-outcome c =
    let same : c.keep_pointing-2.new.store ≡ c.keep_pointing.new.store = rw c.in-Same.is at c.in_ok-other.ensures.outcome in
    first_outcome c.in_ok-change.change c.args.firsts.now c.args.seconds.now c.args.store.now c.keep_pointing.new.store c.keep_pointing-2.new.store c.in_default.not-Wiped same
    c.in_ok-change.ensures.outcome

pub returns-in-Same-clause-firsts : goal.returns-in-Same-clause-firsts
returns-in-Same-clause-firsts c = λ not apart.
    let fs = c.args.firsts.now in
    let gs = c.args.seconds.now in
    let same : c.keep_pointing-2.new.store ≡ c.keep_pointing.new.store = rw c.in-Same.is at c.in_ok-other.ensures.outcome in
    subst (λ (u : Stored). AllCanPointBack fs gs u.doms) (sym same) (c.in_ok-change.ensures.pointing not (λ e. (apart e).others))

pub returns-in-Same-clause-seconds : goal.returns-in-Same-clause-seconds
returns-in-Same-clause-seconds c = λ not apart.
    c.in_ok-other.ensures.pointing (λ e. absurd (cc (c.in-Same.is, e))) (λ e. absurd (cc (c.in-Same.is, e)))
