use Rattle.std.proofs.Common.{subst, sym, refl}
use Rattle.std.specs.Prelude.{ℤ}
use Rattle.fz_bits.specs.Windows.{IsBit}
use Rattle.fz_spec.specs.Constraints.{term_value}
use Rattle.fz_strength.specs.Domains.{Within, IsTermOf}
use Rattle.fz_prop.specs.Stores.{Stored}
use Rattle.fz_prop.proofs.Twice.{shrinks_twice}
use Rattle.fz_table.specs.Partners.{IsRowOfTwo}
use Rattle.fz_table.proofs.Coupling.{MatchLeft, correct_once, correct_twice, fails_at_first, fails_at_second, matched_now, falls_twice}
use Rattle.fz_table.proofs.TwoColumns.{pair_of_row, left_matching, rested_answer}
use Rattle.fz_table.proofs.keep_pairs.keep_pairs.Goals as goal

pub returns-in-Wiped-clause-answer : goal.returns-in-Wiped-clause-answer
returns-in-Wiped-clause-answer c =
    let R = IsRowOfTwo c.args.table.now in
    let x = c.args.first in
    let y = c.args.second in
    let kept = c.related-kept.result in
    let P : ℤ → Type 0 = λ n. IsBit kept.firsts.base kept.firsts.bits n in
    let Q : ℤ → Type 0 = λ m. IsBit kept.seconds.base kept.seconds.bits m in
    let r = c.args.store.now in
    let s = c.keep_window.new.store in
    let left : MatchLeft R x y r.doms P Q = left_matching c.args.table.now c.args.pairs.now c.left_of-left.result kept x y r.doms c.requires.pairs c.left_of-left.ensures
    c.related-kept.ensures.first_base c.related-kept.ensures.second_base c.related-kept.ensures.matching in
    λ a within holds. fails_at_first R x y P Q r s c.requires.first c.requires.second left (rw c.in-Wiped.is at c.in_ok-change.ensures.change) a within
    (pair_of_row c.args.table.now (term_value a x) (term_value a y) holds)

pub returns-in_err-other-clause-shrinks : goal.returns-in_err-other-clause-shrinks
returns-in_err-other-clause-shrinks c =
    shrinks_twice c.args.store.now c.keep_window.new.store c.keep_window-2.new.store c.in_ok-change.ensures.shrinks c.in_err-other.ensures.shrinks

pub returns-in_err-other-clause-correct : goal.returns-in_err-other-clause-correct
returns-in_err-other-clause-correct c =
    let R = IsRowOfTwo c.args.table.now in
    let x = c.args.first in
    let y = c.args.second in
    let kept = c.related-kept.result in
    let P : ℤ → Type 0 = λ n. IsBit kept.firsts.base kept.firsts.bits n in
    let Q : ℤ → Type 0 = λ m. IsBit kept.seconds.base kept.seconds.bits m in
    let r = c.args.store.now in
    let s = c.keep_window.new.store in
    let left : MatchLeft R x y r.doms P Q = left_matching c.args.table.now c.args.pairs.now c.left_of-left.result kept x y r.doms c.requires.pairs c.left_of-left.ensures
    c.related-kept.ensures.first_base c.related-kept.ensures.second_base c.related-kept.ensures.matching in
    λ a holds within. subst (λ (u : Stored). Within u.doms a) (sym c.in_err-other.ensures.err)
    (correct_once R c.in_ok-change.change x y P Q r s c.requires.first c.requires.second left c.in_ok-change.ensures.change c.in_ok-change.ensures.shrinks a
    (pair_of_row c.args.table.now (term_value a x) (term_value a y) holds) within)

pub returns-in-Wiped-other-clause-shrinks : goal.returns-in-Wiped-other-clause-shrinks
returns-in-Wiped-other-clause-shrinks c =
    shrinks_twice c.args.store.now c.keep_window.new.store c.keep_window-2.new.store c.in_ok-change.ensures.shrinks c.in_ok-other.ensures.shrinks

pub returns-in-Wiped-other-clause-correct : goal.returns-in-Wiped-other-clause-correct
returns-in-Wiped-other-clause-correct c =
    let R = IsRowOfTwo c.args.table.now in
    let x = c.args.first in
    let y = c.args.second in
    let kept = c.related-kept.result in
    let P : ℤ → Type 0 = λ n. IsBit kept.firsts.base kept.firsts.bits n in
    let Q : ℤ → Type 0 = λ m. IsBit kept.seconds.base kept.seconds.bits m in
    let r = c.args.store.now in
    let s = c.keep_window.new.store in
    let left : MatchLeft R x y r.doms P Q = left_matching c.args.table.now c.args.pairs.now c.left_of-left.result kept x y r.doms c.requires.pairs c.left_of-left.ensures
    c.related-kept.ensures.first_base c.related-kept.ensures.second_base c.related-kept.ensures.matching in
    let t = c.keep_window-2.new.store in
    λ a holds within. correct_twice R c.in_ok-change.change c.in_ok-other.other x y P Q r s t c.requires.first c.requires.second left
    c.in_ok-change.ensures.change c.in_ok-change.ensures.shrinks c.in_ok-other.ensures.change c.in_ok-other.ensures.shrinks a (pair_of_row c.args.table.now (term_value a x) (term_value a y) holds) within

pub returns-in-Wiped-other-clause-answer : goal.returns-in-Wiped-other-clause-answer
returns-in-Wiped-other-clause-answer c =
    let R = IsRowOfTwo c.args.table.now in
    let x = c.args.first in
    let y = c.args.second in
    let kept = c.related-kept.result in
    let P : ℤ → Type 0 = λ n. IsBit kept.firsts.base kept.firsts.bits n in
    let Q : ℤ → Type 0 = λ m. IsBit kept.seconds.base kept.seconds.bits m in
    let r = c.args.store.now in
    let s = c.keep_window.new.store in
    let left : MatchLeft R x y r.doms P Q = left_matching c.args.table.now c.args.pairs.now c.left_of-left.result kept x y r.doms c.requires.pairs c.left_of-left.ensures
    c.related-kept.ensures.first_base c.related-kept.ensures.second_base c.related-kept.ensures.matching in
    let t = c.keep_window-2.new.store in
    λ a within holds. fails_at_second R c.in_ok-change.change x y P Q r s t c.requires.first c.requires.second left c.in_ok-change.ensures.change c.in_ok-change.ensures.shrinks
    (rw c.in-Wiped-other.is at c.in_ok-other.ensures.change) a within (pair_of_row c.args.table.now (term_value a x) (term_value a y) holds)

pub returns-then-has_changed_both-clause-shrinks : goal.returns-then-has_changed_both-clause-shrinks
returns-then-has_changed_both-clause-shrinks c =
    shrinks_twice c.args.store.now c.keep_window.new.store c.keep_window-2.new.store c.in_ok-change.ensures.shrinks c.in_ok-other.ensures.shrinks

pub returns-then-has_changed_both-clause-correct : goal.returns-then-has_changed_both-clause-correct
returns-then-has_changed_both-clause-correct c =
    let R = IsRowOfTwo c.args.table.now in
    let x = c.args.first in
    let y = c.args.second in
    let kept = c.related-kept.result in
    let P : ℤ → Type 0 = λ n. IsBit kept.firsts.base kept.firsts.bits n in
    let Q : ℤ → Type 0 = λ m. IsBit kept.seconds.base kept.seconds.bits m in
    let r = c.args.store.now in
    let s = c.keep_window.new.store in
    let left : MatchLeft R x y r.doms P Q = left_matching c.args.table.now c.args.pairs.now c.left_of-left.result kept x y r.doms c.requires.pairs c.left_of-left.ensures
    c.related-kept.ensures.first_base c.related-kept.ensures.second_base c.related-kept.ensures.matching in
    let t = c.keep_window-2.new.store in
    λ a holds within. correct_twice R c.in_ok-change.change c.in_ok-other.other x y P Q r s t c.requires.first c.requires.second left
    c.in_ok-change.ensures.change c.in_ok-change.ensures.shrinks c.in_ok-other.ensures.change c.in_ok-other.ensures.shrinks a (pair_of_row c.args.table.now (term_value a x) (term_value a y) holds) within

pub returns-then-has_changed_both-clause-answer : goal.returns-then-has_changed_both-clause-answer
returns-then-has_changed_both-clause-answer c =
    let kept = c.related-kept.result in
    falls_twice c.in_ok-change.change c.in_ok-other.other c.args.first c.args.second (λ n. IsBit kept.firsts.base kept.firsts.bits n) (λ m. IsBit kept.seconds.base kept.seconds.bits m)
    c.args.store.now c.keep_window.new.store c.keep_window-2.new.store (c.if-has_changed_both.ensures.0 refl).1
    c.in_ok-change.ensures.change c.in_ok-other.ensures.change c.in_ok-change.ensures.shrinks c.in_ok-other.ensures.shrinks

pub returns-clause-shrinks : goal.returns-clause-shrinks
returns-clause-shrinks c =
    shrinks_twice c.args.store.now c.keep_window.new.store c.keep_window-2.new.store c.in_ok-change.ensures.shrinks c.in_ok-other.ensures.shrinks

pub returns-clause-correct : goal.returns-clause-correct
returns-clause-correct c =
    let R = IsRowOfTwo c.args.table.now in
    let x = c.args.first in
    let y = c.args.second in
    let kept = c.related-kept.result in
    let P : ℤ → Type 0 = λ n. IsBit kept.firsts.base kept.firsts.bits n in
    let Q : ℤ → Type 0 = λ m. IsBit kept.seconds.base kept.seconds.bits m in
    let r = c.args.store.now in
    let s = c.keep_window.new.store in
    let left : MatchLeft R x y r.doms P Q = left_matching c.args.table.now c.args.pairs.now c.left_of-left.result kept x y r.doms c.requires.pairs c.left_of-left.ensures
    c.related-kept.ensures.first_base c.related-kept.ensures.second_base c.related-kept.ensures.matching in
    let t = c.keep_window-2.new.store in
    λ a holds within. correct_twice R c.in_ok-change.change c.in_ok-other.other x y P Q r s t c.requires.first c.requires.second left
    c.in_ok-change.ensures.change c.in_ok-change.ensures.shrinks c.in_ok-other.ensures.change c.in_ok-other.ensures.shrinks a (pair_of_row c.args.table.now (term_value a x) (term_value a y) holds) within

pub returns-clause-answer : goal.returns-clause-answer
returns-clause-answer c =
    let R = IsRowOfTwo c.args.table.now in
    let x = c.args.first in
    let y = c.args.second in
    let kept = c.related-kept.result in
    let P : ℤ → Type 0 = λ n. IsBit kept.firsts.base kept.firsts.bits n in
    let Q : ℤ → Type 0 = λ m. IsBit kept.seconds.base kept.seconds.bits m in
    let r = c.args.store.now in
    let s = c.keep_window.new.store in
    let left : MatchLeft R x y r.doms P Q = left_matching c.args.table.now c.args.pairs.now c.left_of-left.result kept x y r.doms c.requires.pairs c.left_of-left.ensures
    c.related-kept.ensures.first_base c.related-kept.ensures.second_base c.related-kept.ensures.matching in
    let t = c.keep_window-2.new.store in
    let narrower = (shrinks_twice r s t c.in_ok-change.ensures.shrinks c.in_ok-other.ensures.shrinks).narrower in
    let line = matched_now R c.in_ok-change.change c.in_ok-other.other x y P Q r s t c.in_default.not-Wiped c.in_default-other.not-Wiped
    (λ both. cc (c.if-has_changed_both.ensures.1 both)) left c.in_ok-change.ensures.change c.in_ok-other.ensures.change in
    rw c.rested.ensures (rested_answer c.is_one_fixed.result x y c.args.table.now r.doms t.doms c.requires.first
    (subst (λ n. IsTermOf n x) (sym narrower.size) c.requires.first) (subst (λ n. IsTermOf n y) (sym narrower.size) c.requires.second)
    c.doms.ensures.store.domains narrower line c.is_one_fixed.ensures)
