use Rattle.std.proofs.Common.{rules, sym, subst}
use Rattle.fz_strength.specs.Domains.{Within}
use Rattle.fz_prop.specs.Stores.{Stored}
use Rattle.fz_prop.proofs.Twice.{shrinks_twice}
use Rattle.fz_partners.proofs.Keeping.{correct_first, correct_second, correct_third, kept_line, never_first, never_second, never_third, not_wiped}
use Rattle.fz_partners.proofs.found.keep_found.Goals as goal

pub returns-in-Wiped-clause-correct : goal.returns-in-Wiped-clause-correct
returns-in-Wiped-clause-correct c =
    let e = c.args.equation in
    let f = c.args.found.now in
    let r = c.args.store.now in
    let s = c.keep.new.store in
    let one = c.in_ok-keep.ensures in
    correct_first e f r s c.in_ok-keep.field-0 c.requires.found c.requires.inside one.change one.shrinks

pub returns-in-Wiped-clause-answer : goal.returns-in-Wiped-clause-answer
returns-in-Wiped-clause-answer c =
    never_first c.args.equation c.args.found.now c.args.store.now c.keep.new.store c.requires.found c.requires.inside (rw c.in-Wiped.is at c.in_ok-keep.ensures.change)

pub returns-in_err-keep-2 : goal.returns-in_err-keep-2
returns-in_err-keep-2 c =
    let e = c.args.equation in
    let f = c.args.found.now in
    let r = c.args.store.now in
    let s = c.keep.new.store in
    let t = c.keep-2.new.store in
    let one = c.in_ok-keep.ensures in
    let first = correct_first e f r s c.in_ok-keep.field-0 c.requires.found c.requires.inside one.change one.shrinks in
    record {
      shrinks = shrinks_twice r s t one.shrinks c.in_err-keep-2.ensures.shrinks;
      correct = λ a truth within. subst (λ (x : Stored). Within x.doms a) (sym c.in_err-keep-2.ensures.err) (first a truth within);
      answer = search rules;
    }

pub returns-in-Wiped-2 : goal.returns-in-Wiped-2
returns-in-Wiped-2 c =
    let e = c.args.equation in
    let f = c.args.found.now in
    let r = c.args.store.now in
    let s = c.keep.new.store in
    let t = c.keep-2.new.store in
    let one = c.in_ok-keep.ensures in
    let first = correct_first e f r s c.in_ok-keep.field-0 c.requires.found c.requires.inside one.change one.shrinks in
    let two = c.in_ok-keep-2.ensures in
    let second = correct_second e f r s t c.in_ok-keep-2.field-0 c.requires.found c.requires.inside first two.change two.shrinks in
    let shrinks = shrinks_twice r s t one.shrinks two.shrinks in
    record {
      shrinks = shrinks;
      correct = second;
      answer = never_second e f r s t c.requires.found c.requires.inside one.shrinks first (rw c.in-Wiped-2.is at two.change);
    }

pub returns-in_err-keep-3 : goal.returns-in_err-keep-3
returns-in_err-keep-3 c =
    let e = c.args.equation in
    let f = c.args.found.now in
    let r = c.args.store.now in
    let s = c.keep.new.store in
    let t = c.keep-2.new.store in
    let one = c.in_ok-keep.ensures in
    let first = correct_first e f r s c.in_ok-keep.field-0 c.requires.found c.requires.inside one.change one.shrinks in
    let two = c.in_ok-keep-2.ensures in
    let second = correct_second e f r s t c.in_ok-keep-2.field-0 c.requires.found c.requires.inside first two.change two.shrinks in
    let shrinks = shrinks_twice r s t one.shrinks two.shrinks in
    record {
      shrinks = shrinks_twice r t c.keep-3.new.store shrinks c.in_err-keep-3.ensures.shrinks;
      correct = λ a truth within. subst (λ (x : Stored). Within x.doms a) (sym c.in_err-keep-3.ensures.err) (second a truth within);
      answer = search rules;
    }

pub returns-in-Wiped-3 : goal.returns-in-Wiped-3
returns-in-Wiped-3 c =
    let e = c.args.equation in
    let f = c.args.found.now in
    let r = c.args.store.now in
    let s = c.keep.new.store in
    let t = c.keep-2.new.store in
    let one = c.in_ok-keep.ensures in
    let first = correct_first e f r s c.in_ok-keep.field-0 c.requires.found c.requires.inside one.change one.shrinks in
    let two = c.in_ok-keep-2.ensures in
    let second = correct_second e f r s t c.in_ok-keep-2.field-0 c.requires.found c.requires.inside first two.change two.shrinks in
    let shrinks = shrinks_twice r s t one.shrinks two.shrinks in
    let u = c.keep-3.new.store in
    let three = c.in_ok-keep-3.ensures in
    let third = correct_third e f r t u c.in_ok-keep-3.field-0 c.requires.found c.requires.inside second three.change three.shrinks in
    record {
      shrinks = shrinks_twice r t u shrinks three.shrinks;
      correct = third;
      answer = never_third e f r t u c.requires.found c.requires.inside shrinks second (rw c.in-Wiped-3.is at three.change);
    }

pub returns-in-Same-3 : goal.returns-in-Same-3
returns-in-Same-3 c =
    let e = c.args.equation in
    let f = c.args.found.now in
    let r = c.args.store.now in
    let s = c.keep.new.store in
    let t = c.keep-2.new.store in
    let one = c.in_ok-keep.ensures in
    let first = correct_first e f r s c.in_ok-keep.field-0 c.requires.found c.requires.inside one.change one.shrinks in
    let two = c.in_ok-keep-2.ensures in
    let second = correct_second e f r s t c.in_ok-keep-2.field-0 c.requires.found c.requires.inside first two.change two.shrinks in
    let shrinks = shrinks_twice r s t one.shrinks two.shrinks in
    let u = c.keep-3.new.store in
    let three = c.in_ok-keep-3.ensures in
    let third = correct_third e f r t u c.in_ok-keep-3.field-0 c.requires.found c.requires.inside second three.change three.shrinks in
    record {
      shrinks = shrinks_twice r t u shrinks three.shrinks;
      correct = third;
      answer = kept_line e f r s t u c.in_ok-keep.field-0 c.in_ok-keep-2.field-0 c.in_ok-keep-3.field-0 c.requires.found
          (record {
            first = one.change;
            second = two.change;
            third = three.change;
            some_first = not_wiped c.in_ok-keep.field-0 c.in-Same.is;
            some_second = not_wiped c.in_ok-keep-2.field-0 c.in-Same-2.is;
            some_third = not_wiped c.in_ok-keep-3.field-0 c.in-Same-3.is;
            shrinks_second = two.shrinks;
            shrinks_third = three.shrinks;
          });
    }
