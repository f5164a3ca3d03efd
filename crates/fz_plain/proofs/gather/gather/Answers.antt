use Rattle.std.proofs.Common.{◌≡◌, ◌≤◌, rules, sum_by}
use Rattle.fz_strength.specs.Sums.{left_terms}
use Rattle.fz_plain.specs.Entries.{AreAddedUp, AreNumbersAdded, size_of}
use Rattle.fz_plain.specs.Plain.{HasTwice}
use Rattle.fz_plain.proofs.Gathered.{sum_large, sum_gathered}
use Rattle.fz_plain.proofs.gather.gather.Goals as goal

pub returns-in_default : goal.returns-in_default
returns-in_default c = λ two.
    let es = c.in_ok-entries.entries.items in
    let here : c.deref.result.now ≡ es = search rules in
    let large : 2147483648 ≤ sum_by size_of c.deref.result.now = search rules in
    sum_large c.args.factors.now c.args.terms.now c.args.last es c.in_ok-entries.ensures.permutation (rw here at large)

pub returns : goal.returns
returns c =
    let es = c.in_ok-entries.entries.items in
    let here : c.deref.result.now ≡ es = search rules in
    let ls = c.in-Some.sum.factors.items in
    let us = c.in-Some.sum.terms.items in
    let added : AreAddedUp ls us c.deref.result.now = search rules in
    let numbers : AreNumbersAdded c.args.factors.now c.args.terms.now ls us c.add_numbers.new.sum.factors.items c.add_numbers.new.sum.terms.items = search rules in
    let two : HasTwice (left_terms c.args.terms.now c.args.last) = search rules in
    sum_gathered c.args.factors.now c.args.terms.now c.args.last es ls us c.add_numbers.new.sum.factors.items c.add_numbers.new.sum.terms.items c.requires c.in_ok-entries.ensures.permutation (rw here at added) numbers two
