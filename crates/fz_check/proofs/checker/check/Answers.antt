use Rattle.std.proofs.Common.{arith, map, length, subst, refl, ap, ◌∙◌, List, Option}
use Rattle.std.specs.List.{AllByRecursion}
use Rattle.std.specs.Vec.Iter.{into_iter_items, into_iter_len}
use Rattle.fz_language.specs.Within.{ItemFits}
use Rattle.fz_syntax.specs.Trees.{program_of, item_of}
use Rattle.fz_syntax.specs.declared.item.Item.{Item}
use Rattle.fz_resolve.specs.declared.fault.Fault.{Fault}
use Rattle.fz_check.specs.Drafts.{IsAhead, IsAdded}
use Rattle.fz_check.proofs.DraftLaws.{ahead_more}
use Rattle.fz_check.proofs.CheckLaws.{first_broken, first_of_solve, all_kept, none_left}
use Rattle.fz_check.proofs.checker.check.Goals as goal

pub take-requires-clause-fits : goal.take-requires-clause-fits
take-requires-clause-fits c =
    let fits = subst (λ (l : List Item). AllByRecursion ItemFits (map item_of l)) c.in-Some.ensures.steps.0 c.loop-item.invariant.1.0 in
    fits.0

pub returns-in-Some-2 : goal.returns-in-Some-2
returns-in-Some-2 c =
    let p = program_of c.args.program in
    let rest = map item_of (into_iter_items c.next.new.self) in
    let a = subst (λ (l : List Item). IsAhead p c.loop-item.draft (map item_of l)) c.in-Some.ensures.steps.0 c.loop-item.invariant.0 in
    first_broken p c.loop-item.draft (item_of c.in-Some.item) rest c.in-Some-2.fault a
    (subst (λ (o : Option Fault). IsAdded c.loop-item.draft c.take.new.self a.counts (item_of c.in-Some.item) o) c.in-Some-2.is (c.in_ok-fault.ensures a.counts a.counted))

pub loop-item-preserved : goal.loop-item-preserved
loop-item-preserved c =
    let p = program_of c.args.program in
    let rest = map item_of (into_iter_items c.next.new.self) in
    let fits = subst (λ (l : List Item). AllByRecursion ItemFits (map item_of l)) c.in-Some.ensures.steps.0 c.loop-item.invariant.1.0 in
    let a = subst (λ (l : List Item). IsAhead p c.loop-item.draft (map item_of l)) c.in-Some.ensures.steps.0 c.loop-item.invariant.0 in (
      ahead_more p c.loop-item.draft c.take.new.self (item_of c.in-Some.item) rest a
          (subst (λ (o : Option Fault). IsAdded c.loop-item.draft c.take.new.self a.counts (item_of c.in-Some.item) o) c.in_default.is (c.in_ok-fault.ensures a.counts a.counted)),
      (fits.1, (let longer = c.in-Some.ensures.steps.1 in let long = c.loop-item.invariant.1.1 ∙ ap (λ (l : List Item). length l) c.in-Some.ensures.steps.0 in omega (arith, longer, long))),
    )

pub returns-in-Some-solve_fault : goal.returns-in-Some-solve_fault
returns-in-Some-solve_fault c =
    let p = program_of c.args.program in
    let a = subst (λ (l : List Item). IsAhead p c.loop-item.draft (map item_of l)) (none_left (into_iter_items c.loop-item.item-iterator) (into_iter_len c.loop-item.item-iterator) c.loop-item.invariant.1.1 c.in-None.ensures.steps.0) c.loop-item.invariant.0 in
    first_of_solve p c.loop-item.draft c.in-Some-solve_fault.fault a c.in-Some-solve_fault.ensures

pub model_of-requires : goal.model_of-requires
model_of-requires c =
    let p = program_of c.args.program in
    let a = subst (λ (l : List Item). IsAhead p c.loop-item.draft (map item_of l)) (none_left (into_iter_items c.loop-item.item-iterator) (into_iter_len c.loop-item.item-iterator) c.loop-item.invariant.1.1 c.in-None.ensures.steps.0) c.loop-item.invariant.0 in
    (p, record { fits = c.requires; keeps = all_kept p c.loop-item.draft a c.in-None-solve_fault.ensures; ahead = a; solves = refl })

pub returns : goal.returns
returns c =
    let p = program_of c.args.program in
    let a = subst (λ (l : List Item). IsAhead p c.loop-item.draft (map item_of l)) (none_left (into_iter_items c.loop-item.item-iterator) (into_iter_len c.loop-item.item-iterator) c.loop-item.invariant.1.1 c.in-None.ensures.steps.0) c.loop-item.invariant.0 in
    let keeps = all_kept p c.loop-item.draft a c.in-None-solve_fault.ensures in
    (keeps, c.in_ok-model_of-in-None-solve_fault.ensures p (record { fits = c.requires; keeps = keeps; ahead = a; solves = refl }))
