use Rattle.std.proofs.Common.{◌≡◌, ◌∙◌, sym, subst, arith, rules}
use Rattle.std.specs.Prelude.{ℤ, List}
use Rattle.std.proofs.lemmas.Bool.Decides.{nat_tests}
use Rattle.fz_sets.specs.Sets.{IsInSet, set_size}
use Rattle.fz_dom.specs.Changes.{IsChange}
use Rattle.fz_dom.specs.declared.change.Change.TheVariants.{Changed}
use Rattle.fz_dom.specs.Shape.{IsDomain}
use Rattle.fz_dom.proofs.Kept.{seen, domain_of}
use Rattle.fz_dom.proofs.Windows.{none_stays, all_stay, some_leave}
use Rattle.fz_dom.proofs.domain.Dom.keep_ranges.Goals as goal

pub returns-then-is_empty-clause-change : goal.returns-then-is_empty-clause-change
returns-then-is_empty-clause-change c = none_stays c.args.self.now c.args.ranges.items (let t = c.if-is_empty.true in grind (arith, nat_tests))

pub returns-then-size_of-size-clause-change : goal.returns-then-size_of-size-clause-change
returns-then-size_of-size-clause-change c =
    let h = c.self.inside.head in
    let e : c.size_of.result ≡ set_size c.args.ranges.items = search rules in
    all_stay h c.args.self.now c.args.ranges.items (seen h c.self.inside.rest.items c.args.self.now c.self.invariant c.self.view_is) c.requires.ranges
    (let t = c.if-is_empty.false in grind (arith, nat_tests)) (let t = c.if-size_of-size.true in omega arith) c.requires.among

pub returns-clause-change : goal.returns-clause-change
returns-clause-change c =
    let h = c.self.inside.head in
    let e : c.size_of.result ≡ set_size c.args.ranges.items = search rules in
    subst (λ (s : List (ℤ × ℤ)). IsChange Changed (λ x. IsInSet c.args.ranges.items x) c.args.self.now s) (sym (c.from_several-2.view_is ∙ c.from_several.ensures))
    (some_leave h c.args.self.now c.args.ranges.items (seen h c.self.inside.rest.items c.args.self.now c.self.invariant c.self.view_is) c.requires.ranges
    (let t = c.if-is_empty.false in grind (arith, nat_tests)) (λ s. let t = c.if-size_of-size.false in omega arith) c.requires.among)

pub returns-then-is_empty-clause-domain : goal.returns-then-is_empty-clause-domain
returns-then-is_empty-clause-domain c = subst IsDomain c.self.view_is (domain_of c.self.inside.head c.self.inside.rest.items c.self.invariant)
