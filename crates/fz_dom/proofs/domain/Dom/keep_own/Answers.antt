use Rattle.std.proofs.Common.{◌∙◌, ◌<◌, ◌^◌, ap, subst, arith, rules}
use Rattle.std.specs.Prelude.{ℤ}
use Rattle.std.proofs.Math.Facts.{to_z-of_z}
use Rattle.fz_dom.specs.Shape.{IsDomain}
use Rattle.fz_dom.specs.Places.{bit_ranges}
use Rattle.fz_dom.proofs.Kept.{seen, small_kept, small_ranges, domain_of}
use Rattle.fz_dom.proofs.Windows.{word_none, word_all, word_some_leave}
use Rattle.fz_dom.proofs.domain.Dom.keep_own.Goals as goal

pub returns-then-word-eq0-clause-change : goal.returns-then-word-eq0-clause-change
returns-then-word-eq0-clause-change c = word_none c.args.base c.args.word c.args.self.now (let t = c.if-word-eq0.true in omega arith)

pub returns-then-word-size-clause-change : goal.returns-then-word-size-clause-change
returns-then-word-size-clause-change c =
    let h = c.self.inside.head in
    let q : c.args.word < 2 ^ 64 = search rules in
    word_all h c.args.self.now c.args.base c.args.word (seen h c.self.inside.rest.items c.args.self.now c.self.invariant c.self.view_is)
    (let t = c.if-word-eq0.false in omega arith) q (let t = c.if-word-size.true in omega arith) c.requires.among

pub invariant_of-self : goal.invariant_of-self
invariant_of-self c = small_kept c.from_word-self-inside.result c.clear.new.self.items c.clear.ensures.items c.from_word-self-inside.ensures.whole

pub returns-clause-change : goal.returns-clause-change
returns-clause-change c =
    let h = c.self.inside.head in
    let q : c.args.word < 2 ^ 64 = search rules in
    word_some_leave h c.args.self.now _ c.args.base c.args.word (seen h c.self.inside.rest.items c.args.self.now c.self.invariant c.self.view_is)
    (let t = c.if-word-eq0.false in omega arith) q (λ s. let t = c.if-word-size.false in omega arith) c.requires.among
    (small_ranges c.from_word-self-inside.result c.clear.new.self.items c.clear.ensures.items ∙ c.from_word-self-inside.ensures.set ∙ ap (λ (b : ℤ). bit_ranges b c.args.word) (to_z-of_z c.ranges.base))

pub returns-then-word-eq0-clause-domain : goal.returns-then-word-eq0-clause-domain
returns-then-word-eq0-clause-domain c = subst IsDomain c.self.view_is (domain_of c.self.inside.head c.self.inside.rest.items c.self.invariant)

pub returns-then-word-size-clause-domain : goal.returns-then-word-size-clause-domain
returns-then-word-size-clause-domain c = subst IsDomain c.self.view_is (domain_of c.self.inside.head c.self.inside.rest.items c.self.invariant)
