use Rattle.std.proofs.Common.{◌≡◌, ◌++◌}
use Rattle.fz_dom.specs.declared.change.Change.TheVariants.{Wiped, Changed}
use Rattle.fz_inverse.proofs.Keeping.{terms_still}
use Rattle.fz_inverse.proofs.Lengths.{lengths_same}
use Rattle.fz_inverse.proofs.Lines.{line_of}
use Rattle.fz_inverse.proofs.keep.keep_inverse.Goals as goal

pub returns-then-firsts-seconds-clause-answer : goal.returns-then-firsts-seconds-clause-answer
returns-then-firsts-seconds-clause-answer c = λ a within holds. c.if-firsts-seconds.true (lengths_same c.args.firsts.now c.args.seconds.now a holds)

pub at_rest-requires-clause-terms : goal.at_rest-requires-clause-terms
at_rest-requires-clause-terms c =
    terms_still c.args.store.now c.keep_both.new.store (c.args.firsts.now ++ c.args.seconds.now) c.in_ok-keep_both.ensures.shrinks c.requires.terms

pub at_rest-requires-clause-line : goal.at_rest-requires-clause-line
at_rest-requires-clause-line c =
    let not : c.in_ok-keep_both.field-0 ≡ Wiped → ⊥ = λ e. absurd (cc (c.in-Changed.is, e)) in
    line_of c.args.firsts.now c.args.seconds.now c.keep_both.new.store.doms c.if-firsts-seconds.false (c.in_ok-keep_both.ensures.firsts not (λ e. c.requires.differ c.if-differ.true))
    (c.in_ok-keep_both.ensures.seconds not (λ e. c.requires.differ c.if-differ.true))

pub at_rest-requires-in-Same-clause-line : goal.at_rest-requires-in-Same-clause-line
at_rest-requires-in-Same-clause-line c =
    let not : c.in_ok-keep_both.field-0 ≡ Wiped → ⊥ = λ e. absurd (cc (c.in-Same.is, e)) in
    let other : c.in_ok-keep_both.field-0 ≡ Changed → ⊥ = λ e. absurd (cc (c.in-Same.is, e)) in
    line_of c.args.firsts.now c.args.seconds.now c.keep_both.new.store.doms c.if-firsts-seconds.false (c.in_ok-keep_both.ensures.firsts not (λ e. absurd (other e)))
    (c.in_ok-keep_both.ensures.seconds not (λ e. absurd (other e)))
