use Rattle.std.proofs.Common.{◌≡◌, ◌∙◌, rules, pos, get_or, sym, ap, w32, arith}
use Rattle.std.specs.Prelude.{◌+ℤ◌, ℕ}
use Rattle.std.proofs.lemmas.Int.{ints}
use Rattle.std.proofs.Math.Facts.{to_z-of_z}
use mir.Val.{SFits}
use Rattle.fz_dom.specs.Shape.{least, greatest}
use Rattle.fz_spec.specs.declared.term.Term.{Term}
use Rattle.fz_spec.specs.declared.term.Term.TheVariants.{Num}
use Rattle.fz_strength.specs.Domains.{term_set}
use Rattle.fz_hall.specs.Counts.{begins_at, ends_at}
use Rattle.fz_hall.proofs.Tallies.{counts_none, opens_none, counts_more, opens_kept, opens_more, near_at}
use Rattle.fz_hall.proofs.counts.tally_of.Goals.{then-first-last, else-first-last}
use Rattle.fz_hall.proofs.counts.tally_of.Goals as goal

pub loop-term-init : goal.loop-term-init
loop-term-init c = record {
  begins = counts_none (begins_at c.args.store.now.doms) c.args.span.low;
  ends = counts_none (ends_at c.args.store.now.doms) c.args.span.low;
  opens = opens_none c.args.store.now.doms c.args.span.low;
}

pub offset-first-requires-clause-from : goal.offset-first-requires-clause-from
offset-first-requires-clause-from c =
    let xs = c.args.terms.now in
    let ds = c.args.store.now.doms in
    let k = c.loop-term.term-index in
    let near = near_at ds c.args.span.low c.args.span.high xs k c.loop-term-test.true c.requires.terms c.doms.ensures.store.domains c.requires.span c.requires.narrow in
    let span_fits : SFits w32 c.args.span.low = search rules in
    let low_fits : SFits w32 c.ends_of-left.result.low = search rules in
    let high_fits : SFits w32 c.ends_of-left.result.high = search rules in
    rw (to_z-of_z span_fits, to_z-of_z low_fits, c.ends_of-left.ensures.low) near.from

pub offset-first-requires-clause-to : goal.offset-first-requires-clause-to
offset-first-requires-clause-to c =
    let xs = c.args.terms.now in
    let ds = c.args.store.now.doms in
    let k = c.loop-term.term-index in
    let near = near_at ds c.args.span.low c.args.span.high xs k c.loop-term-test.true c.requires.terms c.doms.ensures.store.domains c.requires.span c.requires.narrow in
    let span_fits : SFits w32 c.args.span.low = search rules in
    let low_fits : SFits w32 c.ends_of-left.result.low = search rules in
    let high_fits : SFits w32 c.ends_of-left.result.high = search rules in
    let order = near.order in
    let to = near.to in
    rw (to_z-of_z span_fits, to_z-of_z low_fits, c.ends_of-left.ensures.low) (omega (arith, ints, order, to))

pub offset-last-requires-clause-from : goal.offset-last-requires-clause-from
offset-last-requires-clause-from c =
    let xs = c.args.terms.now in
    let ds = c.args.store.now.doms in
    let k = c.loop-term.term-index in
    let near = near_at ds c.args.span.low c.args.span.high xs k c.loop-term-test.true c.requires.terms c.doms.ensures.store.domains c.requires.span c.requires.narrow in
    let span_fits : SFits w32 c.args.span.low = search rules in
    let low_fits : SFits w32 c.ends_of-left.result.low = search rules in
    let high_fits : SFits w32 c.ends_of-left.result.high = search rules in
    let from = near.from in
    let order = near.order in
    rw (to_z-of_z span_fits, to_z-of_z high_fits, c.ends_of-left.ensures.high) (omega (arith, ints, from, order))

pub offset-last-requires-clause-to : goal.offset-last-requires-clause-to
offset-last-requires-clause-to c =
    let xs = c.args.terms.now in
    let ds = c.args.store.now.doms in
    let k = c.loop-term.term-index in
    let near = near_at ds c.args.span.low c.args.span.high xs k c.loop-term-test.true c.requires.terms c.doms.ensures.store.domains c.requires.span c.requires.narrow in
    let span_fits : SFits w32 c.args.span.low = search rules in
    let low_fits : SFits w32 c.ends_of-left.result.low = search rules in
    let high_fits : SFits w32 c.ends_of-left.result.high = search rules in
    rw (to_z-of_z span_fits, to_z-of_z high_fits, c.ends_of-left.ensures.high) near.to

pub loop-term-preserved : goal.loop-term-preserved
loop-term-preserved c =
    let xs = c.args.terms.now in
    let ds = c.args.store.now.doms in
    let k = c.loop-term.term-index in
    let span_fits : SFits w32 c.args.span.low = search rules in
    let low_fits : SFits w32 c.ends_of-left.result.low = search rules in
    let high_fits : SFits w32 c.ends_of-left.result.high = search rules in
    let test = c.loop-term-test.true in
    let first : least (term_set ds (get_or xs k (Num (pos 0)))) ≡ (c.args.span.low +ℤ pos c.offset-first.result) = rw (to_z-of_z span_fits, to_z-of_z low_fits, c.ends_of-left.ensures.low) at c.offset-first.ensures.at in
    let last : greatest (term_set ds (get_or xs k (Num (pos 0)))) ≡ (c.args.span.low +ℤ pos c.offset-last.result) = rw (to_z-of_z span_fits, to_z-of_z high_fits, c.ends_of-left.ensures.high) at c.offset-last.ensures.at in
    record {
      begins = counts_more (λ (t : Term). least (term_set ds t)) xs k c.args.span.low c.loop-term.begins c.offset-first.result test c.offset-first.ensures.below first c.loop-term.invariant.begins;
      ends = counts_more (λ (t : Term). greatest (term_set ds t)) xs k c.args.span.low c.loop-term.ends c.offset-last.result test c.offset-last.ensures.below last c.loop-term.invariant.ends;
      opens = elim c.if-first-last.branch [
        | then-first-last w ↦ rw w.opens-is (opens_more ds xs k c.args.span.low c.loop-term.opens c.offset-first.result test c.offset-first.ensures.below first c.loop-term.invariant.opens)
        | else-first-last w ↦ (
            let same : c.offset-first.result ≡ c.offset-last.result = search rules in
            rw w.opens-is (opens_kept ds xs k c.args.span.low c.loop-term.opens test (first ∙ ap (λ (n : ℕ). c.args.span.low +ℤ pos n) same ∙ sym last) c.loop-term.invariant.opens))
      ];
    }
