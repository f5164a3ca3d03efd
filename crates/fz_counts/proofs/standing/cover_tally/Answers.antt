use Rattle.std.proofs.Common.{arith, pos}
use Rattle.fz_spec.specs.declared.term.Term.TheVariants.{Num}
use Rattle.fz_counts.specs.Covers.{IsInside, MayCount}
use Rattle.fz_counts.proofs.Totals.{next_yes, next_no}
use Rattle.fz_counts.proofs.standing.cover_tally.Goals.{in-Outside, in-Mixed, in-Inside}
use Rattle.fz_counts.proofs.standing.cover_tally.Goals as goal

pub loop-term-preserved : goal.loop-term-preserved
loop-term-preserved c =
    let xs = c.args.terms.now in
    let ds = c.args.store.now.doms in
    let k = c.loop-term.term-index in
    let cover = c.args.cover in
    let f = c.loop-term.fewest in
    let m = c.loop-term.most in
    let within = c.loop-term-test.true in
    let had = c.loop-term.invariant in
    let few = c.loop-term.invariant.few in
    let many = c.loop-term.invariant.many in
    elim c.match-standing_of.branch [
      | in-Outside w ↦
          let stands = rw w.in-Outside.is at c.standing_of.ensures in
          rw (w.fewest-is, w.most-is)
          record {
            fewest = next_no (IsInside cover ds) xs k f (Num (pos 0)) within stands.0 had.fewest;
            most = next_no (MayCount cover ds) xs k m (Num (pos 0)) within (λ may. may stands.1) had.most;
            few = omega (arith, few);
            many = omega (arith, many);
          }
      | in-Mixed w ↦
          let stands = rw w.in-Mixed.is at c.standing_of.ensures in
          rw (w.fewest-is, w.most-is)
          record {
            fewest = next_no (IsInside cover ds) xs k f (Num (pos 0)) within stands.0 had.fewest;
            most = next_yes (MayCount cover ds) xs k m (Num (pos 0)) within stands.1 had.most;
            few = omega (arith, few);
            many = omega (arith, many);
          }
      | in-Inside w ↦
          let stands = rw w.in-Inside.is at c.standing_of.ensures in
          rw (w.fewest-is, w.most-is)
          record {
            fewest = next_yes (IsInside cover ds) xs k f (Num (pos 0)) within stands.0 had.fewest;
            most = next_yes (MayCount cover ds) xs k m (Num (pos 0)) within stands.1 had.most;
            few = omega (arith, few);
            many = omega (arith, many);
          }
    ]
