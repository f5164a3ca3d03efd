use Rattle.std.proofs.Common.{rules, w32}
use Rattle.std.proofs.Math.Facts.{to_z-of_z}
use mir.Val.{SFits}
use Rattle.fz_strength.specs.Sayings.{truth_of, line_of}
use Rattle.fz_prop.specs.Answers.{Narrows}
use Rattle.fz_partners.specs.Equations.{EquationLine, EquationTruth, parts_saying, with_nothing}
use Rattle.fz_partners.proofs.Turning.{TwoLine, TwoTruth, narrows_same, two_same}
use Rattle.fz_partners.proofs.partnered_sum.PartneredSumPropagator.propagate.Goals.{in-Two, in-Three}
use Rattle.fz_partners.proofs.partnered_sum.PartneredSumPropagator.propagate.Goals as goal

pub returns : goal.returns
returns c =
    let n = c.self.inside.number in
    let fits : SFits w32 n = search rules in
    let says = parts_saying c.self.inside.parts n in
    let narrows : Narrows (truth_of says) (line_of says) c.keep_partners.result c.args.store.now c.keep_partners.new.store = elim c.match-self.branch [
      | in-Two w ↦
          let p = w.in-Two.first in
          let q = w.in-Two.second in
          rw w.in-Two.is (narrows_same (EquationTruth (with_nothing p q n)) (TwoTruth p q n) (EquationLine (with_nothing p q n)) (TwoLine p q n) c.keep_partners.result c.args.store.now c.keep_partners.new.store
          (two_same p q n) (rw (w.equation-is, w.of_two-equation.ensures, to_z-of_z fits) at c.keep_partners.ensures))
      | in-Three w ↦ rw w.in-Three.is (rw (w.equation-is, to_z-of_z fits) at c.keep_partners.ensures)
    ] in
    rw (← c.self.view_is) narrows
