use Rattle.std.specs.Prelude.{ℤ, pos}
use Rattle.std.proofs.lemmas.Result.{IfOk-weaker}
use Rattle.fz_sets.specs.Sets.{IsInSet}
use Rattle.fz_bits.specs.Windows.{IsBit}
use Rattle.fz_dom.specs.declared.change.Change.{Change}
use Rattle.fz_prop.specs.Stores.{IsTermChange}
use Rattle.fz_inverse.specs.Pointing.{CanPointBack}
use Rattle.fz_inverse.proofs.Keeping.{term_change_as}
use Rattle.fz_inverse.proofs.pointing.keep_back.Goals as goal

pub returns-then-others-le64-clause-change : goal.returns-then-others-le64-clause-change
returns-then-others-le64-clause-change c =
    let s = c.args.store.now in
    let u = c.keep_window.new.store in
    let t = c.args.term in
    let back = CanPointBack c.args.others.now s.doms c.args.place in
    let bits : ℤ → Type 0 = λ x. IsBit (pos 1) c.bits_left-bits.result x in
    IfOk-weaker c.keep_window.result (λ (r : Change). IsTermChange r t bits s u) (λ (r : Change). IsTermChange r t back s u)
    (λ r h. term_change_as r t bits back s u c.bits_left-bits.ensures h) c.keep_window.ensures.change

pub returns-clause-change : goal.returns-clause-change
returns-clause-change c =
    let s = c.args.store.now in
    let u = c.keep_in.new.store in
    let t = c.args.term in
    let back = CanPointBack c.args.others.now s.doms c.args.place in
    let kept : ℤ → Type 0 = λ x. IsInSet c.in_ok-numbers.numbers x in
    IfOk-weaker c.keep_in.result (λ (r : Change). IsTermChange r t kept s u) (λ (r : Change). IsTermChange r t back s u)
    (λ r h. term_change_as r t kept back s u c.in_ok-numbers.ensures h) c.keep_in.ensures.change
