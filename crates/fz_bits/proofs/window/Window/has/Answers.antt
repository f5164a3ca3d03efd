use Rattle.std.proofs.Common.{◌≡◌, ◌<◌, arith}
use Rattle.std.specs.Prelude.{pos, ◌+ℤ◌}
use Rattle.std.proofs.lemmas.Bool.{false≢true}
use Rattle.std.proofs.lemmas.Int.{ints}
use Rattle.fz_bits.proofs.Windows.{bit_in, below_base, above_all}
use Rattle.fz_bits.proofs.window.Window.has.Goals as goal

pub returns-then-number-self : goal.returns-then-number-self
returns-then-number-self c = (
  λ t. absurd (false≢true t),
  λ m. absurd (below_base c.args.self.base c.args.number c.args.self.bits (let t = c.if-number-self.true in omega (arith, ints)) m),
)

pub returns-then-place-ge64 : goal.returns-then-place-ge64
returns-then-place-ge64 c = (
  λ t. absurd (false≢true t),
  λ m. absurd (above_all c.args.self.base c.args.number c.args.self.bits c.abs_diff-place.result (let t = c.if-number-self.false in omega (arith, ints)) (let t = c.if-place-ge64.true in omega arith) m),
)

pub returns : goal.returns
returns c =
    let e : c.args.number ≡ c.args.self.base +ℤ pos c.abs_diff-place.result = (let t = c.if-number-self.false in omega (arith, ints)) in
    let l : c.abs_diff-place.result < 64 = (let t = c.if-place-ge64.false in omega arith) in
    let m = bit_in c.args.self.base c.args.number c.args.self.bits c.abs_diff-place.result e l in
    let b = c.has_bit.ensures in
    (λ t. m.0 (b.0 t), λ i. b.1 (m.1 i))
