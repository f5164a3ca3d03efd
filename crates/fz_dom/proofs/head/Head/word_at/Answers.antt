use Rattle.std.proofs.Common.{◌≡◌, ◌<◌, arith, rules}
use Rattle.std.proofs.lemmas.Int.{ints}
use Rattle.fz_dom.proofs.Changes.{ends_in, inside}
use Rattle.fz_dom.proofs.Windows.{at_bits, at_none, at_plain}
use Rattle.fz_dom.proofs.head.Head.word_at.Goals as goal

pub returns-then-self-ne0 : goal.returns-then-self-ne0
returns-then-self-ne0 c =
    let h = c.args.self.now in
    let some : 0 < h.bits = (let t = c.if-self-ne0.true in omega arith) in
    at_bits h c.rebased.result c.args.base _ _ c.requires.whole some (search rules) (search rules) c.rebased.ensures

pub returns-then-self-eq0 : goal.returns-then-self-eq0
returns-then-self-eq0 c = at_none c.args.self.now c.args.base c.requires.whole (let t = c.if-self-eq0.true in omega arith)

pub window_of-requires-clause-order : goal.window_of-requires-clause-order
window_of-requires-clause-order c =
    let h = c.args.self.now in
    let some : 0 < h.size = (let t = c.if-self-eq0.false in omega arith) in
    let e = ends_in h c.requires.whole some in
    let i = inside h c.requires.whole h.low e.0 in
    let le = i.1 in
    omega (arith, ints)

pub returns : goal.returns
returns c =
    let h = c.args.self.now in
    let none : h.bits ≡ 0 = (let t = c.if-self-ne0.false in omega arith) in
    let some : 0 < h.size = (let t = c.if-self-eq0.false in omega arith) in
    at_plain h c.window_of.result c.args.base _ _ _ none some (search rules) (search rules) (search rules) c.window_of.ensures
