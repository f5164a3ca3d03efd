use Rattle.std.proofs.Common.{arith, rules, ◌<◌, ◌≡◌}
use Rattle.fz_dom.specs.Places.{IsBit}
use Rattle.fz_dom.specs.Changes.{IsFromTo}
use Rattle.fz_dom.specs.Heads.{head_set}
use Rattle.fz_dom.proofs.Changes.{change_as, from_to_part, changed_plain}
use Rattle.fz_dom.proofs.head.Head.keep_part.Goals as goal

pub returns-then-self-ne0-clause-change : goal.returns-then-self-ne0-clause-change
returns-then-self-ne0-clause-change c =
    let h = c.args.self.now in
    let r = c.requires in
    let some : 0 < h.bits = (let t = c.if-self-ne0.true in omega arith) in
    change_as c.keep_bits.result (λ x. IsBit h.base c.common.result x) (λ x. IsFromTo c.args.low c.args.high x) (head_set h) (head_set c.keep_bits.new.self)
    (from_to_part h c.run_of-part.result c.common.result c.place.result c.place-then-self-ne0.result c.args.low c.args.high r.whole some
    (search rules) (search rules) c.run_of-part.ensures c.common.ensures) c.keep_bits.ensures.change

pub returns-clause-change : goal.returns-clause-change
returns-clause-change c =
    let h = c.args.self.now in
    let r = c.requires in
    let none : h.bits ≡ 0 = (let t = c.if-self-ne0.false in omega arith) in
    changed_plain h c.interval.result c.args.low c.args.high r.whole none r.some (search rules) r.from r.order r.to r.part
