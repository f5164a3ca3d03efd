use Rattle.std.proofs.Common.{rules}
use Rattle.fz_dom.specs.Places.{IsBit}
use Rattle.fz_dom.specs.Changes.{IsFromTo}
use Rattle.fz_dom.specs.Heads.{head_set}
use Rattle.fz_dom.proofs.Changes.{change_as, from_to_rest}
use Rattle.fz_dom.proofs.head.Head.cut_bits.Goals as goal

pub returns-clause-change : goal.returns-clause-change
returns-clause-change c =
    let h = c.args.self.now in
    let r = c.requires in
    change_as c.keep_bits.result (λ x. IsBit h.base c.without.result x) (λ x. IsFromTo c.args.low c.args.high x → ⊥) (head_set h) (head_set c.keep_bits.new.self)
    (from_to_rest h c.run_of-part.result c.without.result c.place.result c.place-2.result c.args.low c.args.high r.whole r.bits
    (search rules) (search rules) c.run_of-part.ensures c.without.ensures) c.keep_bits.ensures.change
