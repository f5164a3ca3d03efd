use Rattle.std.proofs.Common.{◌∙◌, arith, rules}
use Rattle.fz_dom.proofs.Left.{left_word, left_plain, left_none}
use Rattle.fz_dom.proofs.range_iter.RangeIter.of_head.Goals as goal

pub returns-then-head-ne0 : goal.returns-then-head-ne0
returns-then-head-ne0 c = left_word c.args.head.now _ c.requires (let t = c.if-head-ne0.true in omega arith) (search rules)

pub returns-then-head-ne0-2 : goal.returns-then-head-ne0-2
returns-then-head-ne0-2 c =
    left_plain c.args.head.now _ _ _ (let t = c.if-head-ne0.false in omega arith) (let t = c.if-head-ne0-2.true in omega arith) (search rules) (search rules)

pub returns : goal.returns
returns c = c.of_list.ensures ∙ left_none c.args.head.now (let t = c.if-head-ne0.false in omega arith) (let t = c.if-head-ne0-2.false in omega arith)
