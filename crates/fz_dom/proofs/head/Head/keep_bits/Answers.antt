use Rattle.std.proofs.Common.{arith, rules}
use Rattle.fz_dom.proofs.Changes.{same_bits, changed_bits}
use Rattle.fz_dom.proofs.head.Head.keep_bits.Goals as goal

pub returns-then-kept-self-clause-change : goal.returns-then-kept-self-clause-change
returns-then-kept-self-clause-change c = same_bits c.args.self.now c.args.kept c.requires.whole c.requires.bits (omega arith)

pub returns-clause-change : goal.returns-clause-change
returns-clause-change c =
    changed_bits c.args.self.now c.from_word.result c.args.kept c.requires.whole c.requires.bits (search rules) (search rules) (λ e. omega arith) (λ e. omega arith) c.requires.among
