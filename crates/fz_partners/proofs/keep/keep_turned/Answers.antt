use Rattle.fz_prop.proofs.Steps.{same_shrinks}
use Rattle.fz_partners.proofs.Partners.{line_of_many}
use Rattle.fz_partners.proofs.keep.keep_turned.Goals as goal

pub returns-then-not-are_few : goal.returns-then-not-are_few
returns-then-not-are_few c = record {
  shrinks = same_shrinks c.args.store.now;
  correct = λ a truth within. within;
  answer = line_of_many c.args.equation c.args.store.now.doms (λ few. absurd (cc (rw c.if-not-are_few.true at (c.are_few.ensures.1 few)))) c.requires.first c.requires.second;
}
