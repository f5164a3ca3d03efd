use Rattle.fzjoin.proofs.prepare.join_of.Goals as goal

pub returns-in-Ok-None-clause-prepared : goal.returns-in-Ok-None-clause-prepared
returns-in-Ok-None-clause-prepared c = λ f read. record {
  model = c.args.model;
  parts = c.args.parts.items;
  read = read;
  of_model = c.requires.of_model;
  same = rw c.in-Ok-None.field-0-is at c.in-Ok-None.ensures.same;
}
