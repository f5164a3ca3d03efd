use Rattle.fzjoin.proofs.prepare.begin.Goals as goal

pub returns-in-Ok-Err-clause-prepared : goal.returns-in-Ok-Err-clause-prepared
returns-in-Ok-Err-clause-prepared c = λ f model read. record {
  model = c.args.model;
  text = c.args.text.now;
  read = record { model = model; parts = read; short = c.if-text-gt-PARTS_LIMIT.false };
  misplaced = rw c.in-Ok-Err.field-0-is at c.in-Ok-Err.ensures.refused;
}
