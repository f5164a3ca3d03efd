use Rattle.fzjoin.proofs.prepare.prepare_text.Goals as goal

pub returns-in-Ok-Err-clause-prepared : goal.returns-in-Ok-Err-clause-prepared
returns-in-Ok-Err-clause-prepared g c = λ file texts read. record {
  text = c.args.text.now;
  read = read;
  refused = rw c.in-Ok-Err.field-0-is at c.in-Ok-Err.ensures;
}
