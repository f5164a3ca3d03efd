use Rattle.std.proofs.Common.{inl, inr, sym, ◌∙◌}
use Rattle.std.proofs.lemmas.Bool.{false≢true}
use Rattle.fzcheck.proofs.run.judge_text.Goals as goal

pub returns-then-text-gt-OUTPUT_LIMIT-clause-judges : goal.returns-then-text-gt-OUTPUT_LIMIT-clause-judges
returns-then-text-gt-OUTPUT_LIMIT-clause-judges c = λ file read. record { output = c.args.text.now; read = read; fails = inl c.if-text-gt-OUTPUT_LIMIT.true }

pub returns-in-Ok-true-clause-judges : goal.returns-in-Ok-true-clause-judges
returns-in-Ok-true-clause-judges c = λ file read. record {
  output = c.args.text.now;
  read = read;
  short = c.if-text-gt-OUTPUT_LIMIT.false;
  shows = c.in-Ok-true.ensures.shows c.in-Ok-true.field-0-test;
}

pub returns-in-Ok-false-clause-judges : goal.returns-in-Ok-false-clause-judges
returns-in-Ok-false-clause-judges c = λ file read. record {
  output = c.args.text.now;
  read = read;
  fails = inr (λ proof. false≢true (sym c.in-Ok-false.field-0-test ∙ c.in-Ok-false.ensures.proves.1 proof));
}
