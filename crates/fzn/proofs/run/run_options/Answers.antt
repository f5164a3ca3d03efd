use Rattle.std.proofs.Common.{◌≡◌, None, Some}
use Rattle.fzn.proofs.Asking.{no_part}
use Rattle.fzn.proofs.Outcomes.{its_cause, not_usage, runs_generated, runs_read}
use Rattle.fzn.proofs.run.run_options.Goals as goal

pub run_generated-requires-clause-part : goal.run_generated-requires-clause-part
run_generated-requires-clause-part g c =
    let told = c.generate.ensures.generate in
    let is = c.in-Some.is in
    let asked : c.args.options.now.generate ≡ Some c.in-Some.items = cc in
    no_part c.args.options.now c.in-Some.items c.part.ensures.suits asked

pub returns-in-Some-clause-printed : goal.returns-in-Some-clause-printed
returns-in-Some-clause-printed g c =
    let told = c.generate.ensures.generate in
    let is = c.in-Some.is in
    let asked : c.args.options.now.generate ≡ Some c.in-Some.items = cc in
    runs_generated c.run_generated.result c.args.options.now c.in-Some.items _ _ _ asked c.run_generated.ensures.printed

pub returns-in-Some-clause-cause : goal.returns-in-Some-clause-cause
returns-in-Some-clause-cause g c = its_cause c.run_generated.result _ _ _ c.run_generated.ensures.cause

pub returns-in-Some-clause-used : goal.returns-in-Some-clause-used
returns-in-Some-clause-used g c = not_usage c.run_generated.result _ _ c.run_generated.ensures.cause

pub returns-in-None-clause-printed : goal.returns-in-None-clause-printed
returns-in-None-clause-printed g c =
    let told = c.generate.ensures.generate in
    let is = c.in-None.is in
    let asked : c.args.options.now.generate ≡ None = cc in
    runs_read c.run_file.result c.args.options.now _ _ _ asked c.run_file.ensures.printed
