use Rattle.std.proofs.Common.{◌∙◌, sym}
use Rattle.fz_cert.specs.Steps.{line_of}
use Rattle.fz_maker.proofs.Stages.{first_length, made}
use Rattle.fz_maker.proofs.make.make.Goals as goal

pub first_fit-requires-clause-room : goal.first_fit-requires-clause-room
first_fit-requires-clause-room c = c.requires.room ∙ sym (first_length c.args.model.now.variables c.args.walk.now c.area.result.now c.area.ensures.0 c.area.ensures.1 c.requires.boxes)

pub returns-in_err-step-clause-room : goal.returns-in_err-step-clause-room
returns-in_err-step-clause-room c = c.first_fit.ensures.room ∙ first_length c.args.model.now.variables c.args.walk.now c.area.result.now c.area.ensures.0 c.area.ensures.1 c.requires.boxes

pub returns-in_err-go_on-clause-room : goal.returns-in_err-go_on-clause-room
returns-in_err-go_on-clause-room c = c.first_fit.ensures.room ∙ first_length c.args.model.now.variables c.args.walk.now c.area.result.now c.area.ensures.0 c.area.ensures.1 c.requires.boxes

pub returns-clause-room : goal.returns-clause-room
returns-clause-room c = c.first_fit.ensures.room ∙ first_length c.args.model.now.variables c.args.walk.now c.area.result.now c.area.ensures.0 c.area.ensures.1 c.requires.boxes

pub returns-clause-made : goal.returns-clause-made
returns-clause-made c =
    made c.args.model.now c.args.head.now (line_of c.in_ok-step.step) c.args.walk.now c.area.result.now c.area.ensures.0 c.go_on.new.walk c.area.ensures.1 c.first_fit.ensures.sets c.in_ok-step.ensures.fits c.in_ok-go_on.ensures
