use Rattle.std.proofs.Common.{◌≡◌, take, fold, map}
use Rattle.clap.specs.Words.{app_of, with_rule}
use Rattle.fz_cmd.specs.Command.{rule_of_row}
use Rattle.fz_cmd.proofs.command.with_options.Given as goal

-- the options so far
abbrev pub invariant-loop-i : goal.invariant-loop-i
invariant-loop-i l = app_of l.command ≡ fold with_rule (app_of l.initial.command) (take l.i (map rule_of_row l.rows))
