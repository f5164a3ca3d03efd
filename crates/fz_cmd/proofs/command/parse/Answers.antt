use Rattle.std.proofs.Common.{◌≡◌, true, map, refl, string_bytes}
use Rattle.clap.specs.Words.{app_of, is_simple, is_simple_and_free}
use Rattle.fz_cmd.specs.Command.{fzn_app}
use Rattle.fz_cmd.proofs.Parses.{matches_as, fails_as}
use Rattle.fz_cmd.proofs.command.parse.Goals as goal

is_free : is_simple_and_free fzn_app ≡ true
is_free = refl

simple : is_simple fzn_app ≡ true
simple = refl

pub returns-clause-ok : goal.returns-clause-ok
returns-clause-ok c =
    matches_as (app_of c.in_ok-command.command) fzn_app (map string_bytes c.args.words.now) c.try_get_matches_from.result
    c.in_ok-command.ensures simple c.try_get_matches_from.ensures.matches

pub returns-clause-exact : goal.returns-clause-exact
returns-clause-exact c =
    fails_as (app_of c.in_ok-command.command) fzn_app (map string_bytes c.args.words.now) c.try_get_matches_from.result
    c.in_ok-command.ensures is_free c.try_get_matches_from.ensures.kinds
