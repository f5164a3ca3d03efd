use Rattle.std.proofs.Common.{◌≡◌, ◌∙◌, Some, None, sym, ap, codes, is_some, rules}
use Rattle.fz_join.specs.Machine.{after}
use Rattle.fz_join.proofs.Prefixes.{both_after, none_after}
use Rattle.fz_join.proofs.machine.is_line_of.Goals as goal

pub returns-in-Some : goal.returns-in-Some
returns-in-Some c =
    let named : after c.args.output.now.name c.args.line.now ≡ Some c.in-Some.rest.now = cc (c.in-Some.ensures, c.as_bytes.ensures.value, c.as_str.ensures, c.name.ensures) in
    let some : c.is_some.result ≡ is_some (after (codes " = ") c.in-Some.rest.now) = search rules in
    some ∙ ap is_some (sym (both_after c.args.output.now.name (codes " = ") c.args.line.now c.in-Some.rest.now named))

pub returns-in-None : goal.returns-in-None
returns-in-None c =
    let other : after c.args.output.now.name c.args.line.now ≡ None = cc (c.in-None.ensures, c.as_bytes.ensures.value, c.as_str.ensures, c.name.ensures) in
    ap is_some (sym (none_after c.args.output.now.name (codes " = ") c.args.line.now other))
