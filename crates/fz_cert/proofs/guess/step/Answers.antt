use Rattle.std.proofs.Common.{◌∙◌, sym}
use Rattle.fz_cert.proofs.Guessing.{front_of, none_of, empty_guessed, worse_guessed, failing_guessed, split_guessed, some_kind}
use Rattle.fz_cert.proofs.guess.step.Goals as goal

pub returns-then-is_some : goal.returns-then-is_some
returns-then-is_some c = λ line rest words is.
    let found = front_of c.behind.result _ (sym c.is_some.ensures ∙ c.if-is_some.true) c.behind.ensures.some in
    empty_guessed line rest found.0.now c.args.text.now found.1 is

pub returns-then-is_some-2 : goal.returns-then-is_some-2
returns-then-is_some-2 c = λ line rest words is.
    let found = front_of c.behind-2.result _ (sym c.is_some-2.ensures ∙ c.if-is_some-2.true) c.behind-2.ensures.some in
    worse_guessed line rest found.0.now c.args.text.now found.1 is

pub returns-in-Some : goal.returns-in-Some
returns-in-Some c = λ line rest words is. failing_guessed line rest c.in-Some.rest.now c.args.text.now c.failing.result words c.in-Some.ensures.some is c.failing.ensures

pub returns-in_default-behind : goal.returns-in_default-behind
returns-in_default-behind c = λ line rest words is. some_kind line rest c.args.text.now is
    (none_of c.behind.result _ (sym c.is_some.ensures ∙ c.if-is_some.false) c.behind.ensures.none)
    (none_of c.behind-2.result _ (sym c.is_some-2.ensures ∙ c.if-is_some-2.false) c.behind-2.ensures.none)
    c.in_default.ensures.none
    c.in_default-behind.ensures.none

pub returns : goal.returns
returns c = λ line rest words is. split_guessed line rest c.in-Some-behind.rest.now c.args.text.now c.split.result words c.in-Some-behind.ensures.some is c.split.ensures
