use Rattle.std.proofs.Common.{◌∙◌, ap, rules, List, ◌++◌, refl, sym}
use Rattle.std.proofs.lemmas.Bool.{false≢true}
use Rattle.fz_cert.specs.Steps.{line_of}
use Rattle.fz_refutes.specs.Texts.{comment, line_text}
use Rattle.std.specs.Prelude.{codes, ℕ}
use Rattle.fz_cert.proofs.Reading.{one_read, all_read, when_taken, bytes_same}
use Rattle.fz_cert.proofs.Unread.{refused, tree_of, none_guessed, none_behind, none_taken, rest_of_tree, ends}
use Rattle.fz_cert.proofs.tree.is_tree.Goals as goal

pub lines-preserved : goal.lines-preserved
lines-preserved c =
    let printed = c.deref.ensures.value ∙ c.in_ok-push_step.ensures ∙ ap (λ (t : List ℕ). t ++ comment (line_text (line_of c.in-Some.step))) c.clear.ensures.items in
    let taken = when_taken c.args.model.now c.args.head.now c.in-Some.step c.in_ok-take.field-0 c.lines.walk c.take.new.walk c.in_ok-take.ensures.taken c.if-not-branch.false in
    record {
      read = one_read c.args.model.now c.args.head.now c.args.walk.now c.lines.walk c.take.new.walk c.args.text.now c.lines.rest.now c.in-Some-behind.later.now c.deref.result.now (line_of c.in-Some.step) c.lines.invariant.read
          printed c.in-Some-behind.ensures.some taken;
      unread = λ tree. rest_of_tree c.args.model.now c.args.head.now c.lines.walk c.take.new.walk c.lines.rest.now c.deref.result.now c.in-Some-behind.later.now c.in-Some.step c.variables.ensures.kept
          (λ none. false≢true (c.lines-test.ensures.1 none)) (c.lines.invariant.unread tree) c.in-Some.ensures printed c.in-Some-behind.ensures.some taken;
      room = c.take.ensures.room;
      length = c.in_ok-take.ensures.length;
    }

pub returns-in_default : goal.returns-in_default
returns-in_default c = refused c.args.model.now c.args.head.now c.args.walk.now c.args.text.now
    (λ tree. none_guessed c.args.model.now c.args.head.now c.lines.walk c.lines.rest.now c.variables.ensures.kept (λ none. false≢true (c.lines-test.ensures.1 none)) (c.lines.invariant.unread tree) c.in_default.ensures)

pub returns-in_default-behind : goal.returns-in_default-behind
returns-in_default-behind c = refused c.args.model.now c.args.head.now c.args.walk.now c.args.text.now
    (λ tree. none_behind c.args.model.now c.args.head.now c.lines.walk c.lines.rest.now c.deref.result.now c.in-Some.step c.variables.ensures.kept (λ none. false≢true (c.lines-test.ensures.1 none)) (c.lines.invariant.unread tree) c.in-Some.ensures
    (c.deref.ensures.value ∙ c.in_ok-push_step.ensures ∙ ap (λ (t : List ℕ). t ++ comment (line_text (line_of c.in-Some.step))) c.clear.ensures.items) c.in_default-behind.ensures.none)

pub returns-then-not-branch : goal.returns-then-not-branch
returns-then-not-branch c = refused c.args.model.now c.args.head.now c.args.walk.now c.args.text.now
    (λ tree. none_taken c.args.model.now c.args.head.now c.lines.walk c.take.new.walk c.lines.rest.now c.in-Some.step c.in_ok-take.field-0 c.variables.ensures.kept (λ none. false≢true (c.lines-test.ensures.1 none)) (c.lines.invariant.unread tree) c.in-Some.ensures
    c.in_ok-take.ensures.taken c.if-not-branch.true)

pub returns : goal.returns
returns c = (
  (λ yes. all_read c.args.model.now c.args.head.now c.args.walk.now c.lines.walk c.args.text.now c.lines.rest.now (comment (codes "end")) c.lines.invariant.read (c.lines-test.ensures.0 refl) (search rules)),
  (λ found. c.eq.ensures ∙ bytes_same c.lines.rest.now c.as_slice.result.now
      (ends c.args.model.now c.args.head.now c.lines.walk c.lines.rest.now (c.lines-test.ensures.0 refl) (c.lines.invariant.unread (tree_of c.args.model.now c.args.head.now c.args.walk.now c.args.text.now found)) ∙ sym c.as_slice.ensures)),
)
