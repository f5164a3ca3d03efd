use Rattle.std.proofs.Common.{◌∙◌, ap, List, ◌++◌}
use Rattle.std.specs.Prelude.{ℕ, codes}
use Rattle.fz_refutes.specs.Texts.{comment, head_text, front_text}
use Rattle.fz_cert.proofs.Proving.{one_box, proved}
use Rattle.fz_cert.proofs.Unread.{lines_there, no_front}
use Rattle.fz_cert.proofs.checker.proves.Goals as goal

pub is_tree-requires : goal.is_tree-requires
is_tree-requires c = one_box c.args.model.now.variables c.in_ok-area.area c.new-walk.result c.in_ok-area.ensures c.new-walk.ensures

pub returns-in_default : goal.returns-in_default
returns-in_default c = no_front c.args.model.now c.args.head.now c.args.output.now c.deref.result.now
    (c.deref.ensures.value ∙ c.in_ok-push_front.ensures ∙ ap (λ (t : List ℕ). t ++ (front_text c.args.model.now c.args.head.now ++ (comment (codes "fzcert 1") ++ comment (head_text c.args.head.now)))) c.new-front.ensures.items)
    c.in_default.ensures.none

pub returns : goal.returns
returns c =
    let front = c.deref.ensures.value ∙ c.in_ok-push_front.ensures ∙ ap (λ (t : List ℕ). t ++ (front_text c.args.model.now c.args.head.now ++ (comment (codes "fzcert 1") ++ comment (head_text c.args.head.now)))) c.new-front.ensures.items in (
      (λ t. let found = c.in_ok-found.ensures.0 t in
          proved c.args.model.now c.args.head.now c.in_ok-area.area c.new-walk.result c.args.output.now c.deref.result.now c.in-Some.lines.now found.0 c.requires c.in_ok-area.ensures c.new-walk.ensures
          c.in-Some.ensures.some front found.1 found.2),
      (λ proof. c.in_ok-found.ensures.1 (lines_there c.args.model.now c.args.head.now c.in_ok-area.area c.new-walk.result c.args.output.now c.deref.result.now c.in-Some.lines.now proof front c.in-Some.ensures.some c.in_ok-area.ensures c.new-walk.ensures)),
    )
