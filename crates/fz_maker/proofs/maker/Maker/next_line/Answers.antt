use Rattle.std.proofs.Common.{◌≡◌, ◌∙◌, sym, subst, ap, refl, List, ◌++◌, codes}
use Rattle.std.specs.Prelude.{ℕ}
use Rattle.fz_cert.specs.Steps.{line_of}
use Rattle.fz_refutes.specs.Texts.{comment, head_text, line_text}
use Rattle.fz_maker.specs.declared.maker.Stage.{Stage}
use Rattle.fz_maker.specs.declared.maker.Stage.TheVariants as stages
use Rattle.fz_maker.specs.Making.{AreKept}
use Rattle.fz_maker.proofs.Stages.{making, boxes_made, first_written, head_written, end_written, step_written, as_written}
use Rattle.fz_maker.proofs.maker.Maker.next_line.Goals as goal
use Rattle.fz_maker.proofs.maker.Maker.next_line.Goals.{in-First+in_ok-extend_from_slice-in-First, in-Head+in_ok-push_head-in-Head, in-Tree+in_ok-extend_from_slice-in-Tree, in-Tree-2+in_ok-step-in-Tree-2+in_ok-push_step-in-Tree-2}

pub invariant_of-self-in-Tree-2 : goal.invariant_of-self-in-Tree-2
invariant_of-self-in-Tree-2 c =
    let m = c.self.inside.model.now in
    let walk = c.self.inside.walk in
    let stage : c.self.inside.stage ≡ stages.Tree = cc (c.replace-stage.ensures.value, c.in-Tree.is) in
    record {
      is_head = c.self.invariant.is_head;
      best = c.self.invariant.best;
      boxes = boxes_made m c.self.inside.head (line_of c.in_ok-step-in-Tree-2.step) walk c.make.new.walk
          (subst (λ (s : Stage). AreKept s m.variables walk) stage c.self.invariant.boxes) c.in_ok-step-in-Tree-2.ensures.made;
      room = c.make.ensures.room;
    }

pub returns-clause-some : goal.returns-clause-some
returns-clause-some c =
    let m = c.self.inside.model.now in
    let head = c.self.inside.head in
    let walk = c.self.inside.walk in
    elim c.match-stage.branch [
      | in-First+in_ok-extend_from_slice-in-First w ↦
          let stage : c.self.inside.stage ≡ stages.First = cc (c.replace-stage.ensures.value, w.in-First.is) in
          let piece : List ℕ = comment (codes "fzcert 1") in
          let line : c.match-stage.line.items ≡ piece =
          rw (w.line-is) (w.in_ok-extend_from_slice-in-First.ensures.items ∙ ap (λ (t : List ℕ). t ++ codes "%c fzcert 1\n") c.new-line.ensures.items) in
          as_written c.match-stage.line.items piece c.args.self.now (making m head stages.First walk) c.match-stage.self (making m head stages.Head walk)
          line (sym c.self.view_is ∙ ap (λ (s : Stage). making m head s walk) stage) w.self-is (first_written m head walk piece refl)
      | in-Head+in_ok-push_head-in-Head w ↦
          let stage : c.self.inside.stage ≡ stages.Head = cc (c.replace-stage.ensures.value, w.in-Head.is) in
          let piece : List ℕ = comment (head_text head) in
          let line : c.match-stage.line.items ≡ piece = rw (w.line-is) (w.in_ok-push_head-in-Head.ensures ∙ ap (λ (t : List ℕ). t ++ piece) c.new-line.ensures.items) in
          as_written c.match-stage.line.items piece c.args.self.now (making m head stages.Head walk) c.match-stage.self (making m head stages.Tree walk)
          line (sym c.self.view_is ∙ ap (λ (s : Stage). making m head s walk) stage) w.self-is (head_written m head walk piece refl)
      | in-Tree+in_ok-extend_from_slice-in-Tree w ↦
          let stage : c.self.inside.stage ≡ stages.Tree = cc (c.replace-stage.ensures.value, w.in-Tree.is) in
          let piece : List ℕ = comment (codes "end") in
          let line : c.match-stage.line.items ≡ piece =
          rw (w.line-is) (w.in_ok-extend_from_slice-in-Tree.ensures.items ∙ ap (λ (t : List ℕ). t ++ codes "%c end\n") c.new-line.ensures.items) in
          as_written c.match-stage.line.items piece c.args.self.now (making m head stages.Tree walk) c.match-stage.self (making m head stages.Done walk)
          line (sym c.self.view_is ∙ ap (λ (s : Stage). making m head s walk) stage) w.self-is (end_written m head walk piece (w.is_done.ensures.0 w.if-is_done.true) refl)
      | in-Tree-2+in_ok-step-in-Tree-2+in_ok-push_step-in-Tree-2 w ↦
          let stage : c.self.inside.stage ≡ stages.Tree = cc (c.replace-stage.ensures.value, w.in-Tree.is) in
          let step = line_of w.in_ok-step-in-Tree-2.step in
          let piece : List ℕ = comment (line_text step) in
          let line : c.match-stage.line.items ≡ piece = rw (w.line-is) (w.in_ok-push_step-in-Tree-2.ensures ∙ ap (λ (t : List ℕ). t ++ piece) c.new-line.ensures.items) in
          as_written c.match-stage.line.items piece c.args.self.now (making m head stages.Tree walk) c.match-stage.self (making m head stages.Tree w.make.new.walk)
          line (sym c.self.view_is ∙ ap (λ (s : Stage). making m head s walk) stage) w.self-is (step_written m head step walk w.make.new.walk piece w.in_ok-step-in-Tree-2.ensures.made refl)
    ]
