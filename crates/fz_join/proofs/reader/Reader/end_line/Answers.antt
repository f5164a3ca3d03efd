use Rattle.std.proofs.Common.{◌≢◌, ◌∙◌, ℕ, List, [], ◌++◌, refl, ap, subst}
use Rattle.fz_shown.specs.Shown.{IsSolutionText, ShowsAll}
use Rattle.fz_join.specs.Tallies.{state_of}
use Rattle.fz_join.proofs.Checked.{knows_false, knows_more, known_false, line_is, out_is}
use Rattle.fz_join.proofs.reader.Reader.end_line.Goals as goal

pub returns-then-self-clause-knows : goal.returns-then-self-clause-knows
returns-then-self-clause-knows c =
    let m = c.args.model.now in
    let r = c.args.self.now in
    let t = state_of c.take_line.new.self in
    let found = c.with-self.ensures ∙ ap (λ (out : List ℕ). r.found.bytes ++ out) c.out.ensures in
    known_false m c.args.all r _ c.requires (line_is m c.args.all r t _ _ _ _ c.in_ok-take_line.ensures c.deref.ensures.value c.discard.ensures c.clear.ensures.items found) refl refl c.if-self.true refl

pub returns-then-branch-clause-knows : goal.returns-then-branch-clause-knows
returns-then-branch-clause-knows c =
    let m = c.args.model.now in
    let r = c.args.self.now in
    let t = state_of c.take_line.new.self in
    let found = c.with-self.ensures ∙ ap (λ (out : List ℕ). r.found.bytes ++ out) c.out.ensures in
    let other = subst (λ (out : List ℕ). (out ≢ []) × (IsSolutionText m out → ⊥)) (out_is m c.args.all r t _ c.in_ok-take_line.ensures c.deref.ensures.value) (c.in_ok-has_false_out.ensures.other c.if-branch.true) in
    knows_false m c.args.all r _ c.requires (line_is m c.args.all r t _ _ _ _ c.in_ok-take_line.ensures c.deref.ensures.value c.discard-then-branch.ensures c.clear.ensures.items found) refl c.if-self.false refl other refl

pub returns-clause-knows : goal.returns-clause-knows
returns-clause-knows c =
    let m = c.args.model.now in
    let r = c.args.self.now in
    let t = state_of c.take_line.new.self in
    let found = c.with-self.ensures ∙ ap (λ (out : List ℕ). r.found.bytes ++ out) c.out.ensures in
    let made = out_is m c.args.all r t _ c.in_ok-take_line.ensures c.deref.ensures.value in
    let sound = subst (λ (out : List ℕ). out ≢ [] → ShowsAll m → IsSolutionText m out) made (c.in_ok-has_false_out.ensures.sound c.if-branch.false) in
    let printed = c.with-self-2.ensures ∙ ap (λ (out : List ℕ). r.printed.bytes ++ out) (c.out-2.ensures ∙ made) in
    knows_more m c.args.all r _ c.requires (line_is m c.args.all r t _ _ _ _ c.in_ok-take_line.ensures c.deref.ensures.value c.in_ok-drain.ensures.drained c.clear.ensures.items found) refl refl c.if-self.false sound printed

pub returns-clause-text : goal.returns-clause-text
returns-clause-text c = record {
  more = (state_of c.take_line.new.self).out;
  text = c.in_ok-drain.ensures.text;
  printed = c.with-self-2.ensures ∙ ap (λ (out : List ℕ). c.args.self.now.printed.bytes ++ out) c.out-2.ensures;
}
