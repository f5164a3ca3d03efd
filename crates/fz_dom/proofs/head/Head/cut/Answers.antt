use Rattle.std.proofs.Common.{◌≡◌, ◌∙◌, List, ℤ, ap, subst, rules}
use Rattle.fz_dom.specs.Changes.{IsChange, IsFromTo}
use Rattle.fz_dom.specs.Heads.{head_set}
use Rattle.fz_dom.proofs.Changes.{cut_as}
use Rattle.fz_dom.proofs.head.Head.cut.Goals as goal
use Rattle.fz_dom.proofs.head.Head.cut.Goals.{then-self-eq0, else-self-eq0}

pub returns-clause-change : goal.returns-clause-change
returns-clause-change c =
    let e : head_set c.if-self-eq0.self ≡ head_set c.args.self.now = elim c.if-self-eq0.branch [
      | then-self-eq0 w ↦ ap head_set w.self-is ∙ w.in_bits.ensures.same
      | else-self-eq0 w ↦ ap head_set w.self-is
    ] in
    subst (λ (d : List (ℤ × ℤ)). IsChange c.cut_bits.result (λ x. IsFromTo c.args.low c.args.high x → ⊥) d (head_set c.cut_bits.new.self)) e
    (cut_as c.cut_bits.result c.args.low c.args.high _ _ (head_set c.if-self-eq0.self) (head_set c.cut_bits.new.self) c.cut_bits.ensures.change (search rules) (search rules))
