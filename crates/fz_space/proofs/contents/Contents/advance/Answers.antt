use Rattle.std.proofs.Common.{◌≡◌, ◌∙◌, ◌++◌, ℕ, List, ap, sym, subst, length}
use Rattle.std.specs.Prelude.{take, drop}
use Rattle.std.specs.Arc.{arc_value}
use Rattle.std.proofs.Math.Seq.{take-append_seam}
use Rattle.fz_prop.specs.declared.kept.Kept.{Kept}
use Rattle.fz_prop.specs.Told.{AreTold}
use Rattle.fz_engine.specs.Networks.{Networked}
use Rattle.fz_engine.specs.Runs.{IsAlive}
use Rattle.fz_space.proofs.contents.Contents.advance.Goals as goal

pub invariant_of-self : goal.invariant_of-self
invariant_of-self c = (
  λ alive. (
    subst (λ (n : Networked). IsAlive n c.run_next.new.agenda.states c.run_next.new.store) c.deref.ensures (c.run_next.ensures.alive alive),
    c.run_next.ensures.front c.self.inside.front (λ before. (c.self.invariant.0 before).1) alive,
    (let kept = c.run_next.new.kept in
        let all = kept ++ drop (length kept) c.self.inside.kept.items in
        let same : take c.self.inside.kept.len all ≡ kept = ap (λ (n : ℕ). take n all) (sym (c.run_next.auto.kept ∙ c.deref_mut.ensures.len)) ∙ take-append_seam kept (drop (length kept) c.self.inside.kept.items) in
        subst (λ (l : List Kept). AreTold (arc_value c.self.inside.network).sayings l c.run_next.new.store.doms) (sym same)
        (subst (λ (n : Networked). AreTold n.sayings kept c.run_next.new.store.doms) c.deref.ensures (c.run_next.ensures.told alive))),
  ),
  c.run_next.ensures.settled c.self.inside.settled c.self.invariant.1,
)
