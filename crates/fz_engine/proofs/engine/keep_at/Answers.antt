use Rattle.std.proofs.Common.{inl, inr, refl, ◌∙◌}
use Rattle.fz_prop.proofs.Lasting.{set_at}
use Rattle.fz_engine.proofs.engine.keep_at.Goals as goal

pub returns-then-slot-kept : goal.returns-then-slot-kept
returns-then-slot-kept c = λ k. elim (set_at c.args.kept.now c.args.slot k c.owned.result) [ inl same ↦ inl same | inr put ↦ inr (put.1 ∙ c.owned.ensures) ]

pub returns-else-slot-kept : goal.returns-else-slot-kept
returns-else-slot-kept c = λ k. inl refl
