use Rattle.std.proofs.Common.{ap, subst, sym, ◌∙◌}
use Rattle.fz_maker.specs.Making.{HasRest, Making}
use Rattle.fz_maker.specs.Inside.{making_of}
use Rattle.fz_maker.proofs.Rests.{has_rest}
use Rattle.fz_maker.proofs.maker.Maker.law.Goals as goal

pub returns : goal.returns
returns c = λ sound.
    subst HasRest c.self.view_is
    (has_rest (making_of c.self.inside) c.self.inside.values.items c.variables.ensures.kept c.self.invariant (λ e. sound (ap (λ (k : Making). k.stage) (sym c.self.view_is) ∙ e)))
