use Rattle.std.proofs.Common.{inl, inr, rules}
use Rattle.std.proofs.Math.Facts.{to_z-of_z}
use mir.Val.{SFits}
use mir.Syntax.{w32}
use Rattle.fz_dom.proofs.window.single.Goals as goal

pub returns-clause-numbers : goal.returns-clause-numbers
returns-clause-numbers c = λ x.
    let fits : SFits w32 c.args.number = search rules in
    let none = rw (← c.none.ensures.base) at c.none.ensures.numbers in
    let more = rw (to_z-of_z fits) at c.with.ensures.numbers in
    rw c.with.ensures.base (
      λ m. elim ((more x).0 m) [ inl is ↦ absurd (none x is) | inr same ↦ same ],
      λ same. (more x).1 (inr same),
    )
