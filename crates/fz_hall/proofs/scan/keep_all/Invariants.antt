use Rattle.std.proofs.Common.{◌≡◌, take}
use Rattle.std.specs.List.{AllByRecursion}
use Rattle.fz_spec.specs.declared.term.Term.{Term}
use Rattle.fz_dom.specs.Shape.{least}
use Rattle.fz_strength.specs.Domains.{term_set}
use Rattle.fz_hall.specs.Lefts.{AreSpreadFrom}
use Rattle.fz_hall.proofs.scan.keep_all.Given as goal

-- nothing changed, and none of the intervals so far has too many
abbrev pub invariant-loop-term : goal.invariant-loop-term
invariant-loop-term l = record {
  same : l.store ≡ l.initial.store;
  spread : AllByRecursion (λ (t : Term). AreSpreadFrom l.terms l.store.doms (least (term_set l.store.doms t))) (take l.term-index l.terms);
}
