use Rattle.std.proofs.Common.{pos, ◌∙◌, arith, length}
use Rattle.std.proofs.lemmas.Option.{slice_get-get_or}
use Rattle.fz_sets.proofs.Lists.{all_at}
use Rattle.fz_spec.specs.declared.term.Term.TheVariants.{Num}
use Rattle.fz_strength.specs.Domains.{IsTermOf}
use Rattle.fz_regular.proofs.Layers.{alike_self, alike_twice, row_alike}
use Rattle.fz_regular.proofs.Filling.{left_more, left_all}
use Rattle.fz_regular.proofs.supports.symbols_of.Goals as goal

pub loop-place-init : goal.loop-place-init
loop-place-init c = record {
  alike = alike_self c.in_ok-values.values;
  left = λ i k below. absurd (omega (arith, below));
}

pub fill-requires : goal.fill-requires
fill-requires c =
    let xs = c.args.terms.now in
    let k = c.loop-place.place in
    let at = slice_get-get_or xs k (Num (pos 0)) c.loop-place-test.true in
    let same = c.loop-place.invariant.alike.width in
    let wide = c.in_ok-values.ensures.width in
    let few = c.symbols.ensures.bound in
    record {
      term = all_at (IsTermOf (length c.args.store.now.doms)) xs k _ c.requires at;
      row = row_alike c.in_ok-values.values c.loop-place.values k c.loop-place.invariant.alike (c.in_ok-values.ensures.rows k c.loop-place-test.true);
      width = omega (arith, same, wide, few);
    }

pub loop-place-preserved : goal.loop-place-preserved
loop-place-preserved c =
    let xs = c.args.terms.now in
    let k = c.loop-place.place in
    let at = slice_get-get_or xs k (Num (pos 0)) c.loop-place-test.true in
    let new = c.fill.new.values in
    record {
      alike = alike_twice c.in_ok-values.values c.loop-place.values new c.loop-place.invariant.alike (record { width = c.fill.ensures.width; size = c.fill.ensures.size });
      left = left_more xs c.args.store.now.doms c.loop-place.values new k _ at c.fill.ensures.width c.fill.ensures.row c.fill.ensures.others c.loop-place.invariant.left;
    }

pub returns-clause-rows : goal.returns-clause-rows
returns-clause-rows c = λ i inside. row_alike c.in_ok-values.values c.loop-place.values i c.loop-place.invariant.alike (c.in_ok-values.ensures.rows i inside)

pub returns-clause-left : goal.returns-clause-left
returns-clause-left c =
    let end = c.loop-place-test.false in
    left_all c.args.automaton.now c.args.terms.now c.args.store.now.doms c.loop-place.values c.symbols.result c.loop-place.place (c.loop-place.invariant.alike.width ∙ c.in_ok-values.ensures.width)
    c.symbols.ensures.symbols (omega (arith, end)) c.loop-place.invariant.left
