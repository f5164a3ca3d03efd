use Rattle.std.proofs.Common.{◌≡◌, rules, arith, to_z, of_z, w32}
use Rattle.fz_strength.specs.Domains.{term_set}
use Rattle.fz_regular.proofs.Layers.{alike_self, alike_twice, row_alike}
use Rattle.fz_regular.proofs.Filling.{filled_more}
use Rattle.fz_regular.proofs.supports.fill.Goals as goal

pub loop-place-init : goal.loop-place-init
loop-place-init c = record {
  alike = alike_self c.args.values.now;
  filled = λ k below. absurd (omega (arith, below));
  others = λ i k other. ((λ h. h), (λ h. h));
}

pub set_word-requires-clause-row : goal.set_word-requires-clause-row
set_word-requires-clause-row c = row_alike c.args.values.now c.loop-place.values c.args.row c.loop-place.invariant.alike c.requires.row

pub loop-place-preserved : goal.loop-place-preserved
loop-place-preserved c =
    let old = c.loop-place.values in
    let new = c.set_word.new.self in
    let base = c.first_number.result in
    let kept : to_z w32 (of_z w32 base) ≡ base = search rules in
    record {
      alike = alike_twice c.args.values.now old new c.loop-place.invariant.alike (record { width = c.set_word.ensures.width; size = c.set_word.ensures.size });
      filled = filled_more old new c.args.row c.loop-place.place c.word_of-bits.result base (term_set c.args.store.now.doms c.args.term) c.first_number.ensures (rw kept at c.word_of-bits.ensures)
          c.set_word.ensures.here c.set_word.ensures.others c.loop-place.invariant.filled;
      others = λ i k other.
          let same = c.set_word.ensures.others i k (λ both. other both.0) in
          let was = c.loop-place.invariant.others i k other in
          ((λ h. was.0 (same.0 h)), (λ h. same.1 (was.1 h)));
    }

pub returns-clause-row : goal.returns-clause-row
returns-clause-row c = λ k inside. c.loop-place.invariant.filled k (let end = c.loop-place-test.false in omega (arith, end, inside))
