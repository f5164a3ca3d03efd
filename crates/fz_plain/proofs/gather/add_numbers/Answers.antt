use Rattle.std.proofs.Common.{◌≡◌, ◌<◌, ◌≤◌, ◌∙◌, ◌++◌, ◌∷◌, [], sym, pos, take, get_or, length, arith, rules, to_z, of_z, w32}
use Rattle.std.proofs.lemmas.List.{take_more, take_all, length-take}
use Rattle.fz_spec.specs.declared.term.Term.TheVariants.{Num}
use Rattle.fz_plain.specs.Entries.{AreNumbersAdded}
use Rattle.fz_plain.proofs.Gathered.{numbers_none, numbers_here, numbers_other}
use Rattle.fz_plain.proofs.gather.add_numbers.Goals.{in-Num+in_ok-push, in_default}
use Rattle.fz_plain.proofs.gather.add_numbers.Goals as goal

pub loop-place-init : goal.loop-place-init
loop-place-init c = numbers_none c.args.sum.now.factors.items c.args.sum.now.terms.items c.requires.sum

pub loop-place-preserved : goal.loop-place-preserved
loop-place-preserved c =
    let ks = c.args.factors.now in
    let ts = c.args.terms.now in
    let i = c.loop-place.place in
    let within : i < length ts = search rules in
    let same_size : length ks ≡ length ts = c.requires.size in
    let inside : i < length ks = omega (arith, within, same_size) in
    let sizes : length (take i ks) ≡ length (take i ts) = length-take i ks ∙ omega (arith, within, inside) ∙ sym (length-take i ts) in
    let k = get_or ks i (pos 0) in
    let ls = c.args.sum.now.factors.items in
    let us = c.args.sum.now.terms.items in
    let ms = c.loop-place.sum.factors.items in
    let ws = c.loop-place.sum.terms.items in
    let is : AreNumbersAdded (take i ks) (take i ts) ls us ms ws = c.loop-place.invariant in
    let t = get_or ts i (Num (pos 0)) in
    rw (take_more ks i (pos 0) inside, take_more ts i (Num (pos 0)) within)
    (elim c.match-term.branch [
      | in-Num+in_ok-push w ↦ (
          let read : to_z w32 (of_z w32 k) ≡ k = search rules in
          let factors : w.push.new.sum.factors.items ≡ ms ++ k ∷ [] = search rules in
          let terms : w.push.new.sum.terms.items ≡ ws ++ t ∷ [] = search rules in
          rw (w.sum-is, factors, terms) (numbers_here (take i ks) (take i ts) k w.in-Num.field-0 t ls us ms ws sizes w.in-Num.is is))
      | in_default w ↦ rw w.sum-is (numbers_other (take i ks) (take i ts) k t ls us ms ws sizes w.in_default.not-Num is)
    ])

pub returns : goal.returns
returns c =
    let same_size : length c.args.factors.now ≡ length c.args.terms.now = c.requires.size in
    let past : length c.args.terms.now ≤ c.loop-place.place = search rules in
    rw (take_all c.loop-place.place c.args.factors.now (omega (arith, same_size, past)), take_all c.loop-place.place c.args.terms.now past) at c.loop-place.invariant
