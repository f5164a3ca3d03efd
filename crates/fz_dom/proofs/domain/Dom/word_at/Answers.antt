use Rattle.std.proofs.Common.{◌≡◌, ◌∙◌, ◌<◌, [], length, sym, arith, rules}
use Rattle.std.proofs.lemmas.Bool.Decides.{nat_tests}
use Rattle.fz_dom.specs.Heads.{head_set}
use Rattle.fz_dom.proofs.Kept.{small_whole, small_ranges, nil_of, wide_ranges, rest_of}
use Rattle.fz_dom.proofs.Windows.{word_as}
use Rattle.fz_dom.proofs.domain.Dom.word_at.Goals as goal

pub word_at-requires-clause-whole : goal.word_at-requires-clause-whole
word_at-requires-clause-whole c =
    let rest = c.self.inside.rest.items in
    let e : rest ≡ [] = nil_of rest (let t = c.if-is_empty.true in grind (arith, nat_tests)) in
    small_whole c.self.inside.head rest e c.self.invariant

pub returns-then-is_empty : goal.returns-then-is_empty
returns-then-is_empty c =
    let h = c.self.inside.head in
    let rest = c.self.inside.rest.items in
    let e : rest ≡ [] = nil_of rest (let t = c.if-is_empty.true in grind (arith, nat_tests)) in
    word_as c.word_at.result (head_set h) c.args.self.now c.args.base _ (sym (small_ranges h rest e) ∙ c.self.view_is) (search rules) c.word_at.ensures

pub word_of-requires-clause-ranges : goal.word_of-requires-clause-ranges
word_of-requires-clause-ranges c =
    let h = c.self.inside.head in
    let rest = c.self.inside.rest.items in
    let l : 0 < length rest = (let t = c.if-is_empty.false in grind (arith, nat_tests)) in
    rw c.as_slice.ensures (rest_of h rest c.self.invariant l).are_ranges

pub returns : goal.returns
returns c =
    let h = c.self.inside.head in
    let rest = c.self.inside.rest.items in
    let l : 0 < length rest = (let t = c.if-is_empty.false in grind (arith, nat_tests)) in
    word_as c.word_of.result c.as_slice.result.now c.args.self.now c.args.base _ (c.as_slice.ensures ∙ (sym (wide_ranges h rest l) ∙ c.self.view_is)) (search rules) c.word_of.ensures
