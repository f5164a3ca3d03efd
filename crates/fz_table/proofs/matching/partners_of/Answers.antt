use Rattle.std.proofs.Common.{◌∙◌, ◌≤◌, ℕ, List, ap, sym, arith, rules, get_or, length}
use Rattle.std.proofs.Math.Facts.{to_z-of_z}
use Rattle.std.proofs.lemmas.List.{get_or_past}
use mir.Val.{SFits}
use mir.Syntax.{w32}
use Rattle.fz_table.proofs.PairWords.{partners_word, partners_nowhere}
use Rattle.fz_table.proofs.matching.partners_of.Goals as goal

pub returns-in_default : goal.returns-in_default
returns-in_default c =
    let fits : SFits w32 c.args.pairs.now.first = search rules in
    partners_nowhere c.args.pairs.now c.args.number (rw (to_z-of_z c.ranges.number, to_z-of_z fits) at c.in_default.ensures)

pub returns-in-Some-get : goal.returns-in-Some-get
returns-in-Some-get c =
    let fits : SFits w32 c.args.pairs.now.first = search rules in
    let place = c.in-Some.place in
    let at = rw (to_z-of_z c.ranges.number, to_z-of_z fits) at c.in-Some.ensures in
    let inside = c.in-Some-get.ensures.lookup.3 in
    partners_word c.args.pairs.now c.args.number place c.in-Some-get.word.now at.0 at.1 (inside.1 0 ∙ ap (λ (xs : List ℕ). get_or xs place 0) c.deref.ensures.value)

pub returns-in-None : goal.returns-in-None
returns-in-None c =
    let fits : SFits w32 c.args.pairs.now.first = search rules in
    let words = c.args.pairs.now.words.items in
    let place = c.in-Some.place in
    let at = rw (to_z-of_z c.ranges.number, to_z-of_z fits) at c.in-Some.ensures in
    let long = ap length c.deref.ensures.value in
    let past : length words ≤ place = omega (arith, long, c.in-None.ensures.lookup) in
    partners_word c.args.pairs.now c.args.number place 0 at.0 at.1 (sym (get_or_past words place 0 past))
