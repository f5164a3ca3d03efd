use Rattle.std.proofs.Common.{◌≡◌, ◌∙◌, ◌<◌, [], sym, inr, arith}
use Rattle.std.proofs.lemmas.Bool.Decides.{nat_tests}
use Rattle.fz_dom.specs.Heads.{head_set}
use Rattle.fz_dom.proofs.Kept.{seen, nil_of, small_ranges}
use Rattle.fz_dom.proofs.Windows.{word_is_narrow}
use Rattle.fz_dom.proofs.domain.Dom.is_interval.Goals as goal

pub returns-else-self-eq0-clause-several : goal.returns-else-self-eq0-clause-several
returns-else-self-eq0-clause-several c = λ t. inr (
    let h = c.self.inside.head in
    let rest = c.self.inside.rest.items in
    let d = c.args.self.now in
    let e : rest ≡ [] = nil_of rest (let t = c.if-not-is_empty.false in grind (arith, nat_tests)) in
    let g : head_set h ≡ d = sym (small_ranges h rest e) ∙ c.self.view_is in
    let some : 0 < h.bits = (let t = c.if-self-eq0.false in omega arith) in
    word_is_narrow h d (seen h rest d c.self.invariant c.self.view_is) g some)
