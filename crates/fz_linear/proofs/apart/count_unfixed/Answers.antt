use Rattle.std.proofs.Common.{◌+◌, ◌∙◌, ap, add-one, drop, ℕ}
use Rattle.std.proofs.lemmas.List.{take_rest}
use Rattle.fz_linear.proofs.Gaps.{two_unfixed}
use Rattle.fz_linear.proofs.apart.count_unfixed.Goals as goal

pub returns-else-first_unfixed-behind : goal.returns-else-first_unfixed-behind
returns-else-first_unfixed-behind c =
    let ts = c.args.terms.now in
    let i = c.first_unfixed-first.result in
    let behind = take_rest ts (i + 1) ∙ ap (λ (n : ℕ). drop n ts) (add-one i) in
    two_unfixed ts _ i c.first_unfixed.result c.args.store.now.doms behind c.first_unfixed-first.ensures.within c.if-first-terms.false c.first_unfixed-first.ensures.first
    c.first_unfixed.ensures.within c.if-first_unfixed-behind.false c.first_unfixed.ensures.first
