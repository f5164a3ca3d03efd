use Rattle.std.proofs.Common.{sym, subst, length}
use Rattle.fz_strength.specs.VariableElements.{IsVariableElementLine}
use Rattle.fz_prop.specs.Stores.{Stored}
use Rattle.fz_element.proofs.Narrowing.{AreTermsOf, rested_answer}
use Rattle.fz_element.proofs.select_term.keep_variable_element.Goals as goal

pub returns-in-Same-clause-answer : goal.returns-in-Same-clause-answer
returns-in-Same-clause-answer c =
    let before = c.args.store.now in
    let after = c.narrow.new.store in
    let xs = c.args.terms.now in
    let k = c.args.index in
    let v = c.args.value in
    let narrowed = rw c.in-Same.is at c.in_ok-change.ensures.narrowed in
    let of : AreTermsOf (length before.doms) xs k v = record { index = c.requires.index; terms = c.requires.terms; value = c.requires.value } in
    rw c.rested.ensures (rested_answer c.are_fixed.result xs k v before.doms after.doms (subst (λ (s : Stored). AreTermsOf (length s.doms) xs k v) (sym narrowed.0) of)
    (subst (λ (s : Stored). IsVariableElementLine xs k v s.doms) (sym narrowed.0) narrowed.1) c.are_fixed.ensures.0)
