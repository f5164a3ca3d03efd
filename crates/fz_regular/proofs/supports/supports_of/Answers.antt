use Rattle.std.specs.Prelude.{Option, IsNone, IfSome, List, ℤ}
use Rattle.std.proofs.lemmas.Result.{IfOk-weaker}
use Rattle.fz_strength.specs.Regular.{IsLeftWord}
use Rattle.fz_regular.specs.declared.bit_rows.BitRows.{BitRows}
use Rattle.fz_regular.specs.BitRows.{Has}
use Rattle.fz_regular.specs.Runs.{AreInWords}
use Rattle.fz_regular.proofs.Lists.{word_ends, some_word, in_words, if_some}
use Rattle.fz_regular.proofs.supports.supports_of.Goals as goal

pub returns-clause-none : goal.returns-clause-none
returns-clause-none c =
    let m = c.args.automaton.now in
    let xs = c.args.terms.now in
    let ds = c.args.store.now.doms in
    let values = c.in_ok-values.values in
    IfOk-weaker c.on_the_way.result _ (λ (o : Option BitRows). IsNone o → (word : List ℤ) → IsLeftWord m xs ds word → ⊥)
    (λ o h none word left. let w = word_ends m xs ds (Has values) c.in_ok-values.ensures.left word left in h none w.0 w.1 w.2) c.on_the_way.ensures.none

pub returns-clause-some : goal.returns-clause-some
returns-clause-some c =
    let m = c.args.automaton.now in
    let xs = c.args.terms.now in
    let ds = c.args.store.now.doms in
    let values = c.in_ok-values.values in
    IfOk-weaker c.on_the_way.result _ (λ (o : Option BitRows). IfSome o (λ b. (word : List ℤ) × IsLeftWord m xs ds word))
    (λ o h. if_some o _ _ (λ b w. some_word m xs ds (Has values) c.in_ok-values.ensures.left w.0 w.1 w.2) h) c.on_the_way.ensures.some

pub returns-clause-supports : goal.returns-clause-supports
returns-clause-supports c =
    let m = c.args.automaton.now in
    let xs = c.args.terms.now in
    let ds = c.args.store.now.doms in
    let values = c.in_ok-values.values in
    IfOk-weaker c.on_the_way.result _ (λ (o : Option BitRows). IfSome o (λ b. AreInWords m xs ds b))
    (λ o h. if_some o _ _ (λ b are. in_words m xs ds (Has values) b c.in_ok-values.ensures.left are) h) c.on_the_way.ensures.supports
