use Rattle.std.proofs.Common.{rules, length}
use Rattle.std.specs.Prelude.{IfOk}
use Rattle.std.proofs.Math.Facts.{to_z-of_z}
use Rattle.std.proofs.lemmas.Result.{IfOk-weaker}
use mir.Val.{SFits}
use mir.Syntax.{w32}
use Rattle.fz_sets.specs.Sets.{IsInSet}
use Rattle.fz_dom.specs.declared.change.Change.{Change}
use Rattle.fz_strength.specs.Domains.{term_set, IsTermOf}
use Rattle.fz_strength.specs.VariableElements.{StandsAt}
use Rattle.fz_prop.specs.Stores.{IsTermChange}
use Rattle.fz_element.specs.Matching.{IsChosen, IsNarrowed}
use Rattle.fz_element.proofs.Matching.{stands_of}
use Rattle.fz_element.proofs.Narrowing.{AreTermsOf, needs_last, step_correct_of, no_last, some_stands, last_narrowed}
use Rattle.fz_element.proofs.select_term.keep_last.Goals as goal

pub returns-in_default-clause-narrowed : goal.returns-in_default-clause-narrowed
returns-in_default-clause-narrowed c = no_last c.args.terms.now c.args.index c.args.value c.args.store.now c.requires.matched c.in_default.ensures

pub returns-in_default-term_at-clause-narrowed : goal.returns-in_default-term_at-clause-narrowed
returns-in_default-term_at-clause-narrowed c =
    let fits : SFits w32 c.in-Some.place = search rules in
    absurd (some_stands c.args.terms.now c.args.index c.args.value c.args.store.now c.in-Some.place c.requires.matched c.in-Some.ensures
    (rw (to_z-of_z fits) at c.in_default-term_at.ensures))

pub keep_in-requires : goal.keep_in-requires
keep_in-requires c = stands_of (IsTermOf (length c.args.store.now.doms)) _ c.args.terms.now c.in-Some-term_at.term c.requires.terms c.in-Some-term_at.ensures

pub returns-clause-correct : goal.returns-clause-correct
returns-clause-correct c =
    let before = c.args.store.now in
    let after = c.keep_in.new.store in
    let xs = c.args.terms.now in
    let x = c.in-Some-term_at.term in
    let d = term_set before.doms c.args.value in
    let fits : SFits w32 c.in-Some.place = search rules in
    let stands : StandsAt c.in-Some.place xs x = rw (to_z-of_z fits) at c.in-Some-term_at.ensures in
    let of : AreTermsOf (length before.doms) xs c.args.index c.args.value = record { index = c.requires.index; terms = c.requires.terms; value = c.requires.value } in
    let change : IfOk c.keep_in.result (λ (r : Change). IsTermChange r x (λ n. IsInSet d n) before after) = rw c.in_ok-wanted.ensures at c.keep_in.ensures.change in
    step_correct_of c.keep_in.result x (λ n. IsInSet d n) (IsChosen xs c.args.index c.args.value) before after
    (needs_last xs c.args.index c.args.value before.doms c.in-Some.place x of c.in-Some.ensures stands)
    c.keep_in.ensures.err change c.keep_in.ensures.shrinks

pub returns-clause-narrowed : goal.returns-clause-narrowed
returns-clause-narrowed c =
    let before = c.args.store.now in
    let after = c.keep_in.new.store in
    let xs = c.args.terms.now in
    let x = c.in-Some-term_at.term in
    let d = term_set before.doms c.args.value in
    let fits : SFits w32 c.in-Some.place = search rules in
    let stands : StandsAt c.in-Some.place xs x = rw (to_z-of_z fits) at c.in-Some-term_at.ensures in
    let of : AreTermsOf (length before.doms) xs c.args.index c.args.value = record { index = c.requires.index; terms = c.requires.terms; value = c.requires.value } in
    let change : IfOk c.keep_in.result (λ (r : Change). IsTermChange r x (λ n. IsInSet d n) before after) = rw c.in_ok-wanted.ensures at c.keep_in.ensures.change in
    IfOk-weaker c.keep_in.result (λ (r : Change). IsTermChange r x (λ n. IsInSet d n) before after)
    (λ (r : Change). IsNarrowed r xs c.args.index c.args.value before after)
    (λ r h. last_narrowed r xs c.args.index c.args.value c.in-Some.place x before after of c.doms.ensures.store.domains c.requires.matched c.in-Some.ensures stands h) change
