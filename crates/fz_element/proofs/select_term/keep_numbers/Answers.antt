use Rattle.std.proofs.Common.{◌≡◌, sym, subst, length}
use Rattle.std.specs.Prelude.{ℤ}
use Rattle.fz_dom.specs.declared.change.Change.TheVariants.{Same}
use Rattle.fz_prop.specs.Stores.{Stored, IsTermChange}
use Rattle.fz_prop.proofs.TermChanges.{same_store}
use Rattle.fz_element.specs.Matching.{IsChosen, AreAllMatched}
use Rattle.fz_element.specs.Selecting.{Has}
use Rattle.fz_element.proofs.Narrowing.{AreTermsOf, needs_number, step_correct, narrowed_by, all_kept, all_matched}
use Rattle.fz_element.proofs.select_term.keep_numbers.Goals as goal

pub returns-in_default : goal.returns-in_default
returns-in_default c =
    let before = c.args.store.now in
    let after = c.keep.new.store in
    let xs = c.args.terms.now in
    let k = c.args.index in
    let v = c.args.value in
    let P : ℤ → Type 0 = λ n. Has c.args.matches.now.numbers n in
    let of : AreTermsOf (length before.doms) xs k v = record { index = c.requires.index; terms = c.requires.terms; value = c.requires.value } in
    let needs = needs_number xs k v before.doms (λ i. Has c.args.matches.now.indices i) (λ n. Has c.args.matches.now.numbers n) of c.requires.matches in
    record {
      shrinks = c.in_ok-change.ensures.shrinks;
      correct = step_correct c.in_ok-change.change v P (IsChosen xs k v) before after needs c.in_ok-change.ensures.change c.in_ok-change.ensures.shrinks;
      narrowed = narrowed_by c.in_ok-change.change v P xs k v before after c.in_default.not-Same c.requires.value needs c.in_ok-change.ensures.change;
    }

pub keep_last-requires-clause-matched : goal.keep_last-requires-clause-matched
keep_last-requires-clause-matched c =
    let before = c.args.store.now in
    let xs = c.args.terms.now in
    let k = c.args.index in
    let v = c.args.value in
    let P : ℤ → Type 0 = λ n. Has c.args.matches.now.numbers n in
    let by_value : IsTermChange Same v P before c.keep.new.store = rw c.in-Same.is at c.in_ok-change.ensures.change in
    let same : c.keep.new.store ≡ before = same_store v P before c.keep.new.store by_value in
    subst (λ (s : Stored). AreAllMatched xs k v s.doms) (sym same)
    (all_matched xs k v before (λ i. Has c.args.matches.now.indices i) (λ n. Has c.args.matches.now.numbers n) c.requires.matches c.requires.all (all_kept v P before c.keep.new.store by_value))
