use Rattle.std.proofs.Common.{sym, subst, length}
use Rattle.std.specs.Prelude.{ℤ}
use Rattle.fz_strength.specs.Domains.{Within}
use Rattle.fz_prop.specs.Stores.{Stored}
use Rattle.fz_prop.proofs.Twice.{shrinks_twice}
use Rattle.fz_element.specs.Matching.{IsChosen}
use Rattle.fz_element.specs.Selecting.{Has}
use Rattle.fz_element.proofs.Narrowing.{AreTermsOf, needs_index, needs_number, step_correct, never_of, correct_both, never_both, less_both}
use Rattle.fz_element.proofs.select_term.keep_indices.Goals as goal

pub returns-in_err-keep-in-Changed-clause-correct : goal.returns-in_err-keep-in-Changed-clause-correct
returns-in_err-keep-in-Changed-clause-correct c = λ a holds within.
    let before = c.args.store.now in
    let xs = c.args.terms.now in
    let k = c.args.index in
    let v = c.args.value in
    let P : ℤ → Type 0 = λ i. Has c.args.matches.now.indices i in
    let of : AreTermsOf (length before.doms) xs k v = record { index = c.requires.index; terms = c.requires.terms; value = c.requires.value } in
    let needs = needs_index xs k v before.doms (λ i. Has c.args.matches.now.indices i) (λ n. Has c.args.matches.now.numbers n) of c.requires.matches in
    subst (λ (s : Stored). Within s.doms a) (sym c.in_err-keep-in-Changed.ensures.err)
    (step_correct c.in_ok-keep.field-0 k P (IsChosen xs k v) before c.keep.new.store needs c.in_ok-keep.ensures.change c.in_ok-keep.ensures.shrinks a holds within)

pub returns-in-Wiped-clause-narrowed : goal.returns-in-Wiped-clause-narrowed
returns-in-Wiped-clause-narrowed c =
    let before = c.args.store.now in
    let xs = c.args.terms.now in
    let k = c.args.index in
    let v = c.args.value in
    let P : ℤ → Type 0 = λ i. Has c.args.matches.now.indices i in
    let of : AreTermsOf (length before.doms) xs k v = record { index = c.requires.index; terms = c.requires.terms; value = c.requires.value } in
    let needs = needs_index xs k v before.doms (λ i. Has c.args.matches.now.indices i) (λ n. Has c.args.matches.now.numbers n) of c.requires.matches in
    never_of k P xs k v before c.keep.new.store c.requires.index needs (rw c.in-Wiped.is at c.in_ok-keep.ensures.change)

pub returns-in-Wiped-2-clause-correct : goal.returns-in-Wiped-2-clause-correct
returns-in-Wiped-2-clause-correct c =
    let before = c.args.store.now in
    let xs = c.args.terms.now in
    let k = c.args.index in
    let v = c.args.value in
    let P : ℤ → Type 0 = λ i. Has c.args.matches.now.indices i in
    let Q : ℤ → Type 0 = λ n. Has c.args.matches.now.numbers n in
    let of : AreTermsOf (length before.doms) xs k v = record { index = c.requires.index; terms = c.requires.terms; value = c.requires.value } in
    let needs = needs_index xs k v before.doms (λ i. Has c.args.matches.now.indices i) (λ n. Has c.args.matches.now.numbers n) of c.requires.matches in
    let needs_more = needs_number xs k v before.doms (λ i. Has c.args.matches.now.indices i) (λ n. Has c.args.matches.now.numbers n) of c.requires.matches in
    correct_both c.in_ok-keep.field-0 c.in_ok-keep-in-Changed.field-0 k v P Q (IsChosen xs k v) before c.keep.new.store c.keep-in-Changed.new.store needs needs_more
    c.in_ok-keep.ensures.change c.in_ok-keep.ensures.shrinks c.in_ok-keep-in-Changed.ensures.change c.in_ok-keep-in-Changed.ensures.shrinks

pub returns-in-Wiped-2-clause-narrowed : goal.returns-in-Wiped-2-clause-narrowed
returns-in-Wiped-2-clause-narrowed c =
    let before = c.args.store.now in
    let xs = c.args.terms.now in
    let k = c.args.index in
    let v = c.args.value in
    let P : ℤ → Type 0 = λ i. Has c.args.matches.now.indices i in
    let Q : ℤ → Type 0 = λ n. Has c.args.matches.now.numbers n in
    let of : AreTermsOf (length before.doms) xs k v = record { index = c.requires.index; terms = c.requires.terms; value = c.requires.value } in
    let needs = needs_index xs k v before.doms (λ i. Has c.args.matches.now.indices i) (λ n. Has c.args.matches.now.numbers n) of c.requires.matches in
    let needs_more = needs_number xs k v before.doms (λ i. Has c.args.matches.now.indices i) (λ n. Has c.args.matches.now.numbers n) of c.requires.matches in
    never_both c.in_ok-keep.field-0 k v P Q xs before c.keep.new.store c.keep-in-Changed.new.store c.requires.value needs needs_more
    c.in_ok-keep.ensures.change c.in_ok-keep.ensures.shrinks (rw c.in-Wiped-2.is at c.in_ok-keep-in-Changed.ensures.change)

pub returns-in-Same-2 : goal.returns-in-Same-2
returns-in-Same-2 c =
    let before = c.args.store.now in
    let xs = c.args.terms.now in
    let k = c.args.index in
    let v = c.args.value in
    let P : ℤ → Type 0 = λ i. Has c.args.matches.now.indices i in
    let Q : ℤ → Type 0 = λ n. Has c.args.matches.now.numbers n in
    let of : AreTermsOf (length before.doms) xs k v = record { index = c.requires.index; terms = c.requires.terms; value = c.requires.value } in
    let needs = needs_index xs k v before.doms (λ i. Has c.args.matches.now.indices i) (λ n. Has c.args.matches.now.numbers n) of c.requires.matches in
    let needs_more = needs_number xs k v before.doms (λ i. Has c.args.matches.now.indices i) (λ n. Has c.args.matches.now.numbers n) of c.requires.matches in
    record {
      shrinks = shrinks_twice before c.keep.new.store c.keep-in-Changed.new.store c.in_ok-keep.ensures.shrinks c.in_ok-keep-in-Changed.ensures.shrinks;
      correct = correct_both c.in_ok-keep.field-0 c.in_ok-keep-in-Changed.field-0 k v P Q (IsChosen xs k v) before c.keep.new.store c.keep-in-Changed.new.store needs needs_more
          c.in_ok-keep.ensures.change c.in_ok-keep.ensures.shrinks c.in_ok-keep-in-Changed.ensures.change c.in_ok-keep-in-Changed.ensures.shrinks;
      narrowed = less_both k P before c.keep.new.store c.keep-in-Changed.new.store (rw c.in-Changed.is at c.in_ok-keep.ensures.change)
          c.in_ok-keep-in-Changed.ensures.shrinks;
    }
