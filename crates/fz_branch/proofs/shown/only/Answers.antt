use Rattle.std.proofs.Common.{◌≡◌, ◌∙◌, ◌<◌, ◌++◌, ◌∷◌, ◌+◌, [], List, ℕ, ap, arith, get_or, sym, length, take, Vec, Global, ◌↔◌, Bool}
use Rattle.std.specs.Prelude.{IsTrue}
use Rattle.std.specs.List.{filter}
use Rattle.std.proofs.lemmas.List.{take_all, take_more}
use Rattle.fz_sets.proofs.Lists.{all_get}
use Rattle.fz_tree.specs.Rows.{is_shown}
use Rattle.fz_branch.proofs.Showing.{filter_yes, filter_no, not_so}
use Rattle.fz_branch.proofs.shown.only.Goals.{then-has+in_ok-push, else-has}
use Rattle.fz_branch.proofs.shown.only.Goals as goal

pub loop-variable-preserved : goal.loop-variable-preserved
loop-variable-preserved c = λ m shown within.
    let all = c.args.variables.now in
    let k = c.loop-variable.variable-index in
    let v : ℕ = get_or all k 0 in
    let yes : ℕ → Bool = is_shown m in
    let so_far = take k all in
    let below : v < length m.variables = all_get (λ v. v < length m.variables) all k 0 c.loop-variable-test.true within in
    let member : IsTrue c.has.result ↔ IsTrue (yes v) = (λ h. (shown.members v below).0 (c.has.ensures.0 h), λ h. c.has.ensures.1 ((shown.members v below).1 h)) in
    let next : filter yes (so_far ++ v ∷ []) ≡ filter yes (take (k + 1) all) = sym (ap (filter yes) (take_more all k 0 c.loop-variable-test.true)) in
    elim c.if-has.branch [
      | then-has+in_ok-push w ↦ ap (λ (l : Vec ℕ Global). l.items) w.kept-is ∙ w.in_ok-push.ensures.items ∙ ap (λ (l : List ℕ). l ++ v ∷ []) (c.loop-variable.invariant m shown within)
          ∙ sym (filter_yes yes so_far v (member.0 w.if-has.true)) ∙ next
      | else-has w ↦ ap (λ (l : Vec ℕ Global). l.items) w.kept-is ∙ c.loop-variable.invariant m shown within ∙ sym (filter_no yes so_far v (not_so c.has.result (yes v) w.if-has.false member)) ∙ next
    ]

pub returns : goal.returns
returns c = λ m shown within.
    let test = c.loop-variable-test.false in
    c.loop-variable.invariant m shown within ∙ ap (filter (is_shown m)) (take_all c.loop-variable.variable-index c.args.variables.now (omega (arith, test)))
