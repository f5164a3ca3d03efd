use Rattle.std.proofs.Common.{◌≡◌, ◌∙◌, ◌<◌, ◌++◌, ◌∷◌, [], List, ℕ, ◌+◌, ap, sym, subst, length, Vec, Global, ◌↔◌, Bool}
use Rattle.std.specs.Prelude.{IsTrue}
use Rattle.std.specs.List.{filter, range_with_len}
use Rattle.fz_spec.specs.Instance.{Variable}
use Rattle.fz_tree.specs.Rows.{is_shown}
use Rattle.fz_branch.proofs.Numbers.{range_more}
use Rattle.fz_branch.proofs.Showing.{filter_yes, filter_no, not_so}
use Rattle.fz_branch.proofs.shown.all_shown.Goals.{then-has+in_ok-push, else-has}
use Rattle.fz_branch.proofs.shown.all_shown.Goals as goal

pub loop-variable-preserved : goal.loop-variable-preserved
loop-variable-preserved c =
    let k : ℕ = c.loop-variable.variable in
    let shown : ℕ → Bool = is_shown c.args.model.now in
    let below : k < length c.args.model.now.variables = subst (λ (vs : List Variable). k < length vs) c.variables.ensures.variables c.loop-variable-test.true in
    let member : IsTrue c.has.result ↔ IsTrue (shown k) = (λ h. (c.requires.members k below).0 (c.has.ensures.0 h), λ h. c.has.ensures.1 ((c.requires.members k below).1 h)) in
    let next : filter shown (range_with_len 0 k ++ k ∷ []) ≡ filter shown (range_with_len 0 (k + 1)) = sym (ap (filter shown) (range_more k)) in
    elim c.if-has.branch [
      | then-has+in_ok-push w ↦ ap (λ (v : Vec ℕ Global). v.items) w.variables-is ∙ w.in_ok-push.ensures.items ∙ ap (λ (l : List ℕ). l ++ k ∷ []) c.loop-variable.invariant
          ∙ sym (filter_yes shown (range_with_len 0 k) k (member.0 w.if-has.true)) ∙ next
      | else-has w ↦ ap (λ (v : Vec ℕ Global). v.items) w.variables-is ∙ c.loop-variable.invariant ∙ sym (filter_no shown (range_with_len 0 k) k (not_so c.has.result (shown k) w.if-has.false member)) ∙ next
    ]
