use Rattle.std.proofs.Common.{◌≡◌, ◌∙◌, ◌-◌, ◌<◌, ◌⊎◌, ℕ, [], List, subst, rules, length}
use Rattle.std.specs.Prelude.{◌↔◌}
use Rattle.fz_prop.specs.Stores.{IsListed}
use Rattle.fz_sets.proofs.Lists.{same_at}
use Rattle.fz_agenda.proofs.Waking.{concat_more}
use Rattle.fz_agenda.proofs.wakes.join_last.Goals as goal

pub returns-in_default-clause-joined : goal.returns-in_default-clause-joined
returns-in_default-clause-joined c = λ joined.
    let words = c.args.words.now.items in
    let k = c.len.result - 1 in
    let within : k < length words = search rules in
    let at = c.index_mut.ensures.value ∙ same_at words k c.index_mut.result.now [] within in
    concat_more k c.args.place c.join.new.self words within
    (subst (λ (l : List ℕ). (i : ℕ) → IsListed c.join.new.self i ↔ (IsListed l i ⊎ (i ≡ c.args.place))) at (c.join.ensures.joined joined))
