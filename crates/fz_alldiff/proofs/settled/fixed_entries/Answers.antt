use Rattle.std.proofs.Common.{◌≡◌, ℤ, pos, get_or, arith, rules, ◌++◌, ◌∷◌, []}
use Rattle.std.proofs.lemmas.Option.{slice_get-get_or}
use Rattle.fz_spec.specs.declared.term.Term.TheVariants.{Num}
use Rattle.fz_strength.specs.Domains.{term_set}
use Rattle.fz_strength.specs.Events.{IsOnly}
use Rattle.fz_alldiff.proofs.Settling.{AreListed, listed_more, listed_passed, listed_all}
use Rattle.fz_alldiff.proofs.settled.fixed_entries.Goals.{in-Some+in_ok-push, in_default}
use Rattle.fz_alldiff.proofs.settled.fixed_entries.Goals as goal

pub loop-place-preserved : goal.loop-place-preserved
loop-place-preserved c =
    let xs = c.args.terms.now in
    let ds = c.args.store.now.doms in
    let k = c.loop-place.place in
    let t = get_or xs k (Num (pos 0)) in
    let at = slice_get-get_or xs k (Num (pos 0)) c.loop-place-test.true in
    let es = c.loop-place.entries.items in
    let is : AreListed xs ds es k = c.loop-place.invariant in
    elim c.match-value_of.branch [
      | in-Some+in_ok-push w ↦ (
          let only : IsOnly (term_set ds t) w.in-Some.value = search rules in
          let items : c.match-value_of.entries.items ≡ es ++ (w.in-Some.value, k) ∷ [] = search rules in
          rw items (listed_more xs ds es k t w.in-Some.value at only is))
      | in_default w ↦ (
          let open_ : (n : ℤ) → IsOnly (term_set ds t) n → ⊥ = search rules in
          rw w.entries-is (listed_passed xs ds es k t at open_ is))
    ]

pub returns : goal.returns
returns c =
    listed_all c.args.terms.now c.args.store.now.doms c.loop-place.entries.items c.sort_unstable.new.self.items c.loop-place.place (let test = c.loop-place-test.false in omega (arith, test)) c.sort_unstable.ensures.permutation c.loop-place.invariant
