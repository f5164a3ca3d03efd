use Rattle.std.proofs.Common.{◌≡◌, ℤ, pos, get_or, arith, rules, true, ◌++◌, ◌∷◌, []}
use Rattle.std.proofs.lemmas.Option.{slice_get-get_or, slice_get_within}
use Rattle.fz_spec.specs.declared.term.Term.TheVariants.{Num}
use Rattle.fz_strength.specs.Domains.{term_set}
use Rattle.fz_strength.specs.Events.{IsOnly}
use Rattle.fz_alldiff.proofs.Settling.{flags_more}
use Rattle.fz_alldiff.proofs.settled.fixed_places.Goals as goal

pub loop-term-preserved : goal.loop-term-preserved
loop-term-preserved c =
    let xs = c.args.terms.now in
    let ds = c.args.store.now.doms in
    let k = c.loop-term.term-index in
    let t = get_or xs k (Num (pos 0)) in
    let at = slice_get-get_or xs k (Num (pos 0)) c.loop-term-test.true in
    let some : c.is_some.result ≡ true → (n : ℤ) × IsOnly (term_set ds t) n = search rules in
    let back : (n : ℤ) → IsOnly (term_set ds t) n → c.is_some.result ≡ true = search rules in
    let items : c.push.new.self.items ≡ c.loop-term.done.items ++ c.is_some.result ∷ [] = search rules in
    rw items (flags_more xs ds c.loop-term.done.items k t c.is_some.result at some back c.loop-term.invariant)

pub returns-clause-fixed : goal.returns-clause-fixed
returns-clause-fixed c = λ i. (
  c.loop-term.invariant.fixed i,
  (λ here. let inside = slice_get_within c.args.terms.now i here.0 here.1 in let test = c.loop-term-test.false in c.loop-term.invariant.each i (omega (arith, inside, test)) here),
)
