use Rattle.std.proofs.Common.{ℤ, List, rules, sym, subst, length, w32}
use Rattle.std.specs.Prelude.{Option, MatchOption, ◌↔◌}
use Rattle.std.proofs.Math.Facts.{to_z-of_z}
use Rattle.std.proofs.lemmas.Result.{IfOk-weaker}
use mir.Val.{SFits}
use Rattle.fz_sets.specs.Sets.{IsInSet}
use Rattle.fz_dom.specs.Shape.{IsDomain}
use Rattle.fz_strength.specs.Domains.{term_set, IsTermOf}
use Rattle.fz_strength.specs.VariableElements.{StandsAt, IsMatch}
use Rattle.fz_prop.specs.Stores.{FitsTerm}
use Rattle.fz_element.specs.Matching.{AreShared, IsMatchedAt}
use Rattle.fz_element.proofs.Matching.{stands_of, match_is}
use Rattle.fz_element.proofs.matches.match_at.Goals as goal

pub returns-in_default : goal.returns-in_default
returns-in_default c = λ at.
    let fits : SFits w32 c.args.place = search rules in
    let m = at.1 in
    c.in_default.ensures m.term (subst (λ (k : ℤ). StandsAt k c.args.terms.now m.term) (sym (to_z-of_z fits)) m.stands)

pub shared-requires-clause-term : goal.shared-requires-clause-term
shared-requires-clause-term c = stands_of (IsTermOf (length c.args.store.now.doms)) _ c.args.terms.now c.in-Some.term c.requires.terms c.in-Some.ensures

pub shared-requires-clause-fits : goal.shared-requires-clause-fits
shared-requires-clause-fits c = stands_of FitsTerm _ c.args.terms.now c.in-Some.term c.requires.fits c.in-Some.ensures

pub returns : goal.returns
returns c =
    let xs = c.args.terms.now in
    let k = c.args.index in
    let v = c.args.value in
    let ds = c.args.store.now.doms in
    let x = c.in-Some.term in
    let fits : SFits w32 c.args.place = search rules in
    let stands : StandsAt c.args.place xs x = rw (to_z-of_z fits) at c.in-Some.ensures in
    let index : IsInSet (term_set ds k) c.args.place = (rw (to_z-of_z fits) at c.has.ensures).0 c.if-not-has.false in
    IfOk-weaker c.shared.result
    (λ (o : Option (List (ℤ × ℤ))). MatchOption o ((n : ℤ) → IsInSet (term_set ds x) n → IsInSet c.args.wanted.now n → ⊥) (λ d. AreShared (term_set ds x) c.args.wanted.now d))
    (λ (o : Option (List (ℤ × ℤ))). MatchOption o (IsMatchedAt xs k v ds c.args.place → ⊥)
    (λ d. IsMatchedAt xs k v ds c.args.place × IsDomain d × ((n : ℤ) → IsInSet d n ↔ IsMatch xs k v ds c.args.place n)))
    (λ o h. match_is o xs k v x ds c.args.wanted.now c.args.place stands index c.requires.wanted h) c.shared.ensures
