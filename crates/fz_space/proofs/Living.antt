-- What is known of a space at its root and at rest.
use Rattle.std.proofs.Common.{◌≡◌, inl, inr, ℕ, zero, suc, ◌+◌, ◌<◌, List, [], ◌∷◌, refl, sym, ◌∙◌, ap, subst, arith, length, true, false}
use Rattle.std.specs.Prelude.{ℤ, None}
use Rattle.std.proofs.lemmas.Bool.{cases_eq, cases_lt}
use Rattle.fz_sets.specs.Sets.{IsInSet, set_size, single}
use Rattle.fz_sets.proofs.Lists.{all_of, below_or_same}
use Rattle.fz_sets.proofs.Sizes.{some_size}
use Rattle.fz_spec.specs.Instance.{Instance, Variable, AreDeclared}
use Rattle.fz_spec.specs.Constraints.{IsTrueOf}
use Rattle.fz_strength.specs.Domains.{Within, Alone, AreDomains, IsNarrower, dom_at, number_at}
use Rattle.fz_strength.proofs.Terms.{is_single}
use Rattle.fz_strength.proofs.Sayings.{true_where_alone, below}
use Rattle.fz_strength.specs.Sayings.{saying_of}
use Rattle.fz_prop.specs.Stores.{Stored, HasEmpty, declared_sets}
use Rattle.fz_agenda.specs.Agendas.{IsSettled}
use Rattle.fz_search_space.specs.Spaces.{Covers, MeetsAll, IsUndecided, IsStatus}
use Rattle.fz_search_space.specs.declared.space.Status.{Status}
use Rattle.fz_search_space.specs.declared.space.Status.TheVariants as status
use Rattle.fz_engine.specs.Networks.{Networked, AreOf, IsNetwork}
use Rattle.fz_engine.specs.Runs.{IsAlive, AllRest}
use Rattle.fz_space.specs.Alive.{spaced, HaveLines, IsLeft}
use Rattle.fz_engine.proofs.Posting.{declared_length}

-- ---- the root

first_and_rest : (v : Variable) (vs : List Variable) (x : ℤ) (a : List ℤ) → IsInSet v.set x → ((u : ℕ) → u < length (declared_sets vs) → IsInSet (dom_at (declared_sets vs) u) (number_at a u))
    → (u : ℕ) → u < length (declared_sets (v ∷ vs)) → IsInSet (dom_at (declared_sets (v ∷ vs)) u) (number_at (x ∷ a) u)
first_and_rest v vs x a first rest zero h = first
first_and_rest v vs x a first rest (suc u) h = rest u (omega (arith, h))

declared_within : (vs : List Variable) (a : List ℤ) → AreDeclared vs a → Within (declared_sets vs) a
declared_within [] [] declared = record { size = refl; members = λ v h. absurd (omega (arith, h)) }
declared_within [] (x ∷ a) declared = absurd declared
declared_within (v ∷ vs) [] declared = absurd declared
declared_within (v ∷ vs) (x ∷ a) declared =
    let rest : Within (declared_sets vs) a = declared_within vs a declared.1 in
    record { size = ap suc rest.size; members = first_and_rest v vs x a declared.0 rest.members }

within_declared : (vs : List Variable) (a : List ℤ) → Within (declared_sets vs) a → AreDeclared vs a
within_declared [] [] within = tt
within_declared [] (x ∷ a) within = absurd (omega (arith, within.size))
within_declared (v ∷ vs) [] within = absurd (omega (arith, within.size))
within_declared (v ∷ vs) (x ∷ a) within = (
  within.members zero (omega arith),
  within_declared vs a (record { size = omega (arith, within.size); members = λ u h. within.members (suc u) (omega (arith, h)) }),
)

pub covers_root : (m : Instance) (s : Stored) → s.doms ≡ declared_sets m.variables → Covers None [] (spaced m s false)
covers_root m s is = record {
  all = λ a satisfies better met. (refl, subst (λ (ds : List (List (ℤ × ℤ))). Within ds a) (sym is) (declared_within m.variables a satisfies.declared));
  only = λ a alive within. (within_declared m.variables a (subst (λ (ds : List (List (ℤ × ℤ))). Within ds a) is within), tt);
}

true_is_false : (P : Type 0) → true ≡ false → P
true_is_false P e = absurd (cc (e))

pub covers_empty : (m : Instance) (s : Stored) → HasEmpty (declared_sets m.variables) → Covers None [] (spaced m s true)
covers_empty m s empty = record {
  all = λ a satisfies better met.
      let within : Within (declared_sets m.variables) a = declared_within m.variables a satisfies.declared in
      absurd (subst (λ (d : List (ℤ × ℤ)). IsInSet d (number_at a empty.variable)) empty.empty (within.members empty.variable empty.within));
  only = λ a alive within. true_is_false (AreDeclared m.variables a × MeetsAll [] a) alive;
}

pub alive_root : (n : Networked) (states : List ℕ) (s : Stored) → IsNetwork n → s.doms ≡ declared_sets n.model.variables → IsSettled n.sayings states s → IsAlive n states s
alive_root n states s network is settled = record {
  size = ap length is ∙ declared_length n.model.variables;
  declared = subst (λ (ds : List (List (ℤ × ℤ))). IsNarrower (declared_sets n.model.variables) ds) (sym is) (record { size = refl; members = λ v x member. member });
  terms = subst (λ (ds : List (List (ℤ × ℤ))). AreOf n.sayings ds) (sym is) network.terms;
  settled = settled;
}

-- ---- at rest

more_than_one : (n : ℕ) → 0 < n → (n ≡ 1 → ⊥) → 1 < n
more_than_one n some ne = elim (cases_lt 1 n) [ inl more ↦ more | inr few ↦ absurd (ne (omega (arith, some, few))) ]

pub undecided_at : (ds : List (List (ℤ × ℤ))) (v : ℕ) → AreDomains ds → v < length ds → (set_size (dom_at ds v) ≡ 1 → ⊥) → IsUndecided ds
undecided_at ds v domains within other = record {
  variable = v;
  within = within;
  several = more_than_one (set_size (dom_at ds v)) (some_size (dom_at ds v) (domains v within).1) other;
}

abbrev AllSingle : List (List (ℤ × ℤ)) → Type 0
AllSingle ds = (v : ℕ) → v < length ds → (x : ℤ) × (dom_at ds v ≡ (x, x) ∷ [])

alone_in : (d : List (ℤ × ℤ)) (y x : ℤ) → d ≡ (x, x) ∷ [] → IsInSet d y → d ≡ (y, y) ∷ []
alone_in d y x is member =
    let same : y ≡ x = is_single y x (subst (λ (e : List (ℤ × ℤ)). IsInSet e y) is member) in
    is ∙ ap single (sym same)

alone_of : (ds : List (List (ℤ × ℤ))) (a : List ℤ) → AllSingle ds → Within ds a → Alone ds a
alone_of ds a all within = record {
  size = within.size;
  alone = λ v h. alone_in (dom_at ds v) (number_at a v) (all v h).0 (all v h).1 (within.members v h);
}

pub solved : (n : Networked) (after : List ℕ) (t : Stored) → IsNetwork n → IsAlive n after t → AllRest n.model t.doms → AllSingle t.doms → IsStatus status.Solved (spaced n.model t false)
solved n after t network alive rests all = (
  refl,
  λ a within.
      let alone : Alone t.doms a = alone_of t.doms a all within in (
        alone,
        all_of (IsTrueOf a) n.model.constraints
            (λ i c is. (let there = network.said.each i c is in true_where_alone c t.doms a (below (length t.doms) (saying_of c) (alive.terms there.0 (saying_of c) there.1).0) alone (rests i c is).first)),
      ),
)

pub left_is : (n : Networked) (after : List ℕ) (t : Stored) (r : Status) → IsNetwork n → IsAlive n after t → AllRest n.model t.doms → IsLeft r t.doms → IsStatus r (spaced n.model t false)
left_is n after t status.Failed network alive rests left = absurd left
left_is n after t status.Solved network alive rests left = solved n after t network alive rests left
left_is n after t status.Branch network alive rests left = (refl, left)

pub lines_at : (r : Status) (m : Instance) (ds : List (List (ℤ × ℤ))) → AllRest m ds → HaveLines r m ds
lines_at status.Failed m ds rests = tt
lines_at status.Solved m ds rests = tt
lines_at status.Branch m ds rests = rests

-- domains of which those before a place have one number each
pub single_more : (ds : List (List (ℤ × ℤ))) (n : ℕ) (d : List (ℤ × ℤ)) (x : ℤ) → d ≡ dom_at ds n → d ≡ (x, x) ∷ [] → ((v : ℕ) → v < n → (y : ℤ) × (dom_at ds v ≡ (y, y) ∷ [])) → (v : ℕ) → v < n + 1
    → (y : ℤ) × (dom_at ds v ≡ (y, y) ∷ [])
single_more ds n d x at is before v more = elim (cases_eq v n) [
  | inl e ↦ (x, subst (λ (u : ℕ). dom_at ds u ≡ (x, x) ∷ []) (sym e) (sym at ∙ is))
  | inr ne ↦ before v (below_or_same v n more ne)
]
