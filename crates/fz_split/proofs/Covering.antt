-- What the space of a node tells of the part of its decisions.
use Rattle.std.proofs.Common.{◌≡◌, ◌∙◌, ℕ, zero, suc, ◌<◌, inl, inr, List, [], ◌∷◌, ◌++◌, length, map, ap, sym, subst, refl, arith, Bool, true, false, cond, ◌&&◌, Option, Some, None, MatchOption, slice_set}
use Rattle.std.specs.Prelude.{ℤ, ◌≤ℤ◌, IsTrue, count_by}
use Rattle.std.specs.List.{AllByRecursion, slice_get, list_any}
use Rattle.std.proofs.lemmas.Bool.{and_parts}
use Rattle.std.proofs.lemmas.Int.{ints}
use Rattle.std.proofs.lemmas.List.Folds.{list_all-append}
use Rattle.fz_sets.specs.Sets.{IsInSet}
use Rattle.fz_sets.proofs.Lists.{all_map, all_both}
use Rattle.fz_dom.specs.Shape.{least, greatest}
use Rattle.fz_dom.proofs.Ranges.{within_limits}
use Rattle.fz_spec.specs.declared.kind.Kind.{Kind}
use Rattle.fz_spec.specs.declared.kind.Kind.TheVariants as kinds
use Rattle.fz_spec.specs.Instance.{Instance, Variable, AreDeclared, Satisfies}
use Rattle.fz_model.specs.Kept.{IsModel, IsVariable, HasSetOf, IsNumberOf, kind_at}
use Rattle.fz_tree.specs.declared.decision.Decision.{Decision}
use Rattle.fz_tree.specs.Choice.{meets, compares, compares_if_there, IsChoice}
use Rattle.fz_tree.specs.Proper.{IsReachable}
use Rattle.fz_tree.proofs.Counts.{one_if, count_cons, any_count}
use Rattle.fz_tree.proofs.Orders.{declared_length}
use Rattle.fz_branch.specs.Keeping.{KeepsValue}
use Rattle.fz_search_space.specs.Spaces.{Spaced, Covers, MeetsAll, Within, AreDomains, IsStatus, dom_at, number_at}
use Rattle.fz_search_space.specs.declared.space.Status.TheVariants as status
use Rattle.fz_search_space.proofs.Places.{least_within, length_least, length_set, number_set, number_other, some_at, cases_same, same_alone}
use Rattle.fz_part.specs.Parts.{IsDecisionOf, IsPartOf, is_in_part}
use Rattle.fz_split.specs.Splits.{IsSingle}
use Rattle.fz_split.specs.Divisions.{IsBetween, IsDivision}
use Rattle.fz_split.specs.Weights.{edge_of}
use Rattle.fz_split.proofs.Dividing.{least_in, greatest_in}

-- ---- which assignments are in a part

pub meets_each : (a : List ℤ) (p : List Decision) → is_in_part a p ≡ true → MeetsAll p a
meets_each a [] inside = tt
meets_each a (d ∷ ds) inside = let both = and_parts (meets a d) (is_in_part a ds) inside in (both.0, meets_each a ds both.1)

pub inside : (p : List Decision) (s : Spaced) (a : List ℤ) → Covers None p s → Satisfies s.model a → is_in_part a p ≡ true → (s.failed ≡ false) × Within s.doms a
inside p s a covers satisfies met = covers.all a satisfies tt (meets_each a p met)

and_true : (b : Bool) → (b && true) ≡ b
and_true true = refl
and_true false = refl

pub in_more : (a : List ℤ) (p : List Decision) (d : Decision) → is_in_part a (p ++ d ∷ []) ≡ (is_in_part a p && meets a d)
in_more a p d = list_all-append (meets a) p (d ∷ []) ∙ ap (λ (b : Bool). is_in_part a p && b) (and_true (meets a d))

-- of a node that is solved
pub single_solved : (p : List Decision) (s : Spaced) → Covers None p s → IsStatus status.Solved s → IsSingle s.model p
single_solved p s covers solved = λ a b sa sb ia ib. same_alone s.doms a b (solved.1 a (inside p s a covers sa ia).1).0 (solved.1 b (inside p s b covers sb ib).1).0

-- of one that failed
pub none_failed : (p : List Decision) (s : Spaced) (a : List ℤ) → Covers None p s → s.failed ≡ true → Satisfies s.model a → cond (is_in_part a p) 1 0 ≡ zero
none_failed p s a covers failed satisfies =
    elim (is_in_part a p) as (λ b. is_in_part a p ≡ b → cond b 1 0 ≡ zero) [ true ↦ λ e. absurd (let bad : true ≡ false = sym failed ∙ (inside p s a covers satisfies e).0 in cc) | false ↦ λ e. refl ] refl

-- ---- dividing a part

abbrev pub in_child : List ℤ → List Decision → Decision → Bool
in_child a p d = is_in_part a (p ++ d ∷ [])

one_both : (b c : Bool) → b ≡ true → one_if (b && c) ≡ one_if c
one_both true c is = refl
one_both false c is = cc

one_neither : (b c : Bool) → b ≡ false → one_if (b && c) ≡ 0
one_neither true c is = cc
one_neither false c is = refl

-- where it is in the part, as many of the alternatives as it meets
count_inside : (a : List ℤ) (p choice : List Decision) → is_in_part a p ≡ true → count_by (in_child a p) choice ≡ count_by (meets a) choice
count_inside a p [] met = refl
count_inside a p (d ∷ ds) met =
    let here : one_if (in_child a p d) ≡ one_if (meets a d) = ap one_if (in_more a p d) ∙ one_both (is_in_part a p) (meets a d) met in
    omega (arith, count_cons (in_child a p) d ds, count_cons (meets a) d ds, here, count_inside a p ds met)

count_outside : (a : List ℤ) (p choice : List Decision) → is_in_part a p ≡ false → count_by (in_child a p) choice ≡ zero
count_outside a p [] out = refl
count_outside a p (d ∷ ds) out =
    let here : one_if (in_child a p d) ≡ 0 = ap one_if (in_more a p d) ∙ one_neither (is_in_part a p) (meets a d) out in
    omega (arith, count_cons (in_child a p) d ds, here, count_outside a p ds out)

one_met : (a : List ℤ) (choice : List Decision) → IsChoice choice → IsTrue (list_any (meets a) choice) → count_by (meets a) choice ≡ 1
one_met a choice chooses some =
    elim (any_count (meets a) choice) [
      | inl any ↦ (let most = chooses.at_most_one a in omega (arith, any.1, most))
      | inr none ↦ absurd (let bad : true ≡ false = sym some ∙ none.0 in cc)
    ]

-- what satisfies and is in the part is in one of the alternatives alone
pub times_divided : (p : List Decision) (s : Spaced) (choice : List Decision) (a : List ℤ) → Covers None p s → IsDivision s.doms choice → IsChoice choice → Satisfies s.model a → count_by (in_child a p) choice ≡ cond (is_in_part a p) 1 0
times_divided p s choice a covers division chooses satisfies =
    elim (is_in_part a p) as (λ b. is_in_part a p ≡ b → count_by (in_child a p) choice ≡ cond b 1 0) [
      | true ↦ λ e. count_inside a p choice e ∙ one_met a choice chooses (division.one_is_met a (inside p s a covers satisfies e).1)
      | false ↦ λ e. count_outside a p choice e
    ] refl

-- ---- what is within the space

-- a domain for each variable
pub as_many : (p : List Decision) (s : Spaced) → Covers None p s → AreDomains s.doms → s.failed ≡ false → length s.doms ≡ length s.model.variables
as_many p s covers domains alive =
    let both = covers.only (map least s.doms) alive (least_within s.doms domains) in
    sym (length_least s.doms) ∙ declared_length s.model.variables (map least s.doms) both.0

set_within : (ds : List (List (ℤ × ℤ))) (a : List ℤ) (v : ℕ) (x : ℤ) → Within ds a → v < length ds → IsInSet (dom_at ds v) x → Within ds (slice_set a v x)
set_within ds a v x within below member = record {
  size = length_set a v x ∙ within.size;
  members = λ u h. elim (cases_same u v) [
    | inl e ↦ subst (λ (w : ℕ). IsInSet (dom_at ds w) (number_at (slice_set a v x) w)) (sym e) (rw (number_set a v x (rw within.size below)) member)
    | inr n ↦ rw (number_other a v u x n) (within.members u h)
  ];
}

-- an assignment within the domains that has this value there
record HasValue (s : Spaced) (v : ℕ) (x : ℤ) : Type 0 where
  pub assignment : List ℤ
  pub within : Within s.doms assignment
  pub there : v < length assignment
  pub number : number_at assignment v ≡ x

has_value : (s : Spaced) (v : ℕ) (x : ℤ) → AreDomains s.doms → v < length s.doms → IsInSet (dom_at s.doms v) x → HasValue s v x
has_value s v x domains below member =
    let within : Within s.doms (slice_set (map least s.doms) v x) = set_within s.doms (map least s.doms) v x (least_within s.doms domains) below member in
    record {
      assignment = slice_set (map least s.doms) v x;
      within = within;
      there = rw within.size below;
      number = number_set (map least s.doms) v x (rw (length_least s.doms) below);
    }

-- ---- each alternative is met at the node

meets_there : (a : List ℤ) (d : Decision) (x : ℤ) → slice_get a d.variable ≡ Some x → IsTrue (compares d.comparison x d.value) → IsTrue (meets a d)
meets_there a d x is compared = subst (λ (o : Option ℤ). IsTrue (compares_if_there o d.comparison d.value)) (sym is) compared

reachable_at : (p : List Decision) (s : Spaced) (d : Decision) → Covers None p s → AreDomains s.doms → s.failed ≡ false → d.variable < length s.doms → KeepsValue (dom_at s.doms d.variable) d → IsReachable s.model.variables (map edge_of p) d
reachable_at p s d covers domains alive below keeps =
    let has = has_value s d.variable keeps.value domains below keeps.member in
    let both = covers.only has.assignment alive has.within in
    record {
      assignment = has.assignment;
      declared = both.0;
      taken = all_map _ edge_of p both.1;
      decision = meets_there has.assignment d keeps.value (some_at has.assignment d.variable has.there ∙ ap (λ x. Some x) has.number) keeps.meets;
    }

reachable_each : (p : List Decision) (s : Spaced) (v : ℕ) (choice : List Decision) → Covers None p s → AreDomains s.doms → s.failed ≡ false → v < length s.doms
    → AllByRecursion (λ (d : Decision). d.variable ≡ v) choice → AllByRecursion (KeepsValue (dom_at s.doms v)) choice → AllByRecursion (IsReachable s.model.variables (map edge_of p)) choice
reachable_each p s v [] covers domains alive below on keeps = tt
reachable_each p s v (d ∷ ds) covers domains alive below on keeps = (
  reachable_at p s d covers domains alive (rw on.0 below) (subst (λ (w : ℕ). KeepsValue (dom_at s.doms w) d) (sym on.0) keeps.0),
  reachable_each p s v ds covers domains alive below on.1 keeps.1,
)

pub reachable : (p : List Decision) (s : Spaced) (choice : List Decision) → Covers None p s → AreDomains s.doms → s.failed ≡ false → IsDivision s.doms choice → AllByRecursion (IsReachable s.model.variables (map edge_of p)) choice
reachable p s choice covers domains alive division = reachable_each p s division.variable choice covers domains alive division.below division.on_it division.keeps

-- ---- each alternative is a decision of the model

number_in : (kind : Kind) (set : List (ℤ × ℤ)) (x : ℤ) → HasSetOf kind set → IsInSet set x → IsNumberOf kind x
number_in kinds.Bool set x has member = elim (subst (λ (d : List (ℤ × ℤ)). IsInSet d x) has member) [ inl range ↦ range | inr none ↦ absurd none ]
number_in kinds.Int set x has member = within_limits set x has.within member

-- a number that the variable may have
abbrev MayHave : Option Kind → ℤ → Type 0
MayHave o x = MatchOption o ⊥ (λ (kind : Kind). IsNumberOf kind x)

may_have : (vs : List Variable) (a : List ℤ) (v : ℕ) → AllByRecursion IsVariable vs → AreDeclared vs a → v < length a → MayHave (kind_at vs v) (number_at a v)
may_have [] [] v kept is below = absurd (omega (arith, below))
may_have [] (x ∷ a) v kept is below = absurd is
may_have (u ∷ vs) [] v kept is below = absurd is
may_have (u ∷ vs) (x ∷ a) zero kept is below = number_in u.kind u.set x kept.0 is.0
may_have (u ∷ vs) (x ∷ a) (suc v) kept is below = may_have vs a v kept.1 is.1 (omega (arith, below))

between_of : (kind : Kind) (low x high : ℤ) → IsNumberOf kind low → IsNumberOf kind high → low ≤ℤ x → x ≤ℤ high → IsNumberOf kind x
between_of kinds.Bool low x high l h from to = let a = l.0 in let b = h.1 in (omega (arith, ints, a, from), omega (arith, ints, b, to))
between_of kinds.Int low x high l h from to = let a = l.0 in let b = h.1 in (omega (arith, ints, a, from), omega (arith, ints, b, to))

between_may : (o : Option Kind) (low x high : ℤ) → MayHave o low → MayHave o high → low ≤ℤ x → x ≤ℤ high → MayHave o x
between_may None low x high l h from to = l
between_may (Some kind) low x high l h from to = between_of kind low x high l h from to

end_may : (p : List Decision) (s : Spaced) (v : ℕ) (x : ℤ) → IsModel s.model → Covers None p s → AreDomains s.doms → s.failed ≡ false → v < length s.doms → IsInSet (dom_at s.doms v) x → MayHave (kind_at s.model.variables v) x
end_may p s v x kept covers domains alive below member =
    let has = has_value s v x domains below member in
    let both = covers.only has.assignment alive has.within in
    subst (MayHave (kind_at s.model.variables v)) has.number (may_have s.model.variables has.assignment v kept.sets both.0 has.there)

of_model_at : (p : List Decision) (s : Spaced) (d : Decision) → IsModel s.model → Covers None p s → AreDomains s.doms → s.failed ≡ false → d.variable < length s.doms → IsBetween (dom_at s.doms d.variable) d → IsDecisionOf s.model.variables d
of_model_at p s d kept covers domains alive below between =
    let domain = domains d.variable below in
    between_may (kind_at s.model.variables d.variable) (least (dom_at s.doms d.variable)) d.value (greatest (dom_at s.doms d.variable))
    (end_may p s d.variable (least (dom_at s.doms d.variable)) kept covers domains alive below (least_in (dom_at s.doms d.variable) domain.0.0 domain.1))
    (end_may p s d.variable (greatest (dom_at s.doms d.variable)) kept covers domains alive below (greatest_in (dom_at s.doms d.variable) domain.0.0 domain.1)) between.0 between.1

of_model_each : (p : List Decision) (s : Spaced) (v : ℕ) (choice : List Decision) → IsModel s.model → Covers None p s → AreDomains s.doms → s.failed ≡ false → v < length s.doms
    → AllByRecursion (λ (d : Decision). d.variable ≡ v) choice → AllByRecursion (IsBetween (dom_at s.doms v)) choice → AllByRecursion (IsDecisionOf s.model.variables) choice
of_model_each p s v [] kept covers domains alive below on between = tt
of_model_each p s v (d ∷ ds) kept covers domains alive below on between = (
  of_model_at p s d kept covers domains alive (rw on.0 below) (subst (λ (w : ℕ). IsBetween (dom_at s.doms w) d) (sym on.0) between.0),
  of_model_each p s v ds kept covers domains alive below on.1 between.1,
)

pub of_model : (p : List Decision) (s : Spaced) (choice : List Decision) → IsModel s.model → Covers None p s → AreDomains s.doms → s.failed ≡ false → IsDivision s.doms choice → AllByRecursion (IsDecisionOf s.model.variables) choice
of_model p s choice kept covers domains alive division = of_model_each p s division.variable choice kept covers domains alive division.below division.on_it division.between

pub one_more : (m : Instance) (p : List Decision) (d : Decision) → IsPartOf m p → IsDecisionOf m.variables d → IsPartOf m (p ++ d ∷ [])
one_more m p d part decision = all_both (IsDecisionOf m.variables) p (d ∷ []) part (decision, tt)
