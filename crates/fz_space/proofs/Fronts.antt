-- The variables at the front that have one number left.
use Rattle.std.proofs.Common.{◌≡◌, ◌++◌, take, map, ap, ap₂, ℕ, zero, suc, get_or, Bool, true, Some, ◌+◌, ◌<◌, ◌≤◌, ◌⊎◌, inl, inr, List, [], ◌∷◌, refl, sym, ◌∙◌, subst, arith, length, false}
use Rattle.std.specs.Prelude.{ℤ, slice_get}
use Rattle.std.proofs.lemmas.Bool.{cases_eq}
use Rattle.std.proofs.lemmas.Int.{ints}
use Rattle.std.proofs.lemmas.List.{length_push}
use Rattle.fz_sets.specs.Sets.{AreRanges, IsInSet, set_size, single}
use Rattle.fz_sets.proofs.Sizes.{size_of_one, some_size}
use Rattle.fz_sets.proofs.Lists.{below_or_same}
use Rattle.fz_dom.specs.Shape.{least}
use Rattle.fz_dom.proofs.Lists.{same_or_less}
use Rattle.fz_branch.specs.Values.{is_open}
use Rattle.fz_branch.specs.Picks.{AreClosed}
use Rattle.fz_strength.specs.Domains.{AreDomains, IsNarrower, dom_at, number_at}
use Rattle.fz_engine.specs.Networks.{Networked}
use Rattle.fz_engine.specs.Runs.{IsAlive}
use Rattle.fz_tree.specs.declared.decision.Decision.{Decision}
use Rattle.fz_search_space.specs.Spaces.{Spaced}
use Rattle.fz_prop.specs.Stores.{Stored}
use Rattle.fz_space.specs.Alive.{spaced, FrontFixed, AreSettled}
use Rattle.fz_space.proofs.Living.{single_more}

narrowed : (e : List (ℤ × ℤ)) (x : ℤ) → (e ≡ single x) ⊎ (set_size e < set_size (single x)) → 0 < length e → e ≡ single x
narrowed e x (inl same) some = same
narrowed e x (inr less) some = let one = size_of_one x in let left = some_size e some in absurd (omega (arith, one, left, less))

single_ranges : (x : ℤ) → AreRanges (single x)
single_ranges x = omega (arith, ints)

fixed_at : (ds es : List (List (ℤ × ℤ))) (v : ℕ) (x : ℤ) → AreDomains es → IsNarrower ds es → v < length ds → dom_at ds v ≡ single x → dom_at es v ≡ single x
fixed_at ds es v x narrow narrower within is =
    let inside : v < length es = omega (arith, within, narrower.size) in
    let members : (y : ℤ) → IsInSet (dom_at es v) y → IsInSet (single x) y = λ y h. subst (λ (d : List (ℤ × ℤ)). IsInSet d y) is (narrower.members v y h) in
    narrowed (dom_at es v) x (same_or_less (single x) (dom_at es v) (single_ranges x) (narrow v inside).0.0 members) (narrow v inside).1

-- they stay so in narrower domains
pub front_lasts : (n : ℕ) (ds es : List (List (ℤ × ℤ))) → AreDomains es → IsNarrower ds es → FrontFixed n ds → FrontFixed n es
front_lasts n ds es narrow narrower front = record {
  within = omega (arith, front.within, narrower.size);
  single = λ v h.
      let at = front.single v h in
      let inside : v < length ds = omega (arith, h, front.within) in
      (at.0, fixed_at ds es v at.0 narrow narrower inside at.1);
}

-- so do numbers that variables have for good
pub settled_lasts : (ns : List ℤ) (ds es : List (List (ℤ × ℤ))) → AreDomains es → IsNarrower ds es → AreSettled ns ds → AreSettled ns es
settled_lasts ns ds es narrow narrower settled = record {
  within = omega (arith, settled.within, narrower.size);
  single = λ v h. fixed_at ds es v (number_at ns v) narrow narrower (omega (arith, h, settled.within)) (settled.single v h);
}

pub none_settled : (ds : List (List (ℤ × ℤ))) → AreSettled [] ds
none_settled ds = record { within = omega arith; single = λ v h. absurd (omega (arith, h)) }

number_front : (ns : List ℤ) (x : ℤ) (v : ℕ) → v < length ns → number_at (ns ++ x ∷ []) v ≡ number_at ns v
number_front [] x v h = absurd (omega (arith, h))
number_front (n ∷ ns) x zero h = refl
number_front (n ∷ ns) x (suc v) h = number_front ns x v (omega (arith, h))

number_end : (ns : List ℤ) (x : ℤ) → number_at (ns ++ x ∷ []) (length ns) ≡ x
number_end [] x = refl
number_end (n ∷ ns) x = number_end ns x

-- one more, where one number is left of the next
pub settled_more : (ns : List ℤ) (ds : List (List (ℤ × ℤ))) (x : ℤ) → length ns < length ds → dom_at ds (length ns) ≡ single x → AreSettled ns ds → AreSettled (ns ++ x ∷ []) ds
settled_more ns ds x within is settled = record {
  within = omega (arith, length_push ns x, within);
  single = λ v h. elim (cases_eq v (length ns)) [
    | inl e ↦ subst (λ (u : ℕ). dom_at ds u ≡ single (number_at (ns ++ x ∷ []) u)) (sym e) (is ∙ ap single (sym (number_end ns x)))
    | inr ne ↦
        let before : v < length ns = below_or_same v (length ns) (omega (arith, h, length_push ns x)) ne in
        settled.single v before ∙ ap single (sym (number_front ns x v before))
  ];
}

-- the next one, as the code takes it down
pub settled_next : (ns all : List ℤ) (ds : List (List (ℤ × ℤ))) (d : List (ℤ × ℤ)) (x : ℤ) (n front : ℕ) → n < front → FrontFixed front ds → d ≡ dom_at ds n → x ≡ least d → all ≡ ns ++ x ∷ [] → (length ns ≡ n) × AreSettled ns ds
    → (length all ≡ n + 1) × AreSettled all ds
settled_next ns all ds d x n front before fixed at first pushed settled =
    let one = fixed.single n before in
    let number : x ≡ one.0 = first ∙ ap least (at ∙ one.1) in
    let is : dom_at ds (length ns) ≡ single x = ap (dom_at ds) settled.0 ∙ one.1 ∙ ap single (sym number) in
    let size = settled.0 in
    subst (λ (l : List ℤ). (length l ≡ n + 1) × AreSettled l ds) (sym pushed) (omega (arith, length_push ns x, size), settled_more ns ds x (omega (arith, size, before, fixed.within)) is settled.1)

-- they are the least of the first domains
pub settled_least : (ns : List ℤ) (ds : List (List (ℤ × ℤ))) → AreSettled ns ds → ns ≡ map least (take (length ns) ds)
settled_least [] ds settled = refl
settled_least (n ∷ ns) [] settled = absurd (omega (arith, settled.within))
settled_least (n ∷ ns) (d ∷ ds) settled =
    let first : d ≡ single n = settled.single 0 (omega arith) in
    let others : AreSettled ns ds = record { within = omega (arith, settled.within); single = λ v h. settled.single (suc v) (omega (arith, h)) } in
    ap₂ (λ (m : ℤ) (ms : List ℤ). m ∷ ms) (sym (ap least first)) (settled_least ns ds others)

took_at : (k : ℕ) (ns : List ℤ) (v : ℕ) → v < k → number_at (take k ns) v ≡ number_at ns v
took_at zero ns v h = absurd (omega (arith, h))
took_at (suc k) [] v h = refl
took_at (suc k) (n ∷ ns) zero h = refl
took_at (suc k) (n ∷ ns) (suc v) h = took_at k ns v (omega (arith, h))

take_alike : (k : ℕ) (ds es : List (List (ℤ × ℤ))) → k ≤ length ds → k ≤ length es → ((v : ℕ) → v < k → dom_at ds v ≡ dom_at es v) → take k ds ≡ take k es
take_alike zero ds es small few alike = refl
take_alike (suc k) [] es small few alike = absurd (omega (arith, small))
take_alike (suc k) (d ∷ ds) [] small few alike = absurd (omega (arith, few))
take_alike (suc k) (d ∷ ds) (e ∷ es) small few alike =
    let first : d ≡ e = alike 0 (omega arith) in
    let more = take_alike k ds es (omega (arith, small)) (omega (arith, few)) (λ v h. alike (suc v) (omega (arith, h))) in
    cc (first, more)

-- where as many variables have the same numbers, both have the same domains of these
pub same_front : (k : ℕ) (ns ms : List ℤ) (ds es : List (List (ℤ × ℤ))) → AreSettled ns ds → AreSettled ms es → (k ≤ length ns) × (k ≤ length ms) → take k ns ≡ take k ms → take k ds ≡ take k es
same_front k ns ms ds es settled others within same =
    take_alike k ds es (omega (arith, within.0, settled.within)) (omega (arith, within.1, others.within))
    (λ v h.
    let number : number_at ns v ≡ number_at ms v = sym (took_at k ns v h) ∙ ap (λ (l : List ℤ). number_at l v) same ∙ took_at k ms v h in
    settled.single v (omega (arith, h, within.0)) ∙ ap single number ∙ sym (others.single v (omega (arith, h, within.1))))

-- none of them has more than one value left
pub front_closed : (n : ℕ) (ds : List (List (ℤ × ℤ))) → FrontFixed n ds → AreClosed n ds
front_closed n ds front = λ v h. let at = front.single v h in subst (λ (d : List (ℤ × ℤ)). is_open d ≡ false) (sym at.1) (let one = size_of_one at.0 in rw one refl)

-- one more, where one number is left of the next
pub front_more : (ds : List (List (ℤ × ℤ))) (n : ℕ) (x : ℤ) → n < length ds → dom_at ds n ≡ single x → FrontFixed n ds → FrontFixed (n + 1) ds
front_more ds n x within is front = record {
  within = omega (arith, within);
  single = single_more ds n (dom_at ds n) x refl is front.single;
}

-- ---- the decision of an alternative

pub at_some : (xs : List Decision) (i : ℕ) (d e : Decision) → slice_get xs i ≡ Some d → e ≡ get_or xs i e → e ≡ d
at_some [] i d e at is = cc
at_some (x ∷ xs) zero d e at is = let same : x ≡ d = cc in is ∙ same
at_some (x ∷ xs) (suc i) d e at is = at_some xs i d e at is

-- what hasn't failed had not failed before
pub was_alive : (failed after : Bool) → (failed ≡ true → after ≡ true) → after ≡ false → failed ≡ false
was_alive true after stays alive = absurd (cc (stays refl, alive))
was_alive false after stays alive = refl

lacking_by : (b : Bool) (n : Networked) (states : List ℕ) (s : Stored) (failed after : Bool) (d : Decision) → failed ≡ b → (failed ≡ false → IsAlive n states s) → (failed ≡ true → after ≡ true)
    → (length s.doms ≤ d.variable → after ≡ true) → length n.model.variables ≤ d.variable → after ≡ true
lacking_by true n states s failed after d is alive stays lacking beyond = stays is
lacking_by false n states s failed after d is alive stays lacking beyond = let size = (alive is).size in lacking (omega (arith, size, beyond))

-- a decision on a variable that the model lacks fails
pub lacking_now : (n : Networked) (states : List ℕ) (s : Stored) (failed after : Bool) (now : Spaced) (e d : Decision) → spaced n.model s failed ≡ now → e ≡ d → (failed ≡ false → IsAlive n states s) → (failed ≡ true → after ≡ true)
    → (length s.doms ≤ e.variable → after ≡ true) → length now.model.variables ≤ d.variable → after ≡ true
lacking_now n states s failed after now e d view is alive stays lacking beyond =
    let of_model : length n.model.variables ≤ d.variable = subst (λ (t : Spaced). length t.model.variables ≤ d.variable) (sym view) beyond in
    lacking_by failed n states s failed after e refl alive stays lacking (subst (λ (x : Decision). length n.model.variables ≤ x.variable) (sym is) of_model)
