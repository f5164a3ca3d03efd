-- Propagators of what the constraints of a model say.
use Rattle.std.proofs.Common.{◌≡◌, inl, inr, ℕ, zero, suc, ◌+◌, ◌<◌, List, [], ◌∷◌, ◌++◌, ◌∙◌, refl, sym, ap, subst, arith, length, take, length-append, append_assoc, take_all}
use Rattle.std.proofs.lemmas.Bool.{and_parts, eqb-true, leb-true}
use Rattle.std.proofs.lemmas.Bool.Decides.{eqb_tells}
use Rattle.std.proofs.lemmas.List.{length-map, length-replicate, length-take-le}
use Rattle.std.specs.Prelude.{ℤ, pos, Some, slice_get, nat_eq, not, ◌&&◌, ◌||◌, ◌⊎◌, Bool, true, false, if◌then◌else◌, ◌≤◌, ◌^◌}
use Rattle.std.specs.List.{AllByRecursion}
use Rattle.fz_sets.proofs.Lists.{all_at, all_left, all_of, all_right, all_both, some_is}
use Rattle.fz_spec.specs.declared.term.Term.{Term}
use Rattle.fz_spec.specs.Constraints.{Constraint, IsTrueOf, term_values}
use Rattle.fz_spec.specs.Instance.{Instance, Variable}
use Rattle.fz_model.specs.Kept.{IsConstraint, IsModel, IsVariable}
use Rattle.fz_spec.specs.declared.shape.Relation.TheVariants.{Equal}
use Rattle.fz_strength.specs.Events.{AreBelow}
use Rattle.fz_strength.specs.Sayings.{Saying, Count, Differ, DifferByBounds, Inverse, Sum, SumByNumbers, saying_of, said_terms, truth_of, waits_of, Member}
use Rattle.fz_strength.proofs.Says.{says}
use Rattle.fz_strength.specs.Domains.{IsTermOf, Within}
use Rattle.fz_prop.specs.Stores.{FitsTerm, declared_sets}
use Rattle.fz_strength.proofs.Sayings.{below}
use Rattle.fz_says.specs.Fits.{IsKnown, IsFit}
use Rattle.fz_says.proofs.Fitting.{said_fits}
use Rattle.fz_says.proofs.Suiting.{fit_suits}
use Rattle.fz_spec.specs.declared.limits.TheConstants.{CONSTRAINT_LIMIT, ELEMENT_LIMIT}
use Rattle.fz_propagators.specs.declared.any.AnyPropagator.{AnyPropagator}
use Rattle.fz_plain.specs.Plain.{IsPlainOf}
use Rattle.fz_propagators.specs.Forms.{said_of}
use Rattle.fz_agenda.specs.Wakes.{Waking}
use Rattle.fz_engine.specs.Networks.{AreSaidOf, AreOf, IsAmong, IsListing, IsNetwork, IsSaidPlain, sayings_of}
use Rattle.fz_engine.specs.Stronger.{are_few, is_closed, is_kept_whole, is_short, said_once_more, stronger_of, total}
use Rattle.fz_engine.proofs.Listing.{at_end}
use Rattle.fz_engine.proofs.Totals.{inverses_differ, total_true}
use Rattle.fz_spec.specs.Signatures.{shape_of}
use Rattle.fz_model.specs.Groups.{within}

-- ---- what is said

at_front : (xs ys : List Saying) (i : ℕ) (x : Saying) → slice_get xs i ≡ Some x → slice_get (xs ++ ys) i ≡ Some x
at_front [] ys i x is = absurd (cc (is))
at_front (y ∷ xs) ys zero x is = is
at_front (y ∷ xs) ys (suc i) x is = at_front xs ys i x is

abbrev Follow : List ℤ → List Saying → Type 0
Follow a sayings = AllByRecursion (λ (saying : Saying). truth_of saying a) sayings

-- ---- what is said once more

pub all_each : {X : Type 0} (P Q : X → Type 0) (xs : List X) → ((x : X) → P x → Q x) → AllByRecursion P xs → AllByRecursion Q xs
all_each P Q [] each all = tt
all_each P Q (x ∷ xs) each all = (each x all.0, all_each P Q xs each all.1)

known_terms : (vs : List Variable) (ts : List Term) → AllByRecursion (IsKnown vs) ts → AllByRecursion (IsTermOf (length vs)) ts
known_terms vs [] all = tt
known_terms vs (t ∷ ts) all = (all.0.1, known_terms vs ts all.1)

if_said : (P : Saying → Type 0) (b : Bool) (t : Saying) → (b ≡ true → P t) → AllByRecursion P (if b then t ∷ [] else [])
if_said P true t holds = (holds refl, tt)
if_said P false t holds = tt

if_few : (b : Bool) (t : Saying) → length (if b then t ∷ [] else []) ≤ 2
if_few true t = omega arith
if_few false t = omega arith

-- of a constraint at most two more
few_more : (vs : List Variable) (whole : Bool) (s : Saying) → length (said_once_more vs whole s) ≤ 2
few_more vs whole (Differ xs) = omega arith
few_more vs whole (Inverse fs gs) = omega arith
few_more vs whole (Sum Equal ks ts c) = if_few (whole && (is_short ts && not (is_kept_whole vs ks ts))) (SumByNumbers ks ts c)
few_more vs whole (Count xs cover counts) = if_few (are_few xs && (are_few counts && is_closed vs xs cover)) (total counts (pos (length xs)))
few_more vs whole s = omega arith

closed_of : (vs : List Variable) (xs : List Term) (cover : List ℤ) (counts : List Term) → (are_few xs && (are_few counts && is_closed vs xs cover)) ≡ true → (are_few counts ≡ true) × (is_closed vs xs cover ≡ true)
closed_of vs xs cover counts is =
    let rest = and_parts (are_few xs) (are_few counts && is_closed vs xs cover) is in
    and_parts (are_few counts) (is_closed vs xs cover) rest.1

more_true : (vs : List Variable) (whole : Bool) (s : Saying) (a : List ℤ) → AllByRecursion IsVariable vs → IsFit vs s → Within (declared_sets vs) a → truth_of s a → Follow a (said_once_more vs whole s)
more_true vs whole (Differ xs) a sets fit within holds = (holds, tt)
more_true vs whole (Inverse fs gs) a sets fit within holds = let both = inverses_differ (term_values a fs) (term_values a gs) holds in (both.0, (both.1, tt))
more_true vs whole (Sum Equal ks ts c) a sets fit within holds = if_said (λ (s : Saying). truth_of s a) (whole && (is_short ts && not (is_kept_whole vs ks ts))) (SumByNumbers ks ts c) (λ is. holds)
more_true vs whole (Count xs cover counts) a sets fit within holds =
    if_said (λ (s : Saying). truth_of s a) (are_few xs && (are_few counts && is_closed vs xs cover)) (total counts (pos (length xs)))
    (λ is. total_true vs a xs cover counts sets within (known_terms vs xs (all_left (IsKnown vs) xs counts fit.terms)) (closed_of vs xs cover counts is).1 holds)
more_true vs whole s a sets fit within holds = tt

two_or_three : (n : ℕ) → (nat_eq n 2 || nat_eq n 3) ≡ true → (n ≡ 2) ⊎ (n ≡ 3)
two_or_three n h = elim (eqb_tells n 2) [ inl two ↦ inl two.1 | inr other ↦ inr (eqb-true n 3 (rw other.0 at h)) ]

differ_fit : (vs : List Variable) (ts : List Term) → AllByRecursion (IsKnown vs) ts → IsFit vs (DifferByBounds ts)
differ_fit vs ts known = record { terms = known; truths = tt; sum = tt }

numbers_fit : (vs : List Variable) (whole : Bool) (ks : List ℤ) (ts : List Term) (c : ℤ) → IsFit vs (Sum Equal ks ts c) → (whole && (is_short ts && not (is_kept_whole vs ks ts))) ≡ true → IsFit vs (SumByNumbers ks ts c)
numbers_fit vs whole ks ts c fit is =
    let rest = and_parts whole (is_short ts && not (is_kept_whole vs ks ts)) is in
    let short = and_parts (is_short ts) (not (is_kept_whole vs ks ts)) rest.1 in
    record { terms = fit.terms; truths = tt; sum = (fit.sum.1, two_or_three (length ts) short.0) }

total_fit : (vs : List Variable) (counts : List Term) (n : ℤ) → AllByRecursion (IsKnown vs) counts → are_few counts ≡ true → IsFit vs (total counts n)
total_fit vs counts n known is =
    let few = leb-true (length counts) ELEMENT_LIMIT is in
    record { terms = known; truths = tt; sum = ((λ e. cc), length-replicate (length counts) (pos 1), omega (arith, few)) }

more_fit : (vs : List Variable) (whole : Bool) (s : Saying) → IsFit vs s → AllByRecursion (IsFit vs) (said_once_more vs whole s)
more_fit vs whole (Differ xs) fit = (differ_fit vs xs fit.terms, tt)
more_fit vs whole (Inverse fs gs) fit = (differ_fit vs fs (all_left (IsKnown vs) fs gs fit.terms), (differ_fit vs gs (all_right (IsKnown vs) fs gs fit.terms), tt))
more_fit vs whole (Sum Equal ks ts c) fit = if_said (IsFit vs) (whole && (is_short ts && not (is_kept_whole vs ks ts))) (SumByNumbers ks ts c) (λ is. numbers_fit vs whole ks ts c fit is)
more_fit vs whole (Count xs cover counts) fit =
    if_said (IsFit vs) (are_few xs && (are_few counts && is_closed vs xs cover)) (total counts (pos (length xs)))
    (λ is. total_fit vs counts (pos (length xs)) (all_right (IsKnown vs) xs counts fit.terms) (closed_of vs xs cover counts is).0)
more_fit vs whole s fit = tt

-- of code's answer
pub code_fits : (vs : List Variable) (whole : Bool) (s : Saying) (more : List Saying) → more ≡ said_once_more vs whole s → IsFit vs s → AllByRecursion (IsFit vs) more
code_fits vs whole s more is fit = subst (λ (l : List Saying). AllByRecursion (IsFit vs) l) (sym is) (more_fit vs whole s fit)

pub said_none : (vs : List Variable) → AreSaidOf vs [] []
said_none vs = record {
  said = record { each = λ i c is. absurd (cc (is)); more = λ i c is. absurd (cc (is)); follow = λ a within all. tt };
  fit = tt;
  few = omega arith;
}

-- Of one constraint: what it says is among these, and what is said once more of it; all fit, and are true where it is.
record IsSaidBy (vs : List Variable) (c : Constraint) (block : List Saying) (most : ℕ) : Type 0 where
  own : IsAmong block (saying_of c)
  more : AllByRecursion (IsAmong block) (stronger_of vs c)
  follow : (a : List ℤ) → Within (declared_sets vs) a → IsTrueOf a c → Follow a block
  fit : AllByRecursion (IsFit vs) block
  few : length block ≤ most

said_whole : (vs : List Variable) (c : Constraint) → AllByRecursion IsVariable vs → IsFit vs (saying_of c) → IsSaidBy vs c (saying_of c ∷ stronger_of vs c) 3
said_whole vs c sets fit =
    let few = few_more vs c.whole (saying_of c) in
    record {
      own = (0, refl);
      more = all_of (IsAmong (saying_of c ∷ stronger_of vs c)) (stronger_of vs c) (λ i x is. (suc i, is));
      follow = λ a within holds. (let own = (says c a).0 holds in (own, more_true vs c.whole (saying_of c) a sets fit within own));
      fit = (fit, more_fit vs c.whole (saying_of c) fit);
      few = omega (arith, few);
    }

behind_plain : (vs : List Variable) (c : Constraint) (p : Saying) (block : List Saying) → IsFit vs (saying_of c) → IsPlainOf (saying_of c) p → IsSaidBy vs c block 3 → IsSaidBy vs c (p ∷ block) 4
behind_plain vs c p block fit plain said =
    let few = said.few in
    record {
      own = (suc said.own.0, said.own.1);
      more = all_each (IsAmong block) (IsAmong (p ∷ block)) (stronger_of vs c) (λ saying at. (suc at.0, at.1)) said.more;
      follow = λ a within holds. (plain.follows a ((says c a).0 holds), said.follow a within holds);
      fit = (plain.fits vs fit, said.fit);
      few = omega (arith, few);
    }

at_behind : (xs ys : List Saying) (j : ℕ) (x : Saying) → slice_get ys j ≡ Some x → (i : ℕ) × (slice_get (xs ++ ys) i ≡ Some x)
at_behind [] ys j x is = (j, is)
at_behind (y ∷ xs) ys j x is = let there = at_behind xs ys j x is in (suc there.0, there.1)

-- one constraint more
with_block : (vs : List Variable) (cs : List Constraint) (c : Constraint) (sayings block : List Saying) → AreSaidOf vs cs sayings → IsSaidBy vs c block 4 → AreSaidOf vs (cs ++ c ∷ []) (sayings ++ block)
with_block vs cs c sayings block so_far said =
    let size = length-append sayings block in
    let size_of_cs = length-append cs (c ∷ []) in
    let few = so_far.few in
    let four = said.few in
    let front : (x : Saying) → IsAmong sayings x → IsAmong (sayings ++ block) x = λ x p. (p.0, at_front sayings block p.0 x p.1) in
    let behind : (x : Saying) → IsAmong block x → IsAmong (sayings ++ block) x = λ x p. at_behind sayings block p.0 x p.1 in
    record {
      said = record {
        each = λ i d is. elim (at_end cs c d i is) [
          | inl there ↦ front (saying_of d) (so_far.said.each i d there)
          | inr last ↦ behind (saying_of d) (subst (λ (x : Constraint). IsAmong block (saying_of x)) last.1 said.own)
        ];
        more = λ i d is. elim (at_end cs c d i is) [
          | inl there ↦ all_each (IsAmong sayings) (IsAmong (sayings ++ block)) (stronger_of vs d) front (so_far.said.more i d there)
          | inr last ↦
              all_each (IsAmong block) (IsAmong (sayings ++ block)) (stronger_of vs d) behind
              (subst (λ (x : Constraint). AllByRecursion (IsAmong block) (stronger_of vs x)) last.1 said.more)
        ];
        follow = λ a within all.
            all_both (λ (s : Saying). truth_of s a) sayings block (so_far.said.follow a within (all_left (IsTrueOf a) cs (c ∷ []) all))
            (said.follow a within (all_right (IsTrueOf a) cs (c ∷ []) all).0);
      };
      fit = all_both (IsFit vs) sayings block so_far.fit said.fit;
      few = omega (arith, size, size_of_cs, few, four);
    }

four_at_most : (vs : List Variable) (c : Constraint) (block : List Saying) → IsSaidBy vs c block 3 → IsSaidBy vs c block 4
four_at_most vs c block said = let few = said.few in record { own = said.own; more = said.more; follow = said.follow; fit = said.fit; few = omega (arith, few) }

said_more_of : (vs : List Variable) (cs : List Constraint) (c : Constraint) (sayings plain : List Saying) → AllByRecursion IsVariable vs → AreSaidOf vs cs sayings → IsFit vs (saying_of c)
    → IsSaidPlain (saying_of c) sayings plain → AreSaidOf vs (cs ++ c ∷ []) (plain ++ saying_of c ∷ stronger_of vs c)
said_more_of vs cs c sayings plain sets so_far fit (inl same) =
    let block = saying_of c ∷ stronger_of vs c in
    subst (λ (l : List Saying). AreSaidOf vs (cs ++ c ∷ []) (l ++ block)) (sym same)
    (with_block vs cs c sayings block so_far (four_at_most vs c block (said_whole vs c sets fit)))
said_more_of vs cs c sayings plain sets so_far fit (inr more) =
    let block = saying_of c ∷ stronger_of vs c in
    let p = more.0 in
    subst (λ (l : List Saying). AreSaidOf vs (cs ++ c ∷ []) l) (sym (append_assoc sayings (p ∷ []) block) ∙ ap (λ (l : List Saying). l ++ block) (sym more.2))
    (with_block vs cs c sayings (p ∷ block) so_far (behind_plain vs c p block fit more.1 (said_whole vs c sets fit)))

-- ---- what fits the model

fits_at : (m : Instance) (i : ℕ) (c : Constraint) → IsModel m → slice_get m.constraints i ≡ Some c → IsFit m.variables (saying_of c)
fits_at m i c model is = said_fits m.variables c (all_at (IsConstraint m.variables) m.constraints i c model.constrained is)

pub fits_of : (m : Instance) (cs : List Constraint) (i : ℕ) (c : Constraint) → IsModel m → cs ≡ m.constraints → slice_get cs i ≡ Some c → IsFit m.variables (saying_of c)
fits_of m cs i c model are is = fits_at m i c model (subst (λ (l : List Constraint). slice_get l i ≡ Some c) are is)

known_fits : (vs : List Variable) (ts : List Term) → AllByRecursion (IsKnown vs) ts → AllByRecursion FitsTerm ts
known_fits vs [] all = tt
known_fits vs (t ∷ ts) all = (all.0.0, known_fits vs ts all.1)

pub limits_of : (vs : List Variable) (saying : Saying) → IsFit vs saying → AllByRecursion FitsTerm (said_terms saying)
limits_of vs saying fit = known_fits vs (said_terms saying) fit.terms

pub waits_below : (vs : List Variable) (saying : Saying) → IsFit vs saying → AreBelow (waits_of saying) (length vs)
waits_below vs saying fit = below (length vs) saying (known_terms vs (said_terms saying) fit.terms)

pub declared_length : (vs : List Variable) → length (declared_sets vs) ≡ length vs
declared_length vs = length-map vs (λ (v : Variable). v.set)

terms_declared : (m : Instance) (sayings : List Saying) → IsModel m → AllByRecursion (IsFit m.variables) sayings → AreOf sayings (declared_sets m.variables)
terms_declared m sayings model all i saying is =
    let fit = all_at (IsFit m.variables) sayings i saying all is in (
      subst (λ (n : ℕ). AllByRecursion (IsTermOf n) (said_terms saying)) (sym (declared_length m.variables)) (known_terms m.variables (said_terms saying) fit.terms),
      fit_suits m.variables saying model.sets fit,
    )

-- a network whose propagators say what the constraints do
pub network_of : (m : Instance) (sayings : List Saying) (w : Waking) → IsModel m → AreSaidOf m.variables m.constraints sayings → IsListing sayings w (length m.variables)
    → IsNetwork (record { model = m; sayings = sayings; wakes = w })
network_of m sayings w model said listing =
    let some = model.few_constraints in
    let fourfold = said.few in
    record {
      said = said.said;
      listing = listing;
      terms = terms_declared m sayings model said.fit;
      few = omega (arith, some, fourfold);
    }

-- ---- one more

taken_after : (cs : List Constraint) (i : ℕ) (c : Constraint) → slice_get cs i ≡ Some c → take i cs ++ c ∷ [] ≡ take (suc i) cs
taken_after [] i c is = absurd (cc (is))
taken_after (b ∷ cs) zero c is = ap (λ (x : Constraint). x ∷ []) (sym (some_is b c is))
taken_after (b ∷ cs) (suc i) c is = ap (λ (l : List Constraint). b ∷ l) (taken_after cs i c is)

pub said_next : (vs : List Variable) (cs : List Constraint) (i : ℕ) (c : Constraint) (sayings plain : List Saying) → AllByRecursion IsVariable vs → slice_get cs i ≡ Some c → AreSaidOf vs (take i cs) sayings
    → IsFit vs (saying_of c) → IsSaidPlain (saying_of c) sayings plain → AreSaidOf vs (take (i + 1) cs) (plain ++ saying_of c ∷ stronger_of vs c)
said_next vs cs i c sayings plain sets is so_far fit one =
    let next : suc i ≡ i + 1 = omega arith in
    let after = plain ++ saying_of c ∷ stronger_of vs c in
    subst (λ (l : List Constraint). AreSaidOf vs l after) (taken_after cs i c is ∙ ap (λ (k : ℕ). take k cs) next) (said_more_of vs (take i cs) c sayings plain sets so_far fit one)

pub said_all : (vs : List Variable) (cs : List Constraint) (i : ℕ) (sayings : List Saying) → length cs ≤ i → AreSaidOf vs (take i cs) sayings → AreSaidOf vs cs sayings
said_all vs cs i sayings past said = subst (λ (l : List Constraint). AreSaidOf vs l sayings) (take_all i cs past) said

-- there is room for more
pub few_so_far : (vs : List Variable) (ps : List AnyPropagator) (cs : List Constraint) (i : ℕ) → AreSaidOf vs (take i cs) (sayings_of ps) → i ≤ length cs → length cs ≤ CONSTRAINT_LIMIT → length ps + 3 < 2 ^ 32
few_so_far vs ps cs i said within few =
    let size = length-map ps said_of in
    let some = said.few in
    let taken = length-take-le i cs within in
    omega (arith, size, some, taken, within, few)

-- and for three more after what was maybe said
pub few_after : (ps qs : List AnyPropagator) (saying : Saying) → length ps + 3 < 2 ^ 32 → IsSaidPlain saying (sayings_of ps) (sayings_of qs) → length qs + 2 < 2 ^ 32
few_after ps qs saying few (inl same) =
    let size = length-map ps said_of in
    let more = sym (length-map qs said_of) ∙ ap (λ (l : List Saying). length l) same in
    omega (arith, size, more, few)
few_after ps qs saying few (inr more) =
    let size = length-map ps said_of in
    let longer = sym (length-map qs said_of) ∙ ap (λ (l : List Saying). length l) more.2 ∙ length-append (sayings_of ps) (more.0 ∷ []) in
    omega (arith, size, longer, few)

pub few_behind : (ps qs : List AnyPropagator) (saying : Saying) (n : ℕ) → length ps + suc n < 2 ^ 32 → sayings_of qs ≡ sayings_of ps ++ saying ∷ [] → length qs + n < 2 ^ 32
few_behind ps qs saying n few is =
    let size = length-map ps said_of in
    let more = sym (length-map qs said_of) ∙ ap (λ (l : List Saying). length l) is ∙ length-append (sayings_of ps) (saying ∷ []) in
    omega (arith, size, more, few)

-- one after the other
pub said_then : (xs ys zs ms ns : List Saying) (x : Saying) → ys ≡ xs ++ x ∷ [] → ms ≡ ns → zs ≡ ys ++ ms → zs ≡ xs ++ x ∷ ns
said_then xs ys zs ms ns x one is more = more ∙ ap (λ (l : List Saying). l ++ ms) one ∙ append_assoc xs (x ∷ []) ms ∙ ap (λ (l : List Saying). xs ++ x ∷ l) is

-- ---- an element of an array lies in the set of its type

pub said_within : (set : List (ℤ × ℤ)) (term : Term) → Member term set ≡ saying_of (within set term)
unfolding shape_of
said_within set term = refl
