-- Two variables whose difference is a number, or isn't.
use Rattle.std.proofs.Common.{◌≡◌, ◌≢◌, ℕ, ◌<◌, List, [], ◌∷◌, refl, sym, ap, subst, ◌∙◌, arith, length, inl, inr}
use Rattle.std.specs.Prelude.{ℤ, neg_ℤ, ◌+ℤ◌, ◌-ℤ◌, ◌≤ℤ◌, ◌↔◌}
use Rattle.std.proofs.lemmas.Int.{ints}
use Rattle.fz_sets.specs.Sets.{IsInSet, IsWithinLimits, AreRanges, set_size}
use Rattle.fz_dom.proofs.Lists.{same_or_less}
use Rattle.fz_dom.specs.Shape.{least, greatest}
use Rattle.fz_dom.specs.declared.change.Change.{Change}
use Rattle.fz_dom.specs.declared.change.Change.TheVariants.{Same, Changed, Wiped}
use Rattle.fz_spec.specs.declared.term.Term.TheVariants.{Var}
use Rattle.fz_spec.specs.declared.shape.Relation.TheVariants.{Equal, NotEqual}
use Rattle.fz_strength.specs.Domains.{dom_at, number_at, AreDomains, Within}
use Rattle.fz_strength.specs.Events.{IsOnly}
use Rattle.fz_prop.specs.declared.answer.Answer.TheVariants.{Subsumed, Failed}
use Rattle.fz_prop.specs.Answers.{IsAnswerOf, IsCorrectOf}
use Rattle.fz_prop.specs.Stores.{Stored, Shrinks, IsChangeAt}
use Rattle.fz_prop.specs.Truths.{IsAbout, IsSame}
use Rattle.fz_prop.proofs.Grown.{term_limits}
use Rattle.fz_prop.proofs.TermChanges.{only_in, within_kept, kept_term, none_kept}
use Rattle.fz_shift.specs.Differences.{DifferenceTruth, IsCloseAbove, DifferenceLine, IsAnswerDifference, ArePartners}
use Rattle.fz_shift.proofs.Spans.{spanned, ends_rise}

-- ---- the same difference, with the second variable first

pub turned_same : (x y : ℕ) (c d : ℤ) → d ≡ neg_ℤ c → IsSame (DifferenceTruth Equal y x d) (DifferenceTruth Equal x y c) (DifferenceLine Equal y x d) (DifferenceLine Equal x y c)
turned_same x y c d is = record {
  truth = λ a. ((λ e. omega (arith, ints, is, e)), (λ e. omega (arith, ints, is, e)));
  line = λ ds l.
      let back : neg_ℤ d ≡ c = omega (arith, ints, is) in
      (subst (λ (n : ℤ). IsCloseAbove ds x y n) back l.1, subst (λ (n : ℤ). IsCloseAbove ds y x n) is l.0);
}

pub turned_partners : (ds : List (List (ℤ × ℤ))) (x y : ℕ) (c d : ℤ) → d ≡ neg_ℤ c → ArePartners ds y x d → ArePartners ds x y c
turned_partners ds x y c d is h = record {
  below = λ z i. let same : (z +ℤ d) ≡ (z -ℤ c) = omega (arith, ints, is) in subst (λ (u : ℤ). IsInSet (dom_at ds y) u) same (h.above z i);
  above = λ z i. let same : (z -ℤ d) ≡ (z +ℤ c) = omega (arith, ints, is) in subst (λ (u : ℤ). IsInSet (dom_at ds x) u) same (h.below z i);
}

-- ---- a number that leaves the other

-- Where f is fixed, it is about the numbers of o that aren't the one that makes the difference c.
pub apart_about : (x y f o : ℕ) (c v t p : ℤ) (ds : List (List (ℤ × ℤ))) → AreDomains ds → f < length ds → o < length ds → IsOnly (dom_at ds f) v
    → ((z : ℤ) → IsWithinLimits z → (p ≡ z) ↔ (t ≡ z))
    → ((a : List ℤ) → number_at a f ≡ v → DifferenceTruth Equal x y c a ↔ (t ≡ number_at a o))
    → IsAbout (Var o) (λ u. u ≢ p) (DifferenceTruth NotEqual x y c) (DifferenceLine NotEqual x y c) ds
apart_about x y f o c v t p ds domains is_f is_o only partner target =
    let at_f : (a : List ℤ) → Within ds a → number_at a f ≡ v = λ a within. only_in (dom_at ds f) v (number_at a f) only (within.members f is_f) in
    let limits : (a : List ℤ) → Within ds a → IsWithinLimits (number_at a o) = λ a within. term_limits ds (Var o) (number_at a o) is_o domains tt (within.members o is_o) in
    let apart : (a : List ℤ) → Within ds a → number_at a o ≢ p → DifferenceTruth NotEqual x y c a =
    λ a within other e. other (sym ((partner (number_at a o) (limits a within)).1 ((target a (at_f a within)).0 e))) in
    record {
      needs = λ a within differs e. differs ((target a (at_f a within)).1 ((partner (number_at a o) (limits a within)).0 (sym e)));
      enough = apart;
      line = λ es narrowed narrower all fixed a within.
          let before : Within ds a = record {
            size = within.size ∙ narrower.size;
            members = λ u inside. narrower.members u (number_at a u) (within.members u (subst (λ (n : ℕ). u < n) (sym narrower.size) inside));
          } in
          apart a before (all (number_at a o) (within.members o (subst (λ (n : ℕ). o < n) (sym narrower.size) is_o)));
    }

-- ---- partners

-- the domain of another variable stays
pub other_stays : (change : Change) (v u : ℕ) (P : ℤ → Type 0) (r s : Stored) → IsChangeAt change v P r s → u ≢ v → dom_at s.doms u ≡ dom_at r.doms u
other_stays Same v u P r s h ne = ap (λ (t : Stored). dom_at t.doms u) h.0
other_stays Wiped v u P r s h ne = ap (λ (t : Stored). dom_at t.doms u) h.0
other_stays Changed v u P r s h ne = h.others u ne

-- what has the property is kept
kept_in : (change : Change) (v : ℕ) (P : ℤ → Type 0) (r s : Stored) → IsChangeAt change v P r s → (z : ℤ) → IsInSet (dom_at r.doms v) z → P z → IsInSet (dom_at s.doms v) z
kept_in Same v P r s h z i p = subst (λ (t : Stored). IsInSet (dom_at t.doms v) z) (sym h.0) i
kept_in Wiped v P r s h z i p = subst (λ (t : Stored). IsInSet (dom_at t.doms v) z) (sym h.0) i
kept_in Changed v P r s h z i p = (h.kept z).1 (i, p)

-- after v keeps the numbers so far above those of o, each has its partner in o
pub partners_after : (change : Change) (v o : ℕ) (c : ℤ) (r s : Stored) → v ≢ o → IsChangeAt change v (λ z. IsInSet (dom_at r.doms o) (z -ℤ c)) r s → (change ≡ Wiped → ⊥)
    → (z : ℤ) → IsInSet (dom_at s.doms v) z → IsInSet (dom_at s.doms o) (z -ℤ c)
partners_after change v o c r s apart h not z i =
    rw (other_stays change v o (λ w. IsInSet (dom_at r.doms o) (w -ℤ c)) r s h (λ e. apart (sym e)))
    ((kept_term change (Var v) (λ w. IsInSet (dom_at r.doms o) (w -ℤ c)) r s h not z i).1)

-- and where those of o had theirs in v before, they have them still
pub partners_still : (change : Change) (v o : ℕ) (c d : ℤ) (r s : Stored) → v ≢ o → d ≡ neg_ℤ c → IsChangeAt change v (λ z. IsInSet (dom_at r.doms o) (z -ℤ d)) r s
    → ((z : ℤ) → IsInSet (dom_at r.doms o) z → IsInSet (dom_at r.doms v) (z -ℤ c)) → (z : ℤ) → IsInSet (dom_at s.doms o) z → IsInSet (dom_at s.doms v) (z -ℤ c)
partners_still change v o c d r s apart turned h before z i =
    let at_o : IsInSet (dom_at r.doms o) z =
    subst (λ (e : List (ℤ × ℤ)). IsInSet e z) (other_stays change v o (λ w. IsInSet (dom_at r.doms o) (w -ℤ d)) r s h (λ e. apart (sym e))) i in
    let back : ((z -ℤ c) -ℤ d) ≡ z = omega (arith, ints, turned) in
    kept_in change v (λ w. IsInSet (dom_at r.doms o) (w -ℤ d)) r s h (z -ℤ c) (before z at_o) (rw back at_o)

-- no assignment is lost whose number of v has its partner in o
pub correct_partners : (change : Change) (v o : ℕ) (d : ℤ) (T : List ℤ → Type 0) (r s : Stored) → o < length r.doms → IsChangeAt change v (λ z. IsInSet (dom_at r.doms o) (z -ℤ d)) r s
    → Shrinks r s → ((a : List ℤ) → T a → (number_at a v -ℤ d) ≡ number_at a o) → IsCorrectOf T r.doms s.doms
correct_partners change v o d T r s is_o h shrinks partner a holds within =
    within_kept change (Var v) (λ z. IsInSet (dom_at r.doms o) (z -ℤ d)) r s a h shrinks within (rw (partner a holds) (within.members o is_o))

pub failed_partners : (v o : ℕ) (d : ℤ) (T : List ℤ → Type 0) (R : List (List (ℤ × ℤ)) → Type 0) (r s : Stored) → v < length r.doms → o < length r.doms
    → IsChangeAt Wiped v (λ z. IsInSet (dom_at r.doms o) (z -ℤ d)) r s → ((a : List ℤ) → T a → (number_at a v -ℤ d) ≡ number_at a o) → IsAnswerOf Failed T R r.doms s.doms
failed_partners v o d T R r s is_v is_o h partner a within holds =
    none_kept (Var v) (λ z. IsInSet (dom_at r.doms o) (z -ℤ d)) r s h (number_at a v) (within.members v is_v) (rw (partner a holds) (within.members o is_o))

-- ---- the line

line_of_ends : (ds : List (List (ℤ × ℤ))) (x y : ℕ) (c : ℤ) → least (dom_at ds x) ≡ (least (dom_at ds y) +ℤ c) → greatest (dom_at ds x) ≡ (greatest (dom_at ds y) +ℤ c)
    → least (dom_at ds y) ≤ℤ greatest (dom_at ds y) → DifferenceLine Equal x y c ds
line_of_ends ds x y c low high rises = (
  record { least_end = omega (arith, ints, low); greatest_end = omega (arith, ints, high); reached = omega (arith, ints, low, rises) },
  record { least_end = omega (arith, ints, low); greatest_end = omega (arith, ints, high); reached = omega (arith, ints, high, rises) },
)

pub partnered_line : (ds : List (List (ℤ × ℤ))) (x y : ℕ) (c : ℤ) → AreDomains ds → x < length ds → y < length ds
    → ((z : ℤ) → IsInSet (dom_at ds x) z → IsInSet (dom_at ds y) (z -ℤ c)) → ((z : ℤ) → IsInSet (dom_at ds y) z → IsInSet (dom_at ds x) (z +ℤ c)) → DifferenceLine Equal x y c ds
partnered_line ds x y c domains is_x is_y partners back =
    let sx = spanned ds (Var x) domains is_x in
    let sy = spanned ds (Var y) domains is_y in
    let a = sy.above (least (dom_at ds x) -ℤ c) (partners (least (dom_at ds x)) sx.low) in
    let b = sx.above (least (dom_at ds y) +ℤ c) (back (least (dom_at ds y)) sy.low) in
    let d = sy.below (greatest (dom_at ds x) -ℤ c) (partners (greatest (dom_at ds x)) sx.high) in
    let e = sx.below (greatest (dom_at ds y) +ℤ c) (back (greatest (dom_at ds y)) sy.high) in
    line_of_ends ds x y c (omega (arith, ints, a, b)) (omega (arith, ints, d, e)) (ends_rise (dom_at ds y) sy)

-- where the first is fixed, and each number of the second has its partner in it
pub fixed_partners : (ds : List (List (ℤ × ℤ))) (x y : ℕ) (c v : ℤ) → x < length ds → y < length ds → IsOnly (dom_at ds x) v
    → ((z : ℤ) → IsInSet (dom_at ds y) z → IsInSet (dom_at ds x) (z +ℤ c)) → IsAnswerDifference Equal x y c Subsumed ds ds
fixed_partners ds x y c v is_x is_y only back =
    let at_y : (z : ℤ) → IsInSet (dom_at ds y) z → (z +ℤ c) ≡ v = λ z i. only_in (dom_at ds x) v (z +ℤ c) only (back z i) in (
      (λ a within.
          let p = only_in (dom_at ds x) v (number_at a x) only (within.members x is_x) in
          let q = at_y (number_at a y) (within.members y is_y) in
          omega (arith, ints, p, q)),
      (λ es domains narrower.
          let in_x : x < length es = subst (λ (n : ℕ). x < n) (sym narrower.size) is_x in
          let in_y : y < length es = subst (λ (n : ℕ). y < n) (sym narrower.size) is_y in
          let sx = spanned es (Var x) domains in_x in
          let sy = spanned es (Var y) domains in_y in
          let low = only_in (dom_at ds x) v (least (dom_at es x)) only (narrower.members x (least (dom_at es x)) sx.low) in
          let high = only_in (dom_at ds x) v (greatest (dom_at es x)) only (narrower.members x (greatest (dom_at es x)) sx.high) in
          let first = at_y (least (dom_at es y)) (narrower.members y (least (dom_at es y)) sy.low) in
          let last = at_y (greatest (dom_at es y)) (narrower.members y (greatest (dom_at es y)) sy.high) in
          line_of_ends es x y c (omega (arith, ints, low, first)) (omega (arith, ints, high, last)) (ends_rise (dom_at es y) sy)),
    )

-- ---- where each number of the first has its partner in the second, and this has as many, each of its numbers has its partner too

abbrev moved : ℤ → List (ℤ × ℤ) → List (ℤ × ℤ)
moved c [] = []
moved c (r ∷ rs) = (r.0 -ℤ c, r.1 -ℤ c) ∷ moved c rs

moved_ranges : (c : ℤ) (d : List (ℤ × ℤ)) → AreRanges d → AreRanges (moved c d)
moved_ranges c [] h = tt
moved_ranges c (r ∷ []) h = omega (arith, ints, h)
moved_ranges c (r ∷ s ∷ rs) h = let a = h.0 in let b = h.1 in (omega (arith, ints, a), omega (arith, ints, b), moved_ranges c (s ∷ rs) h.2)

moved_size : (c : ℤ) (d : List (ℤ × ℤ)) → set_size (moved c d) ≡ set_size d
moved_size c [] = refl
moved_size c (r ∷ rs) =
    let width : ((r.1 -ℤ c) -ℤ (r.0 -ℤ c)) ≡ (r.1 -ℤ r.0) = omega (arith, ints) in
    let rest = moved_size c rs in
    rw (width, rest) refl

moved_in : (c : ℤ) (d : List (ℤ × ℤ)) (z : ℤ) → IsInSet (moved c d) z → IsInSet d (z +ℤ c)
moved_in c [] z i = absurd i
moved_in c (r ∷ rs) z i = elim i [
  | inl here ↦ (let a = here.0 in let b = here.1 in inl (omega (arith, ints, a), omega (arith, ints, b)))
  | inr later ↦ inr (moved_in c rs z later)
]

pub as_many : (d e : List (ℤ × ℤ)) (c : ℤ) → AreRanges d → AreRanges e → set_size d ≡ set_size e → ((z : ℤ) → IsInSet d z → IsInSet e (z -ℤ c)) → (z : ℤ) → IsInSet e z → IsInSet d (z +ℤ c)
as_many d e c ranges others size partners z i =
    let size_is = moved_size c d in
    let among : (x : ℤ) → IsInSet (moved c d) x → IsInSet e x = λ x j.
    (let same : ((x +ℤ c) -ℤ c) ≡ x = omega (arith, ints) in subst (λ (u : ℤ). IsInSet e u) same (partners (x +ℤ c) (moved_in c d x j))) in
    elim (same_or_less e (moved c d) others (moved_ranges c d ranges) among) [
      | inl same ↦ moved_in c d z (subst (λ (s : List (ℤ × ℤ)). IsInSet s z) (sym same) i)
      | inr less ↦ absurd (omega (arith, size, size_is, less))
    ]
