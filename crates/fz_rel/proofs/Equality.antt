-- Two terms that are equal.
use Rattle.std.proofs.Common.{◌≡◌, ℕ, ◌<◌, List, sym, subst, ◌∙◌, length, inl, inr}
use Rattle.std.specs.Prelude.{ℤ}
use Rattle.std.proofs.lemmas.Bool.{cases_eq}
use Rattle.fz_sets.specs.Sets.{IsInSet}
use Rattle.fz_dom.proofs.Ranges.{same_ranges}
use Rattle.fz_dom.specs.declared.change.Change.{Change}
use Rattle.fz_dom.specs.declared.change.Change.TheVariants.{Same, Changed, Wiped}
use Rattle.fz_spec.specs.declared.term.Term.{Term}
use Rattle.fz_spec.specs.declared.term.Term.TheVariants.{Var}
use Rattle.fz_spec.specs.Constraints.{term_value}
use Rattle.fz_spec.specs.declared.shape.Relation.TheVariants.{Equal}
use Rattle.fz_strength.specs.Domains.{term_set, dom_at, AreDomains, Within, IsTermOf}
use Rattle.fz_strength.specs.Events.{IsOnly}
use Rattle.fz_prop.specs.declared.answer.Answer.{Answer}
use Rattle.fz_prop.specs.declared.answer.Answer.TheVariants.{Fix, NoFix, Subsumed, Failed}
use Rattle.fz_prop.specs.Answers.{IsCorrectOf}
use Rattle.fz_prop.specs.Stores.{Stored, Shrinks, IsChangeAt}
use Rattle.fz_prop.proofs.Filled.{narrower_ranges, one_left, still_only}
use Rattle.fz_prop.specs.Truths.{IsAbout}
use Rattle.fz_prop.proofs.TermChanges.{term_within, narrower_term, only_in, within_kept}
use Rattle.fz_rel.specs.Truths.{TruthOf, LineOf, IsAnswerAs}

-- ---- a number

-- where x is fixed, it is about this number of y
pub equal_about : (x y : Term) (v : ℤ) (ds : List (List (ℤ × ℤ))) → IsTermOf (length ds) x → IsTermOf (length ds) y → IsOnly (term_set ds x) v
    → IsAbout y (λ u. u ≡ v) (TruthOf Equal x y) (LineOf Equal x y) ds
equal_about x y v ds is_x is_y only =
    let at_x : (a : List ℤ) → Within ds a → term_value a x ≡ v = λ a within. only_in (term_set ds x) v (term_value a x) only (term_within ds a x is_x within) in
    record {
      needs = λ a within same. sym same ∙ at_x a within;
      enough = λ a within is. at_x a within ∙ sym is;
      line = λ es domains narrower all.
          still_only ds es x v is_x only domains narrower ∙ sym (one_left (term_set es y) v (narrower_ranges ds es y is_y domains narrower) all);
    }

-- the other way round
pub turned : (x y : Term) (answer : Answer) (ds es : List (List (ℤ × ℤ))) → IsAnswerAs Equal x y answer ds es → IsAnswerAs Equal y x answer ds es
turned x y Fix ds es h = sym h
turned x y NoFix ds es h = h
turned x y Subsumed ds es h = ((λ a within. sym (h.0 a within)), (λ fs domains narrower. sym (h.1 fs domains narrower)))
turned x y Failed ds es h = λ a within same. h a within (sym same)

pub correct_turned : (x y : Term) (ds es : List (List (ℤ × ℤ))) → IsCorrectOf (TruthOf Equal x y) ds es → IsCorrectOf (TruthOf Equal y x) ds es
correct_turned x y ds es h = λ a same within. h a (sym same) within

-- ---- two variables

-- what a change of one leaves of any
left_of : (change : Change) (v u : ℕ) (P : ℤ → Type 0) (r s : Stored) → IsChangeAt change v P r s → (z : ℤ) → IsInSet (dom_at r.doms u) z → P z → IsInSet (dom_at s.doms u) z
left_of Same v u P r s h z i p = subst (λ (t : Stored). IsInSet (dom_at t.doms u) z) (sym h.0) i
left_of Wiped v u P r s h z i p = subst (λ (t : Stored). IsInSet (dom_at t.doms u) z) (sym h.0) i
left_of Changed v u P r s h z i p = elim (cases_eq u v) [
  | inl e ↦ subst (λ (w : ℕ). IsInSet (dom_at s.doms w) z) (sym e) ((h.kept z).1 (subst (λ (w : ℕ). IsInSet (dom_at r.doms w) z) e i, p))
  | inr ne ↦ rw (h.others u ne) i
]

-- and after y keeps those of x, all numbers of x are still in y
pub all_still : (change : Change) (x y : ℕ) (o : List (ℤ × ℤ)) (r s : Stored) → o ≡ dom_at r.doms x → IsChangeAt change y (λ z. IsInSet o z) r s → Shrinks r s
    → ((z : ℤ) → IsInSet (dom_at r.doms x) z → IsInSet (dom_at r.doms y) z) → (z : ℤ) → IsInSet (dom_at s.doms x) z → IsInSet (dom_at s.doms y) z
all_still change x y o r s is h shrinks among z i =
    let before = shrinks.narrower.members x z i in
    left_of change y y (λ w. IsInSet o w) r s h z (among z before) (subst (λ (d : List (ℤ × ℤ)). IsInSet d z) (sym is) before)

-- the number of x is in what y is kept to, and the other way round
in_other : (x y : ℕ) (o : List (ℤ × ℤ)) (ds : List (List (ℤ × ℤ))) (a : List ℤ) → y < length ds → o ≡ dom_at ds y → Within ds a → TruthOf Equal (Var x) (Var y) a → IsInSet o (term_value a (Var x))
in_other x y o ds a is_y is within same =
    subst (λ (z : ℤ). IsInSet o z) (sym same) (subst (λ (d : List (ℤ × ℤ)). IsInSet d (term_value a (Var y))) (sym is) (term_within ds a (Var y) is_y within))

pub correct_same : (change : Change) (x y : ℕ) (o : List (ℤ × ℤ)) (r s : Stored) → y < length r.doms → o ≡ dom_at r.doms y → IsChangeAt change x (λ z. IsInSet o z) r s → Shrinks r s
    → IsCorrectOf (TruthOf Equal (Var x) (Var y)) r.doms s.doms
correct_same change x y o r s is_y is h shrinks a same within = within_kept change (Var x) (λ z. IsInSet o z) r s a h shrinks within (in_other x y o r.doms a is_y is within same)

pub same_sets : (x y : ℕ) (ds : List (List (ℤ × ℤ))) → AreDomains ds → x < length ds → y < length ds
    → ((z : ℤ) → IsInSet (dom_at ds x) z → IsInSet (dom_at ds y) z) → ((z : ℤ) → IsInSet (dom_at ds y) z → IsInSet (dom_at ds x) z)
    → dom_at ds x ≡ dom_at ds y
same_sets x y ds domains is_x is_y among back = same_ranges (dom_at ds x) (dom_at ds y) (domains x is_x).0.0 (domains y is_y).0.0 (λ z. (among z, back z))

pub fixed_same : (x y : ℕ) (v : ℤ) (ds : List (List (ℤ × ℤ))) → x < length ds → y < length ds → IsOnly (dom_at ds x) v
    → ((z : ℤ) → IsInSet (dom_at ds y) z → IsInSet (dom_at ds x) z) → IsAnswerAs Equal (Var x) (Var y) Subsumed ds ds
fixed_same x y v ds is_x is_y only back =
    let about = equal_about (Var x) (Var y) v ds is_x is_y only in
    let all : (u : ℤ) → IsInSet (dom_at ds y) u → u ≡ v = λ u i. only_in (dom_at ds x) v u only (back u i) in (
      (λ a within. about.enough a within (all (term_value a (Var y)) (term_within ds a (Var y) is_y within))),
      (λ es domains narrower. about.line es domains narrower (λ u i. all u (narrower_term ds es (Var y) narrower u i))),
    )
