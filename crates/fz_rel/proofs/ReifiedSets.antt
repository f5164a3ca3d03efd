-- A term in a set, and a Boolean that says whether it is.
use Rattle.std.proofs.Common.{◌≡◌, List, ap, length, arith}
use Rattle.std.specs.Prelude.{ℤ, pos}
use Rattle.fz_sets.specs.Sets.{IsInSet, IsWithinLimits, set_size}
use Rattle.fz_dom.specs.Shape.{IsDomain, least}
use Rattle.fz_dom.specs.Changes.{IsChange}
use Rattle.fz_dom.proofs.Ranges.{least_member, same_ranges, within_limits}
use Rattle.fz_dom.specs.declared.change.Change.{Change}
use Rattle.fz_dom.specs.declared.change.Change.TheVariants.{Same, Changed, Wiped}
use Rattle.fz_spec.specs.declared.term.Term.{Term}
use Rattle.fz_spec.specs.declared.term.Term.TheVariants.{Num, Var}
use Rattle.fz_spec.specs.Constraints.{term_value}
use Rattle.fz_strength.specs.Domains.{term_set, dom_at, AreDomains, Within, IsNarrower, number_at, IsTermOf}
use Rattle.fz_strength.specs.Events.{IsOnly}
use Rattle.fz_strength.specs.Memberships.{LiesIn, LiesOutside}
use Rattle.fz_strength.specs.Promises.{IsTruth}
use Rattle.fz_prop.specs.declared.answer.Answer.{Answer}
use Rattle.fz_prop.specs.declared.answer.Answer.TheVariants.{Fix, NoFix, Subsumed, Failed}
use Rattle.fz_prop.specs.Answers.{IsAnswerOf, IsCorrectOf}
use Rattle.fz_prop.specs.Stores.{FitsTerm}
use Rattle.fz_prop.proofs.Filled.{narrower_ranges}
use Rattle.fz_prop.specs.Truths.{AreSides, IsAbout, TruthWith}
use Rattle.fz_prop.proofs.Reifying.{one_answer, zero_answer, zero_correct, shown_about, refuted_about}
use Rattle.fz_prop.proofs.TermChanges.{term_within, narrower_term}
use Rattle.fz_rel.specs.Members.{IsMember, MemberLine, IsOverlap}
use Rattle.fz_rel.specs.Reified.{member_sides, ReifiedMemberLine, AreOthers}

not_both : (ds es : List (List (ℤ × ℤ))) (x : Term) (set : List (ℤ × ℤ)) → IsTermOf (length ds) x → AreDomains es → IsNarrower ds es → LiesIn (term_set es x) set → LiesOutside (term_set es x) set → ⊥
not_both ds es x set is domains narrower inside outside =
    let has = narrower_ranges ds es x is domains narrower in
    let low = (least_member (term_set es x) has.some has.ranges).0 in
    outside (least (term_set es x)) low (inside (least (term_set es x)) low)

pub are_member_sides : (x : Term) (set : List (ℤ × ℤ)) (ds : List (List (ℤ × ℤ))) → IsTermOf (length ds) x → AreSides (member_sides x set) ds
are_member_sides x set ds is = record {
  one = λ es domains narrower inside outside. not_both ds es x set is domains narrower inside outside;
  zero = λ es domains narrower outside inside. not_both ds es x set is domains narrower inside outside;
}

-- ---- the Boolean is 1, or 0

pub inside_answer : (answer : Answer) (x : Term) (set : List (ℤ × ℤ)) (r : Term) (ds es : List (List (ℤ × ℤ))) → IsTermOf (length ds) x → IsTermOf (length ds) r → IsOnly (term_set ds r) (pos 1)
    → AreDomains es → IsNarrower ds es → IsAnswerOf answer (IsMember x set) (MemberLine x set) ds es → IsAnswerOf answer (TruthWith (IsMember x set) r) (ReifiedMemberLine x set r) ds es
inside_answer answer x set r ds es is_x is_r one domains narrower h =
    one_answer answer (IsMember x set) (member_sides x set) r ds es is_r one (are_member_sides x set ds is_x) domains narrower h

-- a number that isn't in the set is among the others
value_limits : (x : Term) (ds : List (List (ℤ × ℤ))) (a : List ℤ) → IsTermOf (length ds) x → FitsTerm x → AreDomains ds → Within ds a → IsWithinLimits (term_value a x)
value_limits (Num n) ds a is fits domains within = fits
value_limits (Var v) ds a is fits domains within = within_limits (dom_at ds v) (number_at a v) (domains v is).0.1 (within.members v is)

pub outside_correct : (x : Term) (set others : List (ℤ × ℤ)) (r : Term) (ds es : List (List (ℤ × ℤ))) → AreOthers set others → IsTermOf (length ds) x → FitsTerm x → AreDomains ds
    → IsTermOf (length ds) r → IsOnly (term_set ds r) (pos 0) → IsCorrectOf (IsMember x others) ds es → IsCorrectOf (TruthWith (IsMember x set) r) ds es
outside_correct x set others r ds es are is_x fits filled is_r zero h =
    zero_correct (IsMember x set) r ds es is_r zero (λ a out within. h a ((are (term_value a x)).1 (value_limits x ds a is_x fits filled within, out)) within)

turned : (answer : Answer) (x : Term) (set others : List (ℤ × ℤ)) (ds es : List (List (ℤ × ℤ))) → AreOthers set others → IsTermOf (length ds) x → FitsTerm x → AreDomains ds
    → IsAnswerOf answer (IsMember x others) (MemberLine x others) ds es → IsAnswerOf answer (λ a. IsMember x set a → ⊥) (λ fs. LiesOutside (term_set fs x) set) ds es
turned Fix x set others ds es are is_x fits filled h = λ u i. ((are u).0 (h u i)).1
turned NoFix x set others ds es are is_x fits filled h = h
turned Subsumed x set others ds es are is_x fits filled h = (
  (λ a within. ((are (term_value a x)).0 (h.0 a within)).1),
  (λ fs domains narrower u i. ((are u).0 (h.1 fs domains narrower u i)).1),
)
turned Failed x set others ds es are is_x fits filled h = λ a within out. h a within ((are (term_value a x)).1 (value_limits x ds a is_x fits filled within, out))

pub outside_answer : (answer : Answer) (x : Term) (set others : List (ℤ × ℤ)) (r : Term) (ds es : List (List (ℤ × ℤ))) → AreOthers set others → IsTermOf (length ds) x → FitsTerm x → AreDomains ds
    → IsTermOf (length ds) r → IsOnly (term_set ds r) (pos 0) → AreDomains es → IsNarrower ds es → IsAnswerOf answer (IsMember x others) (MemberLine x others) ds es
    → IsAnswerOf answer (TruthWith (IsMember x set) r) (ReifiedMemberLine x set r) ds es
outside_answer answer x set others r ds es are is_x fits filled is_r zero domains narrower h =
    zero_answer answer (IsMember x set) (member_sides x set) r ds es is_r zero (are_member_sides x set ds is_x) domains narrower (turned answer x set others ds es are is_x fits filled h)

-- ---- what is left decides

pub inside_about : (x : Term) (set : List (ℤ × ℤ)) (r : Term) (ds : List (List (ℤ × ℤ))) → IsTermOf (length ds) x → IsTermOf (length ds) r → LiesIn (term_set ds x) set
    → IsAbout r (λ u. u ≡ pos 1) (TruthWith (IsMember x set) r) (ReifiedMemberLine x set r) ds
inside_about x set r ds is_x is_r inside =
    shown_about (IsMember x set) (member_sides x set) r ds is_r (are_member_sides x set ds is_x) (λ a within. inside (term_value a x) (term_within ds a x is_x within))
    (λ es domains narrower u i. inside u (narrower_term ds es x narrower u i))

pub outside_about : (x : Term) (set : List (ℤ × ℤ)) (r : Term) (ds : List (List (ℤ × ℤ))) → IsTermOf (length ds) x → IsTermOf (length ds) r → IsTruth ds r → LiesOutside (term_set ds x) set
    → IsAbout r (λ u. u ≡ pos 0) (TruthWith (IsMember x set) r) (ReifiedMemberLine x set r) ds
outside_about x set r ds is_x is_r truth outside =
    refuted_about (IsMember x set) (member_sides x set) r ds is_r truth (are_member_sides x set ds is_x) (λ a within. outside (term_value a x) (term_within ds a x is_x within))
    (λ es domains narrower u i. outside u (narrower_term ds es x narrower u i))

pub overlap_is : (change : Change) (d e set : List (ℤ × ℤ)) → IsDomain d → IsDomain e → IsChange change (λ z. IsInSet set z) d e → IsOverlap change d set
overlap_is Same d e set domain_d domain_e h = h.1
overlap_is Wiped d e set domain_d domain_e h = h.1
overlap_is Changed d e set domain_d domain_e h =
    let low = (least_member e h.2 domain_e.0).0 in
    let kept = (h.0 (least e)).0 low in (
      (λ inside.
          let same : e ≡ d = same_ranges e d domain_e.0 domain_d.0 (λ z. ((λ i. ((h.0 z).0 i).0), (λ i. (h.0 z).1 (i, inside z i)))) in
          omega (arith, h.1, ap set_size same)),
      (λ outside. outside (least e) kept.0 kept.1),
    )
