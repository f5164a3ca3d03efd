-- Two terms that aren't equal.
use Rattle.std.proofs.Common.{◌≡◌, ◌≢◌, List, refl, sym, ◌∙◌, length}
use Rattle.std.specs.Prelude.{ℤ}
use Rattle.fz_sets.specs.Sets.{IsInSet}
use Rattle.fz_spec.specs.declared.term.Term.{Term}
use Rattle.fz_spec.specs.Constraints.{term_value}
use Rattle.fz_spec.specs.declared.shape.Relation.TheVariants.{NotEqual}
use Rattle.fz_strength.specs.Domains.{term_set, Within, IsTermOf}
use Rattle.fz_strength.specs.Events.{IsOnly}
use Rattle.fz_strength.proofs.Terms.{in_single}
use Rattle.fz_prop.specs.Truths.{IsAbout}
use Rattle.fz_prop.proofs.TermChanges.{term_within, narrower_term, only_in}
use Rattle.fz_rel.specs.Truths.{TruthOf, LineOf}

-- where x is fixed, it is about the other numbers of y
pub apart_about : (x y : Term) (v : ℤ) (ds : List (List (ℤ × ℤ))) → IsTermOf (length ds) x → IsOnly (term_set ds x) v
    → IsAbout y (λ u. u ≢ v) (TruthOf NotEqual x y) (LineOf NotEqual x y) ds
apart_about x y v ds is_x only =
    let at_x : (a : List ℤ) → Within ds a → term_value a x ≡ v = λ a within. only_in (term_set ds x) v (term_value a x) only (term_within ds a x is_x within) in
    record {
      needs = λ a within apart same. apart (at_x a within ∙ sym same);
      enough = λ a within other same. other (sym same ∙ at_x a within);
      line = λ es domains narrower all.
          let in_x : (u : ℤ) → IsInSet (term_set es x) u → u ≡ v = λ u i. only_in (term_set ds x) v u only (narrower_term ds es x narrower u i) in (
            (λ u is i. all u i (in_x u (rw is (in_single u u refl)))),
            (λ u is i. all u (rw is (in_single u u refl)) (in_x u i)),
          );
    }
