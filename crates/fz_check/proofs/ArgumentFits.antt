-- Arguments that are what is asked.
use Rattle.std.proofs.Common.{◌≡◌, ℕ, suc, Option, Some, None, option_map, List, [], ◌∷◌, length, refl, ap, subst, arith}
use Rattle.std.specs.Prelude.{Result, Ok, Err}
use Rattle.std.specs.List.{AllByRecursion}
use Rattle.fz_spec.specs.declared.asked.Asked.{Asked}
use Rattle.fz_spec.specs.declared.asked.Asked.TheVariants as asked
use Rattle.fz_spec.specs.Constraints.{Argument}
use Rattle.fz_spec.specs.Constraints as meaning
use Rattle.fz_spec.specs.Instance.{Variable}
use Rattle.fz_language.specs.Trees.{Truth, Numeral, Literal, Named, Expression, Scalar, Listed, basic_at}
use Rattle.fz_language.specs.Entries.{Environment, or_place, with_value, term_in, set_of, each_of, named, entry_list, list_argument, resolve}
use Rattle.fz_language.specs.Rules.{wrong_place, wrong_arguments, arguments_in}
use Rattle.fz_language.specs.Within.{ExpressionFits}
use Rattle.fz_model.specs.Kept.{FitsAsked, AllFit}
use Rattle.fz_check.proofs.Mapped.{mapped}
use Rattle.fz_check.specs.Fits.{Sound}
use Rattle.fz_check.proofs.TermFits.{term_fits, terms_fit, list_fits, entry_list_fits, found_named}
use Rattle.fz_check.proofs.SetFits.{set_fits}
use Rattle.fz_check.proofs.Counting.{FewIn, nil_parts}

placed : {X : Type 0} (o : Option X) (at : ℕ) (x : X) → or_place o at ≡ Ok x → o ≡ Some x
placed (Some y) at x e = let is : y ≡ x = cc in ap Some is
placed None at x e = cc

record Valued {X Y : Type 0} (f : X → Y) (r : Result X ℕ) (y : Y) : Type 0 where
  x : X
  r_is : r ≡ Ok x
  is : f x ≡ y

valued : {X Y : Type 0} (f : X → Y) (r : Result X ℕ) (y : Y) → with_value f r ≡ Ok y → Valued f r y
valued f (Ok x) y e = record { x = x; r_is = refl; is = cc }
valued f (Err at) y e = cc

resolved : (vs : List Variable) (env : Environment) (wanted : Asked) (e : Expression) (a : Argument) → Sound vs env → ExpressionFits e → FewIn e → resolve env wanted e ≡ Ok a → FitsAsked vs wanted a
resolved vs env (asked.One e) (Scalar basic) a s h few o =
    let w = mapped meaning.One (term_in env e basic) a (placed (option_map meaning.One (term_in env e basic)) (basic_at basic) a o) in
    subst (FitsAsked vs (asked.One e)) w.is (term_fits vs env e basic w.x s h w.o_is)
resolved vs env (asked.One e) (Listed list) a s h few o = cc
resolved vs env (asked.List e) (Scalar (Named name)) a s h few o =
    let f = found_named env (entry_list e) name a (placed (named env (entry_list e) name) name.at a o) in
    entry_list_fits vs e.kind e.may_vary f.entry a (s name.bytes f.entry f.is) f.gives
resolved vs env (asked.List e) (Scalar (Truth value at)) a s h few o = cc
resolved vs env (asked.List e) (Scalar (Numeral number)) a s h few o = cc
resolved vs env (asked.List e) (Scalar (Literal set)) a s h few o = cc
resolved vs env (asked.List e) (Listed list) a s h few o =
    let w = valued (list_argument e) (each_of (term_in env e) list.elements) a o in
    let t = terms_fit vs env e list.elements w.x s h w.r_is in
    subst (FitsAsked vs (asked.List e)) w.is (list_fits vs e.kind e.may_vary w.x (omega (arith, few, t.count)) t.all)
resolved vs env asked.Set (Scalar basic) a s h few o =
    let w = mapped meaning.Set (set_of env basic) a (placed (option_map meaning.Set (set_of env basic)) (basic_at basic) a o) in
    subst (FitsAsked vs asked.Set) w.is (set_fits vs env basic w.x s h few w.o_is)
resolved vs env asked.Set (Listed list) a s h few o = cc

-- ---- all arguments

pub record Fitting (vs : List Variable) (signature : List Asked) (es : List Expression) (arguments : List Argument) : Type 0 where
  pub fit : AllFit vs signature arguments
  pub count : length arguments ≡ length es

pub all_fit : (vs : List Variable) (env : Environment) (signature : List Asked) (es : List Expression) → Sound vs env → length signature ≡ length es → AllByRecursion ExpressionFits es → AllByRecursion FewIn es → wrong_arguments env signature es ≡ []
    → Fitting vs signature es (arguments_in env signature es)
all_fit vs env [] [] s n h few e = record { fit = tt; count = refl }
all_fit vs env [] (x ∷ es) s n h few e = absurd (omega (arith, n))
all_fit vs env (wanted ∷ rest) [] s n h few e = absurd (omega (arith, n))
all_fit vs env (wanted ∷ rest) (x ∷ es) s n h few e =
    let p = nil_parts (wrong_place (resolve env wanted x)) (wrong_arguments env rest es) e in
    go (all_fit vs env rest es s (omega (arith, n)) h.1 few.1 p.1) (resolve env wanted x) refl p.0
  where
    go : Fitting vs rest es (arguments_in env rest es) → (r : Result Argument ℕ) → resolve env wanted x ≡ r → wrong_place r ≡ []
        → Fitting vs (wanted ∷ rest) (x ∷ es) (elim r [ Ok argument ↦ argument ∷ arguments_in env rest es | Err at ↦ arguments_in env rest es ])
    go others (Ok a) k i = record { fit = (resolved vs env wanted x a s h.0 few.0 k, others.fit); count = ap (λ m. suc m) others.count }
    go others (Err at) k i = cc
