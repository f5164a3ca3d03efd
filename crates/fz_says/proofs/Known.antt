-- What a model keeps of the terms of its constraints.
use Rattle.std.proofs.Common.{◌≡◌, ℕ, zero, suc, ◌<◌, List, [], ◌∷◌, arith, length, true, false, Bool}
use Rattle.std.proofs.lemmas.Int.{ints}
use Rattle.std.specs.Prelude.{ℤ, Option, Some, None, MatchOption}
use Rattle.std.specs.List.{AllByRecursion}
use Rattle.fz_sets.specs.Sets.{IsWithinLimits}
use Rattle.fz_spec.specs.declared.kind.Kind.{Kind}
use Rattle.fz_spec.specs.declared.kind.Kind.TheVariants as kinds
use Rattle.fz_spec.specs.declared.term.Term.{Term}
use Rattle.fz_spec.specs.declared.term.Term.TheVariants.{Num, Var}
use Rattle.fz_spec.specs.declared.asked.Element.{Element}
use Rattle.fz_spec.specs.declared.asked.Asked.{Asked}
use Rattle.fz_spec.specs.declared.asked.Asked.TheVariants as asked
use Rattle.fz_spec.specs.Constraints.{Argument, One, Numbers, Terms, Set, Constraint, terms_of, terms_among}
use Rattle.fz_spec.specs.Signatures.{Row, row_of, signature_of}
use Rattle.fz_spec.specs.Instance.{Variable}
use Rattle.fz_model.specs.Kept as kept
use Rattle.fz_model.specs.Kept.{IsNumberOf, kind_at, FitsElement, FitsList, FitsAsked, AllFit, FitsRow, IsConstraint}
use Rattle.fz_sets.proofs.Lists.{all_both}
use Rattle.fz_says.specs.Fits.{IsKnown}

number_limits : (kind : Kind) (n : ℤ) → IsNumberOf kind n → IsWithinLimits n
number_limits kinds.Bool n is = (omega (arith, ints, is.0, is.1), omega (arith, ints, is.0, is.1))
number_limits kinds.Int n is = is

there_within : (vs : List Variable) (v : ℕ) (kind : Kind) → kind_at vs v ≡ Some kind → v < length vs
there_within [] v kind is = absurd (cc (is))
there_within (u ∷ vs) zero kind is = omega arith
there_within (u ∷ vs) (suc v) kind is = let below : v < length vs = there_within vs v kind is in omega (arith, below)

element_known : (vs : List Variable) (element : Element) (t : Term) → FitsElement vs element t → IsKnown vs t
element_known vs element (Num n) fits = (number_limits element.kind n fits, tt)
element_known vs element (Var v) fits = (tt, there_within vs v element.kind fits.1)

terms_known : (vs : List Variable) (kind : Kind) (ts : List Term) → AllByRecursion (kept.IsTermOf vs kind) ts → AllByRecursion (IsKnown vs) ts
terms_known vs kind [] all = tt
terms_known vs kind (Num n ∷ ts) all = ((number_limits kind n all.0, tt), terms_known vs kind ts all.1)
terms_known vs kind (Var v ∷ ts) all = ((tt, there_within vs v kind all.0), terms_known vs kind ts all.1)

pub no_list : (vs : List Variable) (kind : Kind) (may_vary : Bool) (t : Term) → FitsList vs kind may_vary (One t) → ⊥
no_list vs kind true t fits = fits
no_list vs kind false t fits = fits

list_known : (vs : List Variable) (kind : Kind) (may_vary : Bool) (ts : List Term) → FitsList vs kind may_vary (Terms ts) → AllByRecursion (IsKnown vs) ts
list_known vs kind true ts fits = terms_known vs kind ts fits.1
list_known vs kind false ts fits = absurd fits

asked_known : (vs : List Variable) (wanted : Asked) (argument : Argument) → FitsAsked vs wanted argument → AllByRecursion (IsKnown vs) (terms_of argument)
asked_known vs (asked.One element) (One t) fits = (element_known vs element t fits, tt)
asked_known vs (asked.List element) (One t) fits = absurd (no_list vs element.kind element.may_vary t fits)
asked_known vs asked.Set (One t) fits = absurd fits
asked_known vs (asked.List element) (Terms ts) fits = list_known vs element.kind element.may_vary ts fits
asked_known vs (asked.One element) (Terms ts) fits = absurd fits
asked_known vs asked.Set (Terms ts) fits = absurd fits
asked_known vs wanted (Numbers ns) fits = tt
asked_known vs wanted (Set set) fits = tt

all_known : (vs : List Variable) (signature : List Asked) (arguments : List Argument) → AllFit vs signature arguments → AllByRecursion (IsKnown vs) (terms_among arguments)
all_known vs [] [] fits = tt
all_known vs (wanted ∷ rest) (argument ∷ arguments) fits =
    all_both (IsKnown vs) (terms_of argument) (terms_among arguments) (asked_known vs wanted argument fits.0) (all_known vs rest arguments fits.1)
all_known vs [] (argument ∷ arguments) fits = absurd fits
all_known vs (wanted ∷ rest) [] fits = absurd fits

matched : (vs : List Variable) (o : Option (List Asked)) (arguments : List Argument) → MatchOption o ⊥ (λ signature. AllFit vs signature arguments) → AllByRecursion (IsKnown vs) (terms_among arguments)
matched vs None arguments fits = absurd fits
matched vs (Some signature) arguments fits = all_known vs signature arguments fits

in_row : (vs : List Variable) (o : Option Row) (arguments : List Argument) → MatchOption o ⊥ (λ row. FitsRow vs row arguments) → AllByRecursion (IsKnown vs) (terms_among arguments)
in_row vs None arguments fits = absurd fits
in_row vs (Some row) arguments fits = matched vs (signature_of row (length arguments)) arguments fits.fit

pub known_of : (vs : List Variable) (c : Constraint) → IsConstraint vs c → AllByRecursion (IsKnown vs) (terms_among c.arguments)
known_of vs c is = in_row vs (row_of c.name) c.arguments is
