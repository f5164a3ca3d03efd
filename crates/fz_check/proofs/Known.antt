-- Where all arguments are what is asked, each name among them is declared.
use Rattle.std.proofs.Common.{arith, ◌≡◌, ℕ, List, [], ◌∷◌, ◌++◌, length, refl, ap₂}
use Rattle.std.specs.Prelude.{Option, Some, None, option_map, Result, Ok, Err, flat_map}
use Rattle.fz_spec.specs.declared.asked.Asked.{Asked}
use Rattle.fz_spec.specs.declared.asked.Asked.TheVariants as asked
use Rattle.fz_spec.specs.declared.asked.Element.{Element}
use Rattle.fz_spec.specs.Constraints.{Argument}
use Rattle.fz_spec.specs.Constraints as meaning
use Rattle.fz_language.specs.Trees.{Basic, Truth, Numeral, Literal, Named, Expression, Scalar, Listed, basic_at}
use Rattle.fz_language.specs.Entries.{Environment, Entry, entry_term, entry_list, entry_set, term_in, set_of, or_place, before, each_of, with_value, list_argument, resolve}
use Rattle.fz_language.specs.Rules.{unknown_in, unknown_of, wrong_place, wrong_arguments}

-- what is there, by what was made of it

abbrev given : {X : Type 0} → Option X → Type 0
given {X} o = (x : X) × (o ≡ Some x)

abbrev worked : {X : Type 0} → Result X ℕ → Type 0
worked {X} r = (x : X) × (r ≡ Ok x)

placed : {X : Type 0} (o : Option X) (at : ℕ) (x : X) → or_place o at ≡ Ok x → given o
placed (Some y) at x e = (y, refl)
placed None at x e = cc

mapped : {X Y : Type 0} (f : X → Y) (o : Option X) → given (option_map f o) → given o
mapped f (Some x) g = (x, refl)
mapped f None g = let e = g.1 in cc

valued : {X Y : Type 0} (f : X → Y) (r : Result X ℕ) (y : Y) → with_value f r ≡ Ok y → worked r
valued f (Ok x) y e = (x, refl)
valued f (Err at) y e = cc

first_given : {X : Type 0} (o : Option X) (r : Result (List X) ℕ) (at : ℕ) (xs : List X) → before o r at ≡ Ok xs → given o
first_given (Some x) r at xs e = (x, refl)
first_given None r at xs e = cc

rest_worked : {X : Type 0} (o : Option X) (r : Result (List X) ℕ) (at : ℕ) (xs : List X) → before o r at ≡ Ok xs → worked r
rest_worked (Some x) (Ok ys) at xs e = (ys, refl)
rest_worked (Some x) (Err place) at xs e = cc
rest_worked None r at xs e = cc

-- names

abbrev missing : ℕ → Option Entry → List ℕ
missing at o = elim o [ Some entry ↦ [] | None ↦ at ∷ [] ]

declared : {X : Type 0} (what : Entry → Option X) (o : Option Entry) (at : ℕ) → given (elim o [ Some entry ↦ what entry | None ↦ None ]) → missing at o ≡ []
declared what (Some entry) at g = refl
declared what None at g = let e = g.1 in cc

term_known : (env : Environment) (e : Element) (b : Basic) → given (term_in env e b) → unknown_in env b ≡ []
term_known env e (Truth value at) g = refl
term_known env e (Numeral number) g = refl
term_known env e (Literal set) g = refl
term_known env e (Named name) g = declared (entry_term e) (env name.bytes) name.at g

set_known : (env : Environment) (b : Basic) → given (set_of env b) → unknown_in env b ≡ []
set_known env (Truth value at) g = refl
set_known env (Numeral number) g = refl
set_known env (Literal set) g = refl
set_known env (Named name) g = declared entry_set (env name.bytes) name.at g

list_known : (env : Environment) (e : Element) (b : Basic) → worked (resolve env (asked.List e) (Scalar b)) → unknown_in env b ≡ []
list_known env e (Truth value at) g = refl
list_known env e (Numeral number) g = refl
list_known env e (Literal set) g = refl
list_known env e (Named name) g = declared (entry_list e) (env name.bytes) name.at (placed (elim (env name.bytes) [ Some entry ↦ entry_list e entry | None ↦ None ]) name.at g.0 g.1)

elements_known : (env : Environment) (e : Element) (bs : List Basic) → worked (each_of (term_in env e) bs) → flat_map (unknown_in env) bs ≡ []
elements_known env e [] g = refl
elements_known env e (b ∷ bs) g =
    ap₂ (λ (u v : List ℕ). u ++ v) (term_known env e b (first_given (term_in env e b) (each_of (term_in env e) bs) (basic_at b) g.0 g.1))
    (elements_known env e bs (rest_worked (term_in env e b) (each_of (term_in env e) bs) (basic_at b) g.0 g.1))

argument_known : (env : Environment) (wanted : Asked) (x : Expression) → worked (resolve env wanted x) → unknown_of env x ≡ []
argument_known env (asked.One e) (Scalar b) g = term_known env e b (mapped meaning.One (term_in env e b) (placed (option_map meaning.One (term_in env e b)) (basic_at b) g.0 g.1))
argument_known env (asked.One e) (Listed list) g = let e = g.1 in cc
argument_known env (asked.List e) (Scalar b) g = list_known env e b g
argument_known env (asked.List e) (Listed list) g = elements_known env e list.elements (valued (list_argument e) (each_of (term_in env e) list.elements) g.0 g.1)
argument_known env asked.Set (Scalar b) g = set_known env b (mapped meaning.Set (set_of env b) (placed (option_map meaning.Set (set_of env b)) (basic_at b) g.0 g.1))
argument_known env asked.Set (Listed list) g = let e = g.1 in cc

right_here : (r : Result Argument ℕ) (others : List ℕ) → wrong_place r ++ others ≡ [] → worked r
right_here (Ok a) others e = (a, refl)
right_here (Err at) others e = cc

right_behind : (r : Result Argument ℕ) (others : List ℕ) → wrong_place r ++ others ≡ [] → others ≡ []
right_behind (Ok a) others e = e
right_behind (Err at) others e = cc

pub all_known : (env : Environment) (signature : List Asked) (xs : List Expression) → length signature ≡ length xs → wrong_arguments env signature xs ≡ [] → flat_map (unknown_of env) xs ≡ []
all_known env [] [] l e = refl
all_known env [] (x ∷ xs) l e = cc
all_known env (wanted ∷ signature) [] l e = cc
all_known env (wanted ∷ signature) (x ∷ xs) l e =
    ap₂ (λ (u v : List ℕ). u ++ v) (argument_known env wanted x (right_here (resolve env wanted x) (wrong_arguments env signature xs) e))
    (all_known env signature xs (omega (arith, l)) (right_behind (resolve env wanted x) (wrong_arguments env signature xs) e))
