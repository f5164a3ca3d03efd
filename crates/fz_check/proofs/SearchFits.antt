-- The parts of the search are no more than the annotations, and each is over variables of the model.
use Rattle.std.proofs.Common.{◌≡◌, ℕ, ◌+◌, zero, suc, ◌<◌, ◌≤◌, Bool, true, false, cond, Option, Some, None, List, [], ◌∷◌, ◌++◌, length, map, refl, subst, arith, length-append}
use Rattle.std.specs.Prelude.{bytes_eq, codes, find, flat_map}
use Rattle.std.specs.List.{AllByRecursion}
use Rattle.fz_spec.specs.declared.limits.TheConstants.{TEXT_LIMIT}
use Rattle.fz_spec.specs.declared.kind.Kind.{Kind}
use Rattle.fz_spec.specs.declared.term.Term.{Term}
use Rattle.fz_spec.specs.declared.term.Term.TheVariants.{Num, Var}
use Rattle.fz_spec.specs.Instance.{Variable, SearchPart}
use Rattle.fz_language.specs.Trees.{Name, Truth, Numeral, Literal, Named, Argument, Arguments, Simple, Text, Call, Brackets, Nil, More, Annotation}
use Rattle.fz_language.specs.Numerals.{all_of}
use Rattle.fz_language.specs.Annotations.{list_of}
use Rattle.fz_language.specs.Entries.{Environment, Entry}
use Rattle.fz_language.specs.Entries as entries
use Rattle.fz_language.specs.Search.{variables_of_terms, entry_variable, entry_variables, member, joined, variables_in, part_of, part_in, is_basic_search, parts_in, parts_of_list, parts_of_all, as_argument, firsts, search_of, pick_of, value_of}
use Rattle.fz_language.specs.Within.{argument_size, arguments_size, called_size, annotations_size}
use Rattle.fz_model.specs.Kept.{IsTermOf, IsSearchPart, kind_at}
use Rattle.fz_check.specs.Fits.{EntryFits, Sound}
use Rattle.fz_check.proofs.Mapped.{mapped}
use Rattle.fz_check.proofs.TermFits.{found_named}
use Rattle.fz_sets.proofs.Lists.{all_both}

-- ---- the variables of one part

-- a variable of a kind is one of the model
declared : (vs : List Variable) (v : ℕ) (kind : Kind) → kind_at vs v ≡ Some kind → v < length vs
declared [] v kind e = cc
declared (u ∷ vs) zero kind e = omega arith
declared (u ∷ vs) (suc v) kind e = omega (arith, declared vs v kind e)

-- at most that many, each of the model
abbrev Variables : List Variable → ℕ → List ℕ → Type 0
Variables vs n numbers = (length numbers ≤ n) × AllByRecursion (λ v. v < length vs) numbers

terms_of_model : (vs : List Variable) (kind : Kind) (ts : List Term) → AllByRecursion (IsTermOf vs kind) ts → Variables vs (length ts) (variables_of_terms ts)
terms_of_model vs kind [] h = (omega arith, tt)
terms_of_model vs kind (Num n ∷ ts) h = let rest = terms_of_model vs kind ts h.1 in (let l = rest.0 in omega (arith, l), rest.1)
terms_of_model vs kind (Var v ∷ ts) h = let rest = terms_of_model vs kind ts h.1 in (let l = rest.0 in omega (arith, l), (declared vs v kind h.0, rest.1))

variable_of_entry : (vs : List Variable) (entry : Entry) (numbers : List ℕ) → EntryFits vs entry → entry_variable entry ≡ Some numbers → Variables vs 1 numbers
variable_of_entry vs (entries.Variable kind number) numbers h e = let is : number ∷ [] ≡ numbers = cc in subst (Variables vs 1) is (omega arith, (declared vs number kind h, tt))
variable_of_entry vs (entries.Value kind value) numbers h e = cc
variable_of_entry vs (entries.Set set) numbers h e = cc
variable_of_entry vs (entries.Numbers kind ns) numbers h e = cc
variable_of_entry vs (entries.Terms kind terms) numbers h e = cc
variable_of_entry vs entries.Sets numbers h e = cc

none_of_model : (vs : List Variable) (numbers : List ℕ) → Some [] ≡ Some numbers → Variables vs 1 numbers
none_of_model vs numbers e = let is : [] ≡ numbers = cc in subst (Variables vs 1) is (omega arith, tt)

member_fits : (vs : List Variable) (env : Environment) (a : Argument) (numbers : List ℕ) → Sound vs env → member env a ≡ Some numbers → Variables vs 1 numbers
member_fits vs env (Simple (Named name)) numbers s e =
    let f = found_named env entry_variable name numbers e in
    variable_of_entry vs f.entry numbers (s name.bytes f.entry f.is) f.gives
member_fits vs env (Simple (Truth value at)) numbers s e = none_of_model vs numbers e
member_fits vs env (Simple (Numeral number)) numbers s e = none_of_model vs numbers e
member_fits vs env (Simple (Literal set)) numbers s e = cc
member_fits vs env (Text at) numbers s e = cc
member_fits vs env (Call name arguments) numbers s e = cc
member_fits vs env (Brackets at arguments) numbers s e = cc

members_fit : (vs : List Variable) (env : Environment) (args : List Argument) (lists : List (List ℕ)) → Sound vs env → all_of (map (member env) args) ≡ Some lists → Variables vs (length args) (joined lists)
members_fit vs env [] lists s e = let is : [] ≡ lists = cc in subst (λ (ls : List (List ℕ)). Variables vs 0 (joined ls)) is (omega arith, tt)
members_fit vs env (a ∷ args) lists s e = go (λ ls k. members_fit vs env args ls s k) (member env a) refl e
  where
    go : ((ls : List (List ℕ)) → all_of (map (member env) args) ≡ Some ls → Variables vs (length args) (joined ls)) → (o : Option (List ℕ)) → member env a ≡ o → all_of (o ∷ map (member env) args) ≡ Some lists
        → Variables vs (length (a ∷ args)) (joined lists)
    go f None k i = cc
    go f (Some numbers) k i =
        let w = mapped (λ ys. numbers ∷ ys) (all_of (map (member env) args)) lists i in
        let here = member_fits vs env a numbers s k in
        let rest = f w.x w.o_is in
        subst (λ (ls : List (List ℕ)). Variables vs (length (a ∷ args)) (joined ls)) w.is
        (let l = here.0 in let m = rest.0 in omega (arith, l, m, length-append numbers (joined w.x)), all_both (λ v. v < length vs) numbers (joined w.x) here.1 rest.1)

variables_of_entry : (vs : List Variable) (entry : Entry) (numbers : List ℕ) → EntryFits vs entry → entry_variables entry ≡ Some numbers → Variables vs TEXT_LIMIT numbers
variables_of_entry vs (entries.Terms kind ts) numbers h e =
    let is : variables_of_terms ts ≡ numbers = cc in
    let t = terms_of_model vs kind ts h.1 in
    subst (Variables vs TEXT_LIMIT) is (let l = t.0 in let m = h.0 in omega (arith, l, m), t.1)
variables_of_entry vs (entries.Variable kind number) numbers h e = cc
variables_of_entry vs (entries.Value kind value) numbers h e = cc
variables_of_entry vs (entries.Set set) numbers h e = cc
variables_of_entry vs (entries.Numbers kind ns) numbers h e = cc
variables_of_entry vs entries.Sets numbers h e = cc

size_of_one : (a : Argument) → 1 ≤ argument_size a
size_of_one (Simple basic) = omega arith
size_of_one (Text at) = omega arith
size_of_one (Call name arguments) = omega arith
size_of_one (Brackets at arguments) = omega arith

size_of_list : (args : Arguments) → length (list_of args) ≤ arguments_size args
size_of_list Nil = omega arith
size_of_list (More a others) = omega (arith, size_of_one a, size_of_list others)

variables_fit : (vs : List Variable) (env : Environment) (a : Argument) (numbers : List ℕ) → Sound vs env → argument_size a ≤ TEXT_LIMIT → variables_in env a ≡ Some numbers → Variables vs TEXT_LIMIT numbers
variables_fit vs env (Brackets at arguments) numbers s few e =
    let w = mapped joined (all_of (map (member env) (list_of arguments))) numbers e in
    let m = members_fit vs env (list_of arguments) w.x s w.o_is in
    subst (Variables vs TEXT_LIMIT) w.is (let l = m.0 in omega (arith, l, few, size_of_list arguments), m.1)
variables_fit vs env (Simple (Named name)) numbers s few e =
    let f = found_named env entry_variables name numbers e in
    variables_of_entry vs f.entry numbers (s name.bytes f.entry f.is) f.gives
variables_fit vs env (Simple (Truth value at)) numbers s few e = cc
variables_fit vs env (Simple (Numeral number)) numbers s few e = cc
variables_fit vs env (Simple (Literal set)) numbers s few e = cc
variables_fit vs env (Text at) numbers s few e = cc
variables_fit vs env (Call name arguments) numbers s few e = cc

-- ---- parts

-- at most that many, each over variables of the model
abbrev Parts : List Variable → ℕ → List SearchPart → Type 0
Parts vs n parts = (length parts ≤ n) × AllByRecursion (IsSearchPart vs) parts

no_parts : (vs : List Variable) (n : ℕ) → Parts vs n []
no_parts vs n = (omega arith, tt)

both_parts : (vs : List Variable) (n m : ℕ) (xs ys : List SearchPart) → Parts vs n xs → Parts vs m ys → Parts vs (n + m) (xs ++ ys)
both_parts vs n m xs ys g h = (let l = g.0 in let k = h.0 in omega (arith, l, k, length-append xs ys), all_both (IsSearchPart vs) xs ys g.1 h.1)

more_parts : (vs : List Variable) (n m : ℕ) (xs : List SearchPart) → n ≤ m → Parts vs n xs → Parts vs m xs
more_parts vs n m xs l h = (let k = h.0 in omega (arith, l, k), h.1)

part_of_fits : (vs : List Variable) (env : Environment) (a : Argument) (pick value : Name) → Sound vs env → argument_size a ≤ TEXT_LIMIT → Parts vs 1 (part_of env a pick value)
part_of_fits vs env a pick value s few = go (variables_in env a) refl
  where
    go : (o : Option (List ℕ)) → variables_in env a ≡ o → Parts vs 1 (elim o [ Some numbers ↦ record { variables = numbers; pick = pick_of pick.bytes; value = value_of value.bytes } ∷ [] | None ↦ [] ])
    go None k = no_parts vs 1
    go (Some numbers) k = (omega arith, (variables_fit vs env a numbers s few k, tt))

part_fits : (vs : List Variable) (env : Environment) (args : Arguments) → Sound vs env → arguments_size args ≤ TEXT_LIMIT → Parts vs 1 (part_in env (list_of args))
part_fits vs env Nil s few = no_parts vs 1
part_fits vs env (More a others) s few = go (list_of others)
  where
    go : (rest : List Argument) → Parts vs 1 (part_in env (a ∷ rest))
    go (Simple (Named pick) ∷ Simple (Named value) ∷ []) = part_of_fits vs env a pick value s (omega (arith, few))
    go (Simple (Named pick) ∷ Simple (Named value) ∷ fourth ∷ []) = part_of_fits vs env a pick value s (omega (arith, few))
    go rest = no_parts vs 1

in_search : (vs : List Variable) (n : ℕ) (b c : Bool) (xs ys : List SearchPart) → Parts vs 1 xs → Parts vs n ys → Parts vs (1 + n) (cond b xs (cond c ys []))
in_search vs n true c xs ys h k = more_parts vs 1 (1 + n) xs (omega arith) h
in_search vs n false true xs ys h k = more_parts vs n (1 + n) ys (omega arith) k
in_search vs n false false xs ys h k = no_parts vs (1 + n)

mutual
  parts_fit : (vs : List Variable) (env : Environment) (s : Sound vs env) (a : Argument) → argument_size a ≤ TEXT_LIMIT → Parts vs (argument_size a) (parts_in env a)
  parts_fit vs env s (Call name args) few =
      in_search vs (arguments_size args) (is_basic_search name.bytes) (bytes_eq name.bytes (codes "seq_search")) (part_in env (list_of args)) (parts_of_list env args) (part_fits vs env args s (omega (arith, few))) (list_fits vs env s args (omega (arith, few)))
  parts_fit vs env s (Simple basic) few = no_parts vs 1
  parts_fit vs env s (Text at) few = no_parts vs 1
  parts_fit vs env s (Brackets at args) few = no_parts vs (1 + arguments_size args)

  list_fits : (vs : List Variable) (env : Environment) (s : Sound vs env) (args : Arguments) → arguments_size args ≤ TEXT_LIMIT → Parts vs (arguments_size args) (parts_of_list env args)
  list_fits vs env s (More (Brackets at args) Nil) few = more_parts vs (arguments_size args) (arguments_size (More (Brackets at args) Nil)) (parts_of_all env args) (omega arith) (all_fit vs env s args (omega (arith, few)))
  list_fits vs env s args few = no_parts vs (arguments_size args)

  all_fit : (vs : List Variable) (env : Environment) (s : Sound vs env) (args : Arguments) → arguments_size args ≤ TEXT_LIMIT → Parts vs (arguments_size args) (parts_of_all env args)
  all_fit vs env s Nil few = no_parts vs 0
  all_fit vs env s (More a others) few =
      both_parts vs (argument_size a) (arguments_size others) (parts_in env a) (parts_of_all env others) (parts_fit vs env s a (omega (arith, few))) (all_fit vs env s others (omega (arith, few)))

called_fits : (vs : List Variable) (env : Environment) (s : Sound vs env) (name : Name) (called : Option Arguments) (n : ℕ) (later : List Argument) → 1 + called_size called ≤ TEXT_LIMIT → Parts vs n (flat_map (parts_in env) later)
    → Parts vs (1 + called_size called + n) (flat_map (parts_in env) (elim called [ Some arguments ↦ Call name arguments ∷ [] | None ↦ [] ] ++ later))
called_fits vs env s name None n later few h = more_parts vs n (1 + n) (flat_map (parts_in env) later) (omega arith) h
called_fits vs env s name (Some args) n later few h = both_parts vs (1 + arguments_size args) n (parts_in env (Call name args)) (flat_map (parts_in env) later) (parts_fit vs env s (Call name args) few) h

-- of the annotations that are the first of their names
firsts_fit : (vs : List Variable) (env : Environment) (s : Sound vs env) (seen : List (List ℕ)) (annotations : List Annotation) → annotations_size annotations ≤ TEXT_LIMIT
    → Parts vs (annotations_size annotations) (flat_map (parts_in env) (flat_map as_argument (firsts seen annotations)))
firsts_fit vs env s seen [] few = no_parts vs 0
firsts_fit vs env s seen (a ∷ rest) few = go (λ others. firsts_fit vs env s others rest (omega (arith, few))) (find (bytes_eq a.name.bytes) seen)
  where
    go : ((others : List (List ℕ)) → Parts vs (annotations_size rest) (flat_map (parts_in env) (flat_map as_argument (firsts others rest)))) → (o : Option (List ℕ)) → Parts vs (annotations_size (a ∷ rest)) (flat_map (parts_in env) (flat_map as_argument (elim o [ Some name ↦ firsts seen rest | None ↦ a ∷ firsts (a.name.bytes ∷ seen) rest ])))
    go later (Some name) = more_parts vs (annotations_size rest) (annotations_size (a ∷ rest)) (flat_map (parts_in env) (flat_map as_argument (firsts seen rest))) (omega arith) (later seen)
    go later None =
        called_fits vs env s a.name a.arguments (annotations_size rest) (flat_map as_argument (firsts (a.name.bytes ∷ seen) rest)) (omega (arith, few))
        (later (a.name.bytes ∷ seen))

pub search_fits : (vs : List Variable) (env : Environment) (annotations : List Annotation) → Sound vs env → annotations_size annotations ≤ TEXT_LIMIT → Parts vs (annotations_size annotations) (search_of env annotations)
search_fits vs env annotations s few = firsts_fit vs env s [] annotations few
