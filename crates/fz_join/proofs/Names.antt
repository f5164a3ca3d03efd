-- The names of output items are identifiers: of letters, digits and underscores.
use Rattle.std.proofs.Common.{ℕ, ◌<◌, List, [], ◌∷◌, slice_range, Option, Some, None, true, false, IsTrue, sym, subst, arith}
use Rattle.std.specs.List.{AllByRecursion, list_all}
use Rattle.std.proofs.lemmas.Bool.Decides.{nat_tests}
use Rattle.fz_sets.proofs.Lists.{all_both}
use Rattle.fz_spec.specs.declared.term.Term.TheVariants.{Var}
use Rattle.fz_spec.specs.Instance.{Instance, Output}
use Rattle.fz_language.specs.Annotations.{output_var_of, shape_among}
use Rattle.fz_language.specs.Tokens.{Token, Lexeme, Identifier, Word, Number, Float, Text, Punct, IsSpelt, IsWord, Ending, End, LeadsTo, is_word_byte, is_word_start}
use Rattle.fz_language.specs.Trees as trees
use Rattle.fz_language.specs.Grammar.{Part, WholeProgram, Items, OneItem, PredicateItem, Parameter, OfArray, IndexSets, Index, Variability, VariableItem, OptionalValue, ParameterItem, ArrayItem, ValueType, Plain, SetLiteral, Braces, OneNumber, Constant, RangeEnd, Basic, ListLiteral, Expression, ConstraintItem, SolveItem, Method, Annotations, Annotation, Called, Argument, Listed, More, flatzinc, rules, Tree, name_in}
use Rattle.fz_language.specs.Models.{Scope, behind, empty_scope, made, outputs_of, terms_of}
use Rattle.fz_language.specs.Rules.{kind_of, term_asked}
use Rattle.fz_language.specs.Reads.{Reads, Accepted}
use Rattle.fz_grammar.specs.Carried.{Each, Carries}
use Rattle.fz_grammar.proofs.Carrying.{carried_tree}
use Rattle.fz_grammar.proofs.Sets.{and_left, and_right}
use Rattle.fz_join.specs.Joins.{AreNamed, IsName}

-- ---- tokens

abbrev IsNamed : Lexeme → Type 0
IsNamed (Identifier name) = IsName name
IsNamed (Word k) = Unit {0}
IsNamed (Number v) = Unit {0}
IsNamed Float = Unit {0}
IsNamed Text = Unit {0}
IsNamed (Punct s) = Unit {0}

abbrev Fine : Token → Type 0
Fine t = IsNamed t.lexeme

byte : (b : ℕ) → IsTrue (is_word_byte b) → 47 < b
byte b h = grind (arith, nat_tests)

start : (b : ℕ) → IsTrue (is_word_start b) → 47 < b
start b h = grind (arith, nat_tests)

bytes : (bs : List ℕ) → IsTrue (list_all is_word_byte bs) → IsName bs
bytes [] h = tt
bytes (b ∷ bs) h = (byte b (and_left (is_word_byte b) (list_all is_word_byte bs) h), bytes bs (and_right (is_word_byte b) (list_all is_word_byte bs) h))

word : (bs : List ℕ) → IsWord bs → IsName bs
word [] h = tt
word (b ∷ bs) h = (start b h.0, bytes bs h.1)

named : (x : Lexeme) (bs : List ℕ) → IsSpelt x bs → IsNamed x
named (Identifier name) bs s = subst IsName (sym s.1) (word bs s.0.word)
named (Word k) bs s = tt
named (Number v) bs s = tt
named Float bs s = tt
named Text bs s = tt
named (Punct p) bs s = tt

all_named : (text : List ℕ) (from : ℕ) (ts : List Token) (e : Ending) → LeadsTo text from ts e → Each Fine ts
all_named text from [] e h = tt
all_named text from (t ∷ ts) e h = (named t.lexeme (slice_range text t.at h.0) h.2.spelt, all_named text h.0 ts e h.4)

-- ---- trees

abbrev ItemNamed : trees.Item → Type 0
ItemNamed (trees.Predicate item) = Unit {0}
ItemNamed (trees.Variable item) = IsName item.name.bytes
ItemNamed (trees.Parameter item) = Unit {0}
ItemNamed (trees.Array item) = IsName item.name.bytes
ItemNamed (trees.Constraint item) = Unit {0}

abbrev Fits : (n : Part) → Tree n → Type 0
Fits WholeProgram p = AllByRecursion ItemNamed p.items
Fits Items xs = AllByRecursion ItemNamed xs
Fits OneItem x = ItemNamed x
Fits PredicateItem x = Unit {0}
Fits Parameter x = Unit {0}
Fits OfArray x = Unit {0}
Fits IndexSets x = Unit {0}
Fits Index x = Unit {0}
Fits Variability x = Unit {0}
Fits VariableItem x = IsName x.name.bytes
Fits OptionalValue x = Unit {0}
Fits ParameterItem x = Unit {0}
Fits ArrayItem x = IsName x.name.bytes
Fits ValueType x = Unit {0}
Fits Plain x = Unit {0}
Fits SetLiteral x = Unit {0}
Fits Braces x = Unit {0}
Fits OneNumber x = Unit {0}
Fits Constant x = Unit {0}
Fits RangeEnd x = Unit {0}
Fits Basic x = Unit {0}
Fits ListLiteral x = Unit {0}
Fits Expression x = Unit {0}
Fits ConstraintItem x = Unit {0}
Fits SolveItem x = Unit {0}
Fits Method x = Unit {0}
Fits Annotations xs = Unit {0}
Fits Annotation x = Unit {0}
Fits Called x = Unit {0}
Fits Argument x = Unit {0}
Fits (Listed e) xs = Unit {0}
Fits (More e) xs = Unit {0}

name_fits : (x : Lexeme) (at : ℕ) → IsNamed x → IsName (name_in (record { lexeme = x; at = at })).bytes
name_fits (Identifier name) at h = h
name_fits (Word k) at h = tt
name_fits (Number v) at h = tt
name_fits Float at h = tt
name_fits Text at h = tt
name_fits (Punct s) at h = tt

fits : (n : Part) → Carries flatzinc Fine Fits n (rules n)
fits WholeProgram = λ v h. h.0
fits Items = (λ v h. (h.0, h.1.0), λ v h. tt)
fits OneItem = (λ v h. tt, (λ v h. h.0, (λ v h. h.0, (λ v h. tt, λ v h. tt))))
fits PredicateItem = λ v h. tt
fits Parameter = λ v h. tt
fits OfArray = (λ v h. tt, λ v h. tt)
fits IndexSets = λ v h. tt
fits Index = (λ v h. tt, λ v h. tt)
fits Variability = (λ v h. tt, λ v h. tt)
fits VariableItem = λ v h. name_fits v.1.1.1.0.lexeme v.1.1.1.0.at h.1.1.1.0
fits OptionalValue = (λ v h. tt, λ v h. tt)
fits ParameterItem = λ v h. tt
fits ArrayItem = λ v h. name_fits v.1.1.1.1.1.1.1.1.1.1.0.lexeme v.1.1.1.1.1.1.1.1.1.1.0.at h.1.1.1.1.1.1.1.1.1.1.0
fits ValueType = (λ v h. tt, λ v h. tt)
fits Plain = (λ v h. tt, (λ v h. tt, (λ v h. tt, λ v h. tt)))
fits SetLiteral = (λ v h. tt, λ v h. tt)
fits Braces = λ v h. tt
fits OneNumber = (λ v h. tt, λ v h. tt)
fits Constant = (λ v h. tt, (λ v h. tt, (λ v h. tt, λ v h. tt)))
fits RangeEnd = (λ v h. tt, λ v h. tt)
fits Basic = (λ v h. tt, λ v h. tt)
fits ListLiteral = λ v h. tt
fits Expression = (λ v h. tt, λ v h. tt)
fits ConstraintItem = λ v h. tt
fits SolveItem = λ v h. tt
fits Method = (λ v h. tt, (λ v h. tt, λ v h. tt))
fits Annotations = (λ v h. tt, λ v h. tt)
fits Annotation = λ v h. tt
fits Called = (λ v h. tt, λ v h. tt)
fits Argument = (λ v h. tt, (λ v h. tt, (λ v h. tt, λ v h. tt)))
fits (Listed e) = (λ v h. tt, λ v h. tt)
fits (More e) = (λ v h. tt, λ v h. tt)

-- ---- outputs

abbrev HasName : Output → Type 0
HasName o = IsName o.name

-- one, if there is something
listed : {X : Type 0} (o : Option X) (f : X → Output) → ((x : X) → HasName (f x)) → AllByRecursion HasName (elim o [ Some x ↦ f x ∷ [] | None ↦ [] ])
listed None f h = tt
listed (Some x) f h = (h x, tt)

outputs : (s : Scope) (item : trees.Item) → ItemNamed item → AllByRecursion HasName (outputs_of s item)
outputs s (trees.Predicate item) h = tt
outputs s (trees.Variable v) h = listed (output_var_of v.annotations) (λ a. record { name = v.name.bytes; kind = kind_of v.value_type; array = false; shape = []; terms = Var s.variables ∷ [] }) (λ a. h)
outputs s (trees.Parameter item) h = tt
outputs s (trees.Array a) h = listed (shape_among a.annotations) (λ shape. record { name = a.name.bytes; kind = kind_of a.value_type; array = true; shape = shape; terms = terms_of s.entries (term_asked a.value_type) a.list }) (λ shape. h)
outputs s (trees.Constraint item) h = tt

all_outputs : (s : Scope) (items : List trees.Item) → AllByRecursion ItemNamed items → AllByRecursion HasName (made outputs_of s items)
all_outputs s [] h = tt
all_outputs s (item ∷ items) h = all_both HasName (outputs_of s item) (made outputs_of (behind s item) items) (outputs s item h.0) (all_outputs (behind s item) items h.1)

pub names_of : (text : List ℕ) (m : Instance) → Reads text (Accepted m) → AreNamed m
names_of text m h =
    let tokens = all_named text 0 h.spelt.tokens End h.spelt.lexed in
    let items = carried_tree flatzinc Fine Fits fits WholeProgram h.spelt.tokens h.program h.spelt.spelt.spelt tokens in
    subst AreNamed (sym h.is) (all_outputs empty_scope h.program.items items)
