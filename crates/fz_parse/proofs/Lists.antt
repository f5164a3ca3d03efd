-- Lists: what is left to read goes on as the whole did.
use Rattle.std.proofs.Common.{◌≡◌, ℕ, List, [], ◌∷◌, ◌++◌, map, append_assoc, Bool, true, false, refl, sym, ap, subst, ◌∙◌}
use Rattle.std.proofs.lemmas.List.{map-append}
use Rattle.fz_language.specs.Tokens.{Token}
use Rattle.fz_language.specs.Trees as trees
use Rattle.fz_language.specs.Grammar.{Part, Tree, flatzinc, rules, Element, Parameters, Indexes, Members, Elements, Expressions, Arguments, Listed, More, Index, IndexSets, Items, OneItem, Annotations, Annotation, part_of, TreesOf, none_of, more_of}
use Rattle.fz_grammar.specs.Grammar.{Leaf, Rule}
use Rattle.fz_grammar.specs.Reading.{head, has, chosen}
use Rattle.fz_parse.specs.declared.stop.Stop.{Stop}
use Rattle.fz_syntax.specs.Trees.{joined}
use Rattle.fz_parse.specs.Steps.{Read, Halts}
use Rattle.fz_parse.proofs.Follows.{leaf_then, rule_then, ended, here, leaf_behind, rule_behind, reads_by, halts_by, front, tail, first, later}

-- these elements before others
abbrev pub glued : (e : Element) → List (Tree (part_of e)) → TreesOf e → TreesOf e
glued e [] w = w
glued e (x ∷ xs) w = more_of e x (glued e xs w)

glued_push : (e : Element) (xs : List (Tree (part_of e))) (x : Tree (part_of e)) (w : TreesOf e) → glued e (xs ++ x ∷ []) w ≡ glued e xs (more_of e x w)
glued_push e [] x w = refl
glued_push e (y ∷ xs) x w = ap (more_of e y) (glued_push e xs x w)

-- the reading of a rule goes on as the reading of another that begins here, with trees made of its tree
pub record Goes (l : ℕ) (n : Part) (old : List Token) (m : Part) (mid : List Token) (f : Tree m → Tree n) : Type 0 where
  pub reads : (new : List Token) (w : Tree m) → Read l (Rule m ∷ []) (w, tt) mid new → Read l (Rule n ∷ []) (f w, tt) old new
  pub stops : (why : Stop) (new : List Token) → Halts l (Rule m ∷ []) mid new why → Halts l (Rule n ∷ []) old new why

-- elements that stand after others, with a comma before each
pub record GoesOn (e : Element) (l : ℕ) (n : Part) (old mid : List Token) (f : TreesOf e → Tree n) (xs : List (Tree (part_of e))) : Type 0 where
  pub goes : Goes l n old (More e) mid (λ w. f (glued e xs w))

pub goes_next : (e : Element) {l : ℕ} {n : Part} {old mid comma next : List Token} {f : TreesOf e → Tree n} {xs : List (Tree (part_of e))} {t : Token} {x : Tree (part_of e)} {b : Bool}
    → GoesOn e l n old mid f xs → b ≡ has (8 ∷ []) (head flatzinc mid) → b ≡ true → Read l (Leaf 8 ∷ []) (t, tt) mid comma → Read l (Rule (part_of e) ∷ []) (x, tt) comma next
    → GoesOn e l n old next f (xs ++ x ∷ [])
goes_next e {l} {n} {old} {mid} {comma} {next} {f} {xs} {t} {x} g k h c r = record {
  goes = record {
    reads = λ new w q.
        subst (λ (v : TreesOf e). Read l (Rule n ∷ []) (f v, tt) old new) (sym (glued_push e xs x w))
        (g.goes.reads new (more_of e x w) (reads_by (first (rules (More e)) (head flatzinc mid) k h) (leaf_then c (rule_then r q))));
    stops = λ why new q. g.goes.stops why new (halts_by (first (rules (More e)) (head flatzinc mid) k h) (leaf_behind c (rule_behind r q)));
  };
}

-- the reading stops at a comma, or at an element
pub stops_comma : (e : Element) {l : ℕ} {n : Part} {old mid new : List Token} {f : TreesOf e → Tree n} {xs : List (Tree (part_of e))} {b : Bool} {why : Stop}
    → GoesOn e l n old mid f xs → b ≡ has (8 ∷ []) (head flatzinc mid) → b ≡ true → Halts l (Leaf 8 ∷ []) mid new why → Halts l (Rule n ∷ []) old new why
stops_comma e {l} {n} {old} {mid} {new} {f} {xs} {b} {why} g k h q = g.goes.stops why new (halts_by (first (rules (More e)) (head flatzinc mid) k h) (here q))

pub stops_next : (e : Element) {l : ℕ} {n : Part} {old mid comma new : List Token} {f : TreesOf e → Tree n} {xs : List (Tree (part_of e))} {t : Token} {b : Bool} {why : Stop}
    → GoesOn e l n old mid f xs → b ≡ has (8 ∷ []) (head flatzinc mid) → b ≡ true → Read l (Leaf 8 ∷ []) (t, tt) mid comma → Halts l (Rule (part_of e) ∷ []) comma new why
    → Halts l (Rule n ∷ []) old new why
stops_next e {l} {n} {old} {mid} {comma} {new} {f} {xs} {t} {b} {why} g k h c q =
    g.goes.stops why new (halts_by (first (rules (More e)) (head flatzinc mid) k h) (leaf_behind c (here q)))

-- no comma stands there
pub reads_end : (e : Element) {l : ℕ} {n : Part} {old mid : List Token} {f : TreesOf e → Tree n} {xs : List (Tree (part_of e))} {b : Bool}
    → GoesOn e l n old mid f xs → b ≡ has (8 ∷ []) (head flatzinc mid) → b ≡ false → Read l (Rule n ∷ []) (f (glued e xs (none_of e)), tt) old mid
reads_end e {l} {n} {old} {mid} g k h = g.goes.reads mid (none_of e) (reads_by (later (rules (More e)) (head flatzinc mid) k h) ended)

-- the first element of a list that may be empty
pub goes_first : (e : Element) {l : ℕ} {old mid : List Token} {x : Tree (part_of e)}
    → chosen (rules (Listed e)) (head flatzinc old) ≡ front (tail (rules (Listed e))) → Read l (Rule (part_of e) ∷ []) (x, tt) old mid → GoesOn e l (Listed e) old mid (λ w. w) (x ∷ [])
goes_first e k r = record { goes = record { reads = λ new w q. reads_by k (rule_then r q); stops = λ why new q. halts_by k (rule_behind r q) } }

pub stops_first : (e : Element) {l : ℕ} {old new : List Token} {why : Stop}
    → chosen (rules (Listed e)) (head flatzinc old) ≡ front (tail (rules (Listed e))) → Halts l (Rule (part_of e) ∷ []) old new why → Halts l (Rule (Listed e) ∷ []) old new why
stops_first e k q = halts_by k (here q)

-- the first of index sets
pub goes_index : {l : ℕ} {old mid : List Token} {x : Tree Index} → Read l (Rule Index ∷ []) (x, tt) old mid → GoesOn Indexes l IndexSets old mid (λ w. w) (x ∷ [])
goes_index r = record { goes = record { reads = λ new w q. reads_by {n = IndexSets} refl (rule_then r q); stops = λ why new q. halts_by {n = IndexSets} refl (rule_behind r q) } }

-- all elements, as the trees that have them keep them
pub all_members : (xs : List (Tree (part_of Members))) → glued Members xs [] ≡ xs
all_members [] = refl
all_members (x ∷ xs) = ap (λ (ys : List (Tree (part_of Members))). x ∷ ys) (all_members xs)

pub all_elements : (xs : List (Tree (part_of Elements))) → glued Elements xs [] ≡ xs
all_elements [] = refl
all_elements (x ∷ xs) = ap (λ (ys : List (Tree (part_of Elements))). x ∷ ys) (all_elements xs)

pub all_expressions : (xs : List (Tree (part_of Expressions))) → glued Expressions xs [] ≡ xs
all_expressions [] = refl
all_expressions (x ∷ xs) = ap (λ (ys : List (Tree (part_of Expressions))). x ∷ ys) (all_expressions xs)

pub all_parameters : (xs : List (Tree (part_of Parameters))) → glued Parameters xs [] ≡ xs
all_parameters [] = refl
all_parameters (x ∷ xs) = ap (λ (ys : List (Tree (part_of Parameters))). x ∷ ys) (all_parameters xs)

pub all_indexes : (xs : List (Tree (part_of Indexes))) → glued Indexes xs [] ≡ xs
all_indexes [] = refl
all_indexes (x ∷ xs) = ap (λ (ys : List (Tree (part_of Indexes))). x ∷ ys) (all_indexes xs)

-- lists of the code, by what was pushed
pub first_pushed : {A B : Type 0} (f : A → B) (ys zs : List A) (x : A) → zs ≡ [] → ys ≡ zs ++ x ∷ [] → f x ∷ [] ≡ map f ys
first_pushed f ys zs x e p = sym (ap (map f) (p ∙ ap (λ (us : List _). us ++ x ∷ []) e))

pub pushed : {A B : Type 0} (f : A → B) (ys xs : List A) (x : A) → ys ≡ xs ++ x ∷ [] → map f xs ++ f x ∷ [] ≡ map f ys
pushed f ys xs x p = sym (ap (map f) p ∙ map-append f xs (x ∷ []))

-- items, and annotations, one after another

pub items_next : {old mid next : List Token} {f : List trees.Item → List trees.Item} {x : trees.Item} {b : Bool}
    → Goes 0 Items old Items mid f → b ≡ has (front (rules Items)).begins (head flatzinc mid) → b ≡ true → Read 0 (Rule OneItem ∷ []) (x, tt) mid next
    → Goes 0 Items old Items next (λ w. f (x ∷ w))
items_next {old} {mid} {next} {f} {x} g k h r = record {
  reads = λ new w q. g.reads new (x ∷ w) (reads_by (first (rules Items) (head flatzinc mid) k h) (rule_then r q));
  stops = λ why new q. g.stops why new (halts_by (first (rules Items) (head flatzinc mid) k h) (rule_behind r q));
}

pub annotations_next : {old mid colons next : List Token} {f : List trees.Annotation → List trees.Annotation} {t : Token} {x : trees.Annotation} {b : Bool}
    → Goes 0 Annotations old Annotations mid f → b ≡ has (7 ∷ []) (head flatzinc mid) → b ≡ true → Read 0 (Leaf 7 ∷ []) (t, tt) mid colons
    → Read 0 (Rule Annotation ∷ []) (x, tt) colons next → Goes 0 Annotations old Annotations next (λ w. f (x ∷ w))
annotations_next {old} {mid} {colons} {next} {f} {t} {x} g k h c r = record {
  reads = λ new w q. g.reads new (x ∷ w) (reads_by (first (rules Annotations) (head flatzinc mid) k h) (leaf_then c (rule_then r q)));
  stops = λ why new q. g.stops why new (halts_by (first (rules Annotations) (head flatzinc mid) k h) (leaf_behind c (rule_behind r q)));
}

-- what is read so far stands before the rest
pub push_before : {A B : Type 0} (f : A → B) (ys xs : List A) (x : A) (w : List B) → ys ≡ xs ++ x ∷ [] → map f xs ++ (f x ∷ w) ≡ map f ys ++ w
push_before f ys xs x w p = sym (ap (λ (zs : List _). zs ++ w) (sym (pushed f ys xs x p)) ∙ append_assoc (map f xs) (f x ∷ []) w)

pub all_arguments : (xs : List (Tree (part_of Arguments))) → glued Arguments xs trees.Nil ≡ joined xs
all_arguments [] = refl
all_arguments (x ∷ xs) = ap (trees.More x) (all_arguments xs)
