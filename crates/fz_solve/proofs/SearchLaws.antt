-- Search annotations, one by one.
use Rattle.std.proofs.Common.{◌≡◌, ◌≢◌, ℕ, ◌+◌, ◌<◌, ◌≤◌, Bool, true, false, ◌||◌, cond, Option, Some, None, option_map, List, [], ◌∷◌, ◌++◌, map, drop, length, get_or, refl, sym, ap, ap₂, ◌∙◌, append_assoc, append-nil}
use Rattle.std.specs.Prelude.{find, is_some, not, bytes_eq, codes, flat_map}
use Rattle.std.proofs.lemmas.Cmp.{nat_list_eq_equiv}
use Rattle.std.proofs.lemmas.List.{drop_more, drop_all}
use Rattle.std.proofs.lemmas.Grind.{flat_map-append}
use Rattle.std.proofs.lemmas.Slice.Eq.{bytes_eq-Decides}
use Rattle.fz_spec.specs.Instance.{SearchPart}
use Rattle.fz_language.specs.Trees.{Name, Argument, Arguments, Simple, Text, Call, Brackets, More, Annotation}
use Rattle.fz_language.specs.Entries.{Environment}
use Rattle.fz_language.specs.Search.{part_in, parts_in, parts_of_list, parts_of_all, is_basic_search, as_argument, firsts, search_of}
use Rattle.fz_language.specs.Annotations.{list_of}
use Rattle.fz_language.specs.Search as searches
use Rattle.fz_syntax.specs.Trees.{joined}
use Rattle.fz_solve.specs.Searches.{and_word, is_new, parts_of_new}
use Rattle.fz_solve.specs.declared.search.Words.{Words}

-- ---- variables

-- the variables so far before those of the members that are left

abbrev pub with_left : List ℕ → Option (List (List ℕ)) → Option (List ℕ)
with_left vs left = option_map (λ ls. vs ++ searches.joined ls) left

-- ---- calls one after another

pub calls_done : (env : Environment) (left : List Argument) (ps : List SearchPart) → left ≡ [] → ps ++ parts_of_all env (joined left) ≡ ps
calls_done env left ps e = ap (λ us. ps ++ parts_of_all env (joined us)) e ∙ append-nil ps

-- ---- the first of each name

pub first_new : (seen : List (List ℕ)) (a : Annotation) (rest : List Annotation) → is_some (find (bytes_eq a.name.bytes) seen) ≡ false → firsts seen (a ∷ rest) ≡ a ∷ firsts (a.name.bytes ∷ seen) rest
first_new seen a rest h = go (find (bytes_eq a.name.bytes) seen) h
  where
    go : (o : Option (List ℕ)) → is_some o ≡ false → elim o [ Some name ↦ firsts seen rest | None ↦ a ∷ firsts (a.name.bytes ∷ seen) rest ] ≡ a ∷ firsts (a.name.bytes ∷ seen) rest
    go (Some n) k = cc
    go None k = refl

pub first_again : (seen : List (List ℕ)) (a : Annotation) (rest : List Annotation) → is_some (find (bytes_eq a.name.bytes) seen) ≡ true → firsts seen (a ∷ rest) ≡ firsts seen rest
first_again seen a rest h = go (find (bytes_eq a.name.bytes) seen) h
  where
    go : (o : Option (List ℕ)) → is_some o ≡ true → elim o [ Some name ↦ firsts seen rest | None ↦ a ∷ firsts (a.name.bytes ∷ seen) rest ] ≡ firsts seen rest
    go (Some n) k = refl
    go None k = cc

-- ---- one call

abbrev pub SEQ_SEARCH : List ℕ
SEQ_SEARCH = codes "seq_search"

pub in_list : (env : Environment) (name : Name) (args : Arguments) (ps : List SearchPart) → is_basic_search name.bytes ≡ false → bytes_eq name.bytes SEQ_SEARCH ≡ true → parts_of_list env args ≡ ps → parts_in env (Call name args) ≡ ps
in_list env name args ps e k h =
    ap (λ b. cond b (part_in env (list_of args)) (cond (bytes_eq name.bytes SEQ_SEARCH) (parts_of_list env args) [])) e ∙ ap (λ b. cond b (parts_of_list env args) []) k ∙ h

pub in_no_list : (env : Environment) (name : Name) (args : Arguments) → is_basic_search name.bytes ≡ false → bytes_eq name.bytes SEQ_SEARCH ≡ false → parts_in env (Call name args) ≡ []
in_no_list env name args e k =
    ap (λ b. cond b (part_in env (list_of args)) (cond (bytes_eq name.bytes SEQ_SEARCH) (parts_of_list env args) [])) e ∙ ap (λ b. cond b (parts_of_list env args) []) k

several : (env : Environment) (a b : Argument) (rest : Arguments) → parts_of_list env (More a (More b rest)) ≡ []
several env (Brackets at args) b rest = refl
several env (Simple basic) b rest = refl
several env (Text at) b rest = refl
several env (Call name args) b rest = refl

pub not_one : (env : Environment) (us : List Argument) → ((a : Argument) → us ≢ a ∷ []) → parts_of_list env (joined us) ≡ []
not_one env [] h = refl
not_one env (a ∷ []) h = absurd (h a refl)
not_one env (a ∷ b ∷ us) h = several env a b (joined us)

pub none_added : {X : Type 0} (xs : List X) {ys : List X} → ys ≡ [] → xs ≡ xs ++ ys
none_added xs e = sym (append-nil xs) ∙ ap (λ zs. xs ++ zs) (sym e)

-- ---- search words that stood before

abbrev is_seen : List ℕ → List (List ℕ) → Bool
is_seen name seen = is_some (find (bytes_eq name) seen)

-- which of the search words are among names
pub record AreWords (words : Words) (seen : List (List ℕ)) : Type 0 where
  pub int_search : words.int_search ≡ is_seen (codes "int_search") seen
  pub bool_search : words.bool_search ≡ is_seen (codes "bool_search") seen
  pub seq_search : words.seq_search ≡ is_seen (codes "seq_search") seen

or_true : (b : Bool) → (b || true) ≡ true
or_true true = refl
or_true false = refl

or_false : (b : Bool) → (b || false) ≡ b
or_false true = refl
or_false false = refl

some_name : (b : Bool) (x : List ℕ) (o : Option (List ℕ)) → is_some (cond b (Some x) o) ≡ (b || is_some o)
some_name true x o = refl
some_name false x o = refl

turned : (a b : Bool) → (a || b) ≡ (b || a)
turned true b = sym (or_true b)
turned false b = sym (or_false b)

-- one name more that was seen, or is new
seen_again : (word name : List ℕ) (seen : List (List ℕ)) (flag : Bool) → is_seen name seen ≡ true → flag ≡ is_seen word seen → (flag || bytes_eq name word) ≡ is_seen word seen
seen_again word name seen flag k h = go (bytes_eq name word) (bytes_eq-Decides name word).0
  where
    go : (b : Bool) → (b ≡ true → name ≡ word) → (flag || b) ≡ is_seen word seen
    go true e = or_true flag ∙ sym k ∙ ap (λ n. is_seen n seen) (e refl)
    go false e = or_false flag ∙ h

seen_new : (word name : List ℕ) (seen : List (List ℕ)) (flag : Bool) → flag ≡ is_seen word seen → (flag || bytes_eq name word) ≡ is_seen word (name ∷ seen)
seen_new word name seen flag h =
    turned flag (bytes_eq name word) ∙ ap₂ (λ a b. a || b) (nat_list_eq_equiv.symm name word) h ∙ sym (some_name (bytes_eq word name) name (find (bytes_eq word) seen))

words_again : (words : Words) (name : List ℕ) (seen : List (List ℕ)) → is_seen name seen ≡ true → AreWords words seen → AreWords (and_word words name) seen
words_again words name seen k h = record {
  int_search = seen_again (codes "int_search") name seen words.int_search k h.int_search;
  bool_search = seen_again (codes "bool_search") name seen words.bool_search k h.bool_search;
  seq_search = seen_again (codes "seq_search") name seen words.seq_search k h.seq_search;
}

words_new : (words : Words) (name : List ℕ) (seen : List (List ℕ)) → AreWords words seen → AreWords (and_word words name) (name ∷ seen)
words_new words name seen h = record {
  int_search = seen_new (codes "int_search") name seen words.int_search h.int_search;
  bool_search = seen_new (codes "bool_search") name seen words.bool_search h.bool_search;
  seq_search = seen_new (codes "seq_search") name seen words.seq_search h.seq_search;
}

-- the flag of the word that a name is
flag_is : (word name : List ℕ) (seen : List (List ℕ)) (flag b : Bool) → name ≡ word → flag ≡ is_seen word seen → is_seen name seen ≡ b → not flag ≡ not b
flag_is word name seen flag b e h k = ap not (h ∙ ap (λ n. is_seen n seen) (sym e) ∙ k)

-- a name that was seen is not new
old_word : (words : Words) (name : List ℕ) (seen : List (List ℕ)) → is_seen name seen ≡ true → AreWords words seen → is_new words name ≡ false
old_word words name seen k h =
    go (bytes_eq name (codes "int_search")) (bytes_eq-Decides name (codes "int_search")).0 (bytes_eq name (codes "bool_search")) (bytes_eq-Decides name (codes "bool_search")).0
    (bytes_eq name (codes "seq_search")) (bytes_eq-Decides name (codes "seq_search")).0
  where
    go : (a : Bool) → (a ≡ true → name ≡ codes "int_search") → (b : Bool) → (b ≡ true → name ≡ codes "bool_search") → (c : Bool) → (c ≡ true → name ≡ codes "seq_search")
        → cond a (not words.int_search) (cond b (not words.bool_search) (cond c (not words.seq_search) false)) ≡ false
    go true e b f c g = flag_is (codes "int_search") name seen words.int_search true (e refl) h.int_search k
    go false e true f c g = flag_is (codes "bool_search") name seen words.bool_search true (f refl) h.bool_search k
    go false e false f true g = flag_is (codes "seq_search") name seen words.seq_search true (g refl) h.seq_search k
    go false e false f false g = refl

-- one that is new is a search word, or says nothing
new_word : (env : Environment) (words : Words) (a : Annotation) (seen : List (List ℕ)) → is_seen a.name.bytes seen ≡ false → AreWords words seen → parts_of_new env words a ≡ flat_map (parts_in env) (as_argument a)
new_word env words a seen k h =
    go (bytes_eq name (codes "int_search")) refl (bytes_eq name (codes "bool_search")) refl (bytes_eq name (codes "seq_search")) refl
  where
    name : List ℕ
    name = a.name.bytes

    parts : List SearchPart
    parts = flat_map (parts_in env) (as_argument a)

    said : (o : Option Arguments) → is_basic_search name ≡ false → bytes_eq name SEQ_SEARCH ≡ false → [] ≡ flat_map (parts_in env) (elim o [ Some arguments ↦ Call a.name arguments ∷ [] | None ↦ [] ])
    said None p q = refl
    said (Some arguments) p q = ap (λ ps. ps ++ []) (sym (in_no_list env a.name arguments p q))

    go : (x : Bool) → bytes_eq name (codes "int_search") ≡ x → (y : Bool) → bytes_eq name (codes "bool_search") ≡ y → (z : Bool) → bytes_eq name (codes "seq_search") ≡ z
        → cond (cond x (not words.int_search) (cond y (not words.bool_search) (cond z (not words.seq_search) false))) parts [] ≡ parts
    go true e y f z g = ap (λ b. cond b parts []) (flag_is (codes "int_search") name seen words.int_search false ((bytes_eq-Decides name (codes "int_search")).0 e) h.int_search k)
    go false e true f z g = ap (λ b. cond b parts []) (flag_is (codes "bool_search") name seen words.bool_search false ((bytes_eq-Decides name (codes "bool_search")).0 f) h.bool_search k)
    go false e false f true g = ap (λ b. cond b parts []) (flag_is (codes "seq_search") name seen words.seq_search false ((bytes_eq-Decides name (codes "seq_search")).0 g) h.seq_search k)
    go false e false f false g = said a.arguments (ap₂ (λ p q. cond p true q) e f) g

-- ---- all annotations

-- the parts of annotations after others that have these names
abbrev pub parts_behind : Environment → List (List ℕ) → List Annotation → List SearchPart
parts_behind env seen rest = flat_map (parts_in env) (flat_map as_argument (firsts seen rest))

-- the parts so far, and those of the annotations that are left
pub record Searched {X : Type 0} (env : Environment) (f : X → Annotation) (xs : List X) (i : ℕ) (words : Words) (parts : List SearchPart) : Type 0 where
  pub seen : List (List ℕ)
  pub are : AreWords words seen
  pub whole : parts ++ parts_behind env seen (map f (drop i xs)) ≡ search_of env (map f xs)

pub none_searched : {X : Type 0} (env : Environment) (f : X → Annotation) (xs : List X) → Searched env f xs 0 (record { int_search = false; bool_search = false; seq_search = false }) []
none_searched env f xs = record { seen = []; are = record { int_search = refl; bool_search = refl; seq_search = refl }; whole = refl }

pub one_searched : {X : Type 0} (env : Environment) (f : X → Annotation) (xs : List X) (i : ℕ) (x : X) (words : Words) (parts : List SearchPart) → i < length xs → x ≡ get_or xs i x → Searched env f xs i words parts
    → Searched env f xs (i + 1) (and_word words (f x).name.bytes) (parts ++ parts_of_new env words (f x))
one_searched {X} env f xs i x words parts l is s = go (is_seen (f x).name.bytes s.seen) refl
  where
    rest : List Annotation
    rest = map f (drop (i + 1) xs)

    dropped : map f (drop i xs) ≡ f x ∷ rest
    dropped = ap (map f) (drop_more xs i x l) ∙ ap (λ (y : X). f y ∷ rest) (sym is)

    before : parts ++ parts_behind env s.seen (f x ∷ rest) ≡ search_of env (map f xs)
    before = ap (λ r. parts ++ parts_behind env s.seen r) (sym dropped) ∙ s.whole

    go : (b : Bool) → is_seen (f x).name.bytes s.seen ≡ b → Searched env f xs (i + 1) (and_word words (f x).name.bytes) (parts ++ parts_of_new env words (f x))
    go true e = record {
      seen = s.seen;
      are = words_again words (f x).name.bytes s.seen e s.are;
      whole =
          ap (λ b. (parts ++ cond b (flat_map (parts_in env) (as_argument (f x))) []) ++ parts_behind env s.seen rest) (old_word words (f x).name.bytes s.seen e s.are)
          ∙ ap (λ ps. ps ++ parts_behind env s.seen rest) (append-nil parts)
          ∙ ap (λ list. parts ++ flat_map (parts_in env) (flat_map as_argument list)) (sym (first_again s.seen (f x) rest e)) ∙ before;
    }
    go false e =
        let here = flat_map (parts_in env) (as_argument (f x)) in
        let others = firsts ((f x).name.bytes ∷ s.seen) rest in
        record {
          seen = (f x).name.bytes ∷ s.seen;
          are = words_new words (f x).name.bytes s.seen s.are;
          whole =
              ap (λ ps. (parts ++ ps) ++ parts_behind env ((f x).name.bytes ∷ s.seen) rest) (new_word env words (f x) s.seen e s.are)
              ∙ append_assoc parts here (flat_map (parts_in env) (flat_map as_argument others))
              ∙ ap (λ ps. parts ++ ps) (sym (flat_map-append (parts_in env) (as_argument (f x)) (flat_map as_argument others)))
              ∙ ap (λ list. parts ++ flat_map (parts_in env) (flat_map as_argument list)) (sym (first_new s.seen (f x) rest e)) ∙ before;
        }

pub all_searched : {X : Type 0} (env : Environment) (f : X → Annotation) (xs : List X) (i : ℕ) (words : Words) (parts : List SearchPart) → length xs ≤ i → Searched env f xs i words parts → parts ≡ search_of env (map f xs)
all_searched {X} env f xs i words parts l s =
    sym (append-nil parts) ∙ ap (λ (r : List X). parts ++ parts_behind env s.seen (map f r)) (sym (drop_all i xs l)) ∙ s.whole
