-- Arguments of an annotation that are put after others.
use Rattle.std.proofs.Common.{◌≡◌, ℕ, ◌+◌, ◌≤◌, List, [], ◌∷◌, ◌++◌, take, drop, length, refl, sym, ap, ap₂, ◌∙◌, append_assoc, append-nil, arith}
use Rattle.std.proofs.Math.Seq.{take-append_seam, drop-append_seam, set-append_seam}
use Rattle.std.proofs.lemmas.List.{length-append, length-drop}
use Rattle.std.specs.Prelude.{slice_set}
use Rattle.fz_language.specs.Trees as trees
use Rattle.fz_syntax.specs.declared.expression.Basic.{Basic}
use Rattle.fz_syntax.specs.declared.annotation.Argument.{Argument}
use Rattle.fz_syntax.specs.declared.annotation.Argument.TheVariants as argument
use Rattle.fz_syntax.specs.Trees.{basic_of, count_of, with_inside, put, before, trees_of}
use Rattle.fz_parse.specs.Added.{AreAdded, added, first_in}

pub added_is : (old xs new : List Argument) → new ≡ old ++ xs → added old new ≡ xs
added_is old xs new e = ap (drop (length old)) e ∙ drop-append_seam old xs

are_added : {count : ℕ} (old xs new : List Argument) → new ≡ old ++ xs → ((behind : List trees.Argument) → before xs behind ≡ trees_of xs ++ behind) → length (trees_of xs) ≡ count → AreAdded count old new
are_added {count} old xs new e whole n =
    let is = added_is old xs new e in
    record {
      kept = e ∙ ap (λ ys. old ++ ys) (sym is);
      whole = λ behind. ap (λ ys. before ys behind) is ∙ whole behind ∙ ap (λ ys. trees_of ys ++ behind) (sym is);
      number = ap (λ ys. length (trees_of ys)) is ∙ n;
    }

pub none_added : (old : List Argument) → AreAdded 0 old old
none_added old = are_added old [] old (sym (append-nil old)) (λ behind. refl) refl

pub nothing_is : (old : List Argument) → added old old ≡ []
nothing_is old = added_is old [] old (sym (append-nil old))

-- one that has none

pub simple_added : (old new : List Argument) (basic : Basic) → new ≡ old ++ argument.Simple basic ∷ [] → AreAdded 1 old new
simple_added old new basic e = are_added old (argument.Simple basic ∷ []) new e (λ behind. refl) refl

pub simple_is : (old new : List Argument) (basic : Basic) → new ≡ old ++ argument.Simple basic ∷ [] → first_in (trees_of (added old new)) ≡ trees.Simple (basic_of basic)
simple_is old new basic e = ap (λ ys. first_in (trees_of ys)) (added_is old (argument.Simple basic ∷ []) new e)

pub text_added : (old new : List Argument) (at : ℕ) → new ≡ old ++ argument.Text at ∷ [] → AreAdded 1 old new
text_added old new at e = are_added old (argument.Text at ∷ []) new e (λ behind. refl) refl

pub text_is : (old new : List Argument) (at : ℕ) → new ≡ old ++ argument.Text at ∷ [] → first_in (trees_of (added old new)) ≡ trees.Text at
text_is old new at e = ap (λ ys. first_in (trees_of ys)) (added_is old (argument.Text at ∷ []) new e)

-- one that has those that were put after it

put_all : (a : Argument) (inside behind : List trees.Argument) → count_of a ≡ length inside → put a (inside ++ behind) ≡ with_inside a inside ∷ behind
put_all a inside behind e =
    ap₂ (λ u v. with_inside a u ∷ v) (ap (λ k. take k (inside ++ behind)) e ∙ take-append_seam inside behind) (ap (λ k. drop k (inside ++ behind)) e ∙ drop-append_seam inside behind)

-- where it stands in the place of another
placed : {count : ℕ} (old from mid : List Argument) (x a : Argument) (place : ℕ) → from ≡ old ++ x ∷ [] → AreAdded count from mid → place ≡ length old → slice_set mid place a ≡ old ++ a ∷ added from mid
placed old from mid x a place e m p =
    ap₂ (λ ys k. slice_set ys k a) (m.kept ∙ ap (λ (ys : List Argument). ys ++ added from mid) e ∙ append_assoc old (x ∷ []) (added from mid)) p ∙ set-append_seam old x (added from mid) a

with_before : {count : ℕ} (old mid : List Argument) (a : Argument) → AreAdded count old mid → count_of a ≡ count → (behind : List trees.Argument) → before (a ∷ added old mid) behind ≡ with_inside a (trees_of (added old mid)) ∷ behind
with_before old mid a m n behind = ap (put a) (m.whole behind) ∙ put_all a (trees_of (added old mid)) behind (n ∙ sym m.number)

pub inside_added : {count : ℕ} (old from mid : List Argument) (x a : Argument) (place : ℕ) → from ≡ old ++ x ∷ [] → AreAdded count from mid → place ≡ length old → count_of a ≡ count → AreAdded 1 old (slice_set mid place a)
inside_added old from mid x a place e m p n =
    let w = with_before from mid a m n in
    are_added old (a ∷ added from mid) (slice_set mid place a) (placed old from mid x a place e m p) (λ behind. w behind ∙ sym (ap (λ (ys : List trees.Argument). ys ++ behind) (w []))) (ap length (w []))

pub inside_is : {count : ℕ} (old from mid : List Argument) (x a : Argument) (place : ℕ) → from ≡ old ++ x ∷ [] → AreAdded count from mid → place ≡ length old → count_of a ≡ count
    → first_in (trees_of (added old (slice_set mid place a))) ≡ with_inside a (trees_of (added from mid))
inside_is old from mid x a place e m p n =
    ap (λ ys. first_in (trees_of ys)) (added_is old (a ∷ added from mid) (slice_set mid place a) (placed old from mid x a place e m p)) ∙ ap first_in (with_before from mid a m n [])

-- others, and one after them

before_both : (xs ys : List Argument) (behind : List trees.Argument) → before (xs ++ ys) behind ≡ before xs (before ys behind)
before_both [] ys behind = refl
before_both (x ∷ xs) ys behind = ap (put x) (before_both xs ys behind)

both_kept : {m n : ℕ} (old mid new : List Argument) → AreAdded m old mid → AreAdded n mid new → new ≡ old ++ (added old mid ++ added mid new)
both_kept old mid new a b = b.kept ∙ ap (λ (ys : List Argument). ys ++ added mid new) a.kept ∙ append_assoc old (added old mid) (added mid new)

both_before : {m n : ℕ} (old mid new : List Argument) → AreAdded m old mid → AreAdded n mid new → (behind : List trees.Argument)
    → before (added old mid ++ added mid new) behind ≡ trees_of (added old mid) ++ (trees_of (added mid new) ++ behind)
both_before old mid new a b behind = before_both (added old mid) (added mid new) behind ∙ ap (before (added old mid)) (b.whole behind) ∙ a.whole (trees_of (added mid new) ++ behind)

both_trees : {m n : ℕ} (old mid new : List Argument) → AreAdded m old mid → AreAdded n mid new → trees_of (added old mid ++ added mid new) ≡ trees_of (added old mid) ++ trees_of (added mid new)
both_trees old mid new a b = both_before old mid new a b [] ∙ ap (λ ys. trees_of (added old mid) ++ ys) (append-nil (trees_of (added mid new)))

pub both_added : {m n : ℕ} (old mid new : List Argument) → AreAdded m old mid → AreAdded n mid new → AreAdded (m + n) old new
both_added {m} {n} old mid new a b =
    let first = trees_of (added old mid) in
    let second = trees_of (added mid new) in
    are_added old (added old mid ++ added mid new) new (both_kept old mid new a b)
    (λ behind. both_before old mid new a b behind ∙ sym (append_assoc first second behind) ∙ ap (λ (ys : List trees.Argument). ys ++ behind) (sym (both_trees old mid new a b)))
    (ap length (both_trees old mid new a b) ∙ length-append first second ∙ ap₂ (λ i j. i + j) a.number b.number)

only_first : (ts : List trees.Argument) → length ts ≡ 1 → first_in ts ∷ [] ≡ ts
only_first [] e = absurd (omega (arith, e))
only_first (t ∷ []) e = refl
only_first (t ∷ u ∷ ts) e = absurd (omega (arith, e))

pub first_is : (old new : List Argument) → AreAdded 1 old new → first_in (trees_of (added old new)) ∷ [] ≡ trees_of (added old new)
first_is old new a = only_first (trees_of (added old new)) a.number

pub next_is : {count : ℕ} (old mid new : List Argument) → AreAdded count old mid → AreAdded 1 mid new → trees_of (added old mid) ++ first_in (trees_of (added mid new)) ∷ [] ≡ trees_of (added old new)
next_is old mid new a b =
    ap (λ ys. trees_of (added old mid) ++ ys) (first_is mid new b) ∙ sym (both_trees old mid new a b)
    ∙ sym (ap trees_of (added_is old (added old mid ++ added mid new) new (both_kept old mid new a b)))

-- one that is alone, though others might have stood after it

pub alone_added : (old from mid : List Argument) (basic : Basic) → from ≡ old ++ argument.Simple basic ∷ [] → AreAdded 0 from mid → AreAdded 1 old mid
alone_added old from mid basic e b = both_added old from mid (simple_added old from basic e) b

pub alone_is : (old from mid : List Argument) (basic : Basic) → from ≡ old ++ argument.Simple basic ∷ [] → AreAdded 0 from mid → first_in (trees_of (added old mid)) ≡ trees.Simple (basic_of basic)
alone_is old from mid basic e b =
    let a = simple_added old from basic e in
    ap first_in (ap trees_of (added_is old (added old from ++ added from mid) mid (both_kept old from mid a b)) ∙ both_trees old from mid a b)
    ∙ ap (λ ys. first_in (trees_of ys ++ trees_of (added from mid))) (added_is old (argument.Simple basic ∷ []) from e)

-- no more than the elements of the list
trees_below : (xs : List Argument) → length (trees_of xs) ≤ length xs
trees_below [] = omega arith
trees_below (x ∷ xs) = omega (arith, trees_below xs, length-drop (count_of x) (trees_of xs))

pub added_below : {count : ℕ} (old new : List Argument) → AreAdded count old new → count ≤ length new
added_below old new a = omega (arith, a.number, trees_below (added old new), length-drop (length old) new)
