-- Comparisons of what lists are mapped to, and of arguments.
use Rattle.std.proofs.Common.{◌≡◌, ℕ, ℤ, ◌+◌, ◌<◌, Bool, false, List, [], ◌∷◌, ◌++◌, map, take, length, get_or, sym, ap, ap₂, ◌∙◌, subst}
use Rattle.std.specs.Prelude.{IsTrue}
use Rattle.std.specs.Bool.{Decides}
use Rattle.std.proofs.lemmas.List.{map_more, get_or-map}
use Rattle.std.specs.Prelude.{◌&&◌}
use Rattle.std.specs.Ordering.{int_eq}
use Rattle.std.proofs.lemmas.Bool.Decides.{Decides-int_eq, Decides-eqb, Decides-and, Decides-like}
use Rattle.fz_spec.specs.declared.term.Term.{Term}
use Rattle.fz_spec.specs.declared.term.Term.TheVariants.{Num, Var}
use Rattle.fz_spec.specs.contracts.term.TermPartialEq.TheImpl as equality
use Rattle.fz_spec.specs.Constraints.{Argument, One, Numbers, Terms, Set}

pub same_more : {X Y : Type 0} (f : X → Y) (xs ys : List X) (i : ℕ) (a b : X) → i < length xs → length xs ≡ length ys → a ≡ get_or xs i a → b ≡ get_or ys i b → f a ≡ f b
    → map f (take i xs) ≡ map f (take i ys) → map f (take (i + 1) xs) ≡ map f (take (i + 1) ys)
same_more f xs ys i a b h l p q e so_far =
    map_more f xs i a h ∙ ap₂ (λ u v. u ++ v ∷ []) so_far (ap f (sym p) ∙ e ∙ ap f q) ∙ sym (map_more f ys i b (subst (λ (n : ℕ). i < n) l h))

-- where one element differs the lists do
pub differ_at : {X Y : Type 0} (f : X → Y) (xs ys : List X) (i : ℕ) (a b : X) → i < length xs → length xs ≡ length ys → a ≡ get_or xs i a → b ≡ get_or ys i b → (f a ≡ f b → IsTrue false)
    → (IsTrue false → map f xs ≡ map f ys) × (map f xs ≡ map f ys → IsTrue false)
differ_at f xs ys i a b h l p q n = (
  λ t. cc,
  λ e. n
      (ap f p ∙ sym (get_or-map f xs i a (f a) h) ∙ ap (λ u. get_or u i (f a)) e ∙ get_or-map f ys i b (f a) (subst (λ (k : ℕ). i < k) l h) ∙ ap f (sym q)),
)

one_number : (x y : ℤ) → Num x ≡ Num y → x ≡ y
one_number x y e = cc

one_variable : (x y : ℕ) → Var x ≡ Var y → x ≡ y
one_variable x y e = cc

pub equal_terms : (a b : Term) → Decides ((equality.ghosts).eq a b) (a ≡ b)
equal_terms (Num x) (Num y) = (λ e. ap (λ u. Num u) ((Decides-int_eq x y).0 e), λ e. (Decides-int_eq x y).1 (one_number x y e))
equal_terms (Num x) (Var y) = (λ e. cc, λ e. cc)
equal_terms (Var x) (Num y) = (λ e. cc, λ e. cc)
equal_terms (Var x) (Var y) = (λ e. ap (λ u. Var u) ((Decides-eqb x y).0 e), λ e. (Decides-eqb x y).1 (one_variable x y e))

same_pair : (a b : ℤ × ℤ) → (a.0 ≡ b.0) × (a.1 ≡ b.1) → a ≡ b
same_pair (a, b) (c, d) h = let p = h.0 in let q = h.1 in cc

pub equal_pairs : (a b : ℤ × ℤ) → Decides (int_eq a.0 b.0 && int_eq a.1 b.1) (a ≡ b)
equal_pairs a b =
    Decides-like (int_eq a.0 b.0 && int_eq a.1 b.1) (same_pair a b)
    (λ e. (ap (λ (p : ℤ × ℤ). p.0) e, ap (λ (p : ℤ × ℤ). p.1) e))
    (Decides-and (int_eq a.0 b.0) (int_eq a.1 b.1) (Decides-int_eq a.0 b.0) (Decides-int_eq a.1 b.1))

numbers_in : Argument → List ℤ
numbers_in (One t) = []
numbers_in (Numbers ns) = ns
numbers_in (Terms ts) = []
numbers_in (Set set) = []

terms_in : Argument → List Term
terms_in (One t) = []
terms_in (Numbers ns) = []
terms_in (Terms ts) = ts
terms_in (Set set) = []

one_list : (xs ys : List ℤ) → Numbers xs ≡ Numbers ys → xs ≡ ys
unfolding numbers_in
one_list xs ys e = ap numbers_in e

one_list_of_terms : (xs ys : List Term) → Terms xs ≡ Terms ys → xs ≡ ys
unfolding terms_in
one_list_of_terms xs ys e = ap terms_in e

pub same_numbers : (r : Bool) (m n : Argument) (x y xs ys : List ℤ) → Decides r (x ≡ y) → x ≡ xs → y ≡ ys → m ≡ Numbers xs → n ≡ Numbers ys → (IsTrue r → m ≡ n) × (m ≡ n → IsTrue r)
same_numbers r m n x y xs ys d p q a b =
    (λ t. a ∙ ap (λ u. Numbers u) (sym p ∙ d.0 t ∙ q) ∙ sym b, λ e. d.1 (p ∙ one_list xs ys (sym a ∙ e ∙ b) ∙ sym q))

pub same_terms : (r : Bool) (m n : Argument) (x y xs ys : List Term) → Decides r (x ≡ y) → x ≡ xs → y ≡ ys → m ≡ Terms xs → n ≡ Terms ys → (IsTrue r → m ≡ n) × (m ≡ n → IsTrue r)
same_terms r m n x y xs ys d p q a b =
    (λ t. a ∙ ap (λ u. Terms u) (sym p ∙ d.0 t ∙ q) ∙ sym b, λ e. d.1 (p ∙ one_list_of_terms xs ys (sym a ∙ e ∙ b) ∙ sym q))
