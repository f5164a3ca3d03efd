-- The rows of the table, one for each constraint.
use Rattle.std.proofs.Common.{◌≡◌, ◌∙◌, ℕ, Bool, true, false, cond, Option, Some, List, [], ◌∷◌, length, refl, sym, ap, subst}
use Rattle.std.specs.Prelude.{find, ◌==◌, ◌&&◌, not, bytes_eq}
use Rattle.std.specs.List.{AllByRecursion, list_all}
use Rattle.std.proofs.lemmas.Bool.{and_parts, eqb-true}
use Rattle.fz_spec.specs.declared.builtin.Builtin.{Builtin}
use Rattle.fz_spec.specs.contracts.builtin.BuiltinPartialEq.TheImpl as equality
use Rattle.fz_model.proofs.Names.{equal_names}
use Rattle.fz_spec.specs.declared.asked.Asked.{Asked}
use Rattle.fz_spec.specs.Signatures.{Row, rows, row_named, row_of, signature_of}

pub found : {X : Type 0} (p : X → Bool) (P : X → Type 0) (xs : List X) (x : X) → AllByRecursion P xs → find p xs ≡ Some x → P x
found p P [] x h e = cc
found p P (y ∷ ys) x h e = go (λ k. found p P ys x h.1 k) (p y) e
  where
    go : (find p ys ≡ Some x → P x) → (b : Bool) → cond b (Some y) (find p ys) ≡ Some x → P x
    go f true k = let is : y ≡ x = cc in subst P is h.0
    go f false k = f k

passes : {X : Type 0} (p : X → Bool) (xs : List X) (x : X) → find p xs ≡ Some x → p x ≡ true
passes p [] x e = cc
passes p (y ∷ ys) x e = go (λ k. passes p ys x k) (p y) refl e
  where
    go : (find p ys ≡ Some x → p x ≡ true) → (b : Bool) → p y ≡ b → cond b (Some y) (find p ys) ≡ Some x → p x ≡ true
    go f true t k = let is : y ≡ x = cc in subst (λ z. p z ≡ true) is t
    go f false t k = f k

-- ---- no two rows are of one constraint: computation compares them

abbrev is_apart : Row → Row → Bool
is_apart row other = not ((equality.ghosts).eq other.builtin row.builtin)

abbrev are_apart : List Row → Bool
are_apart [] = true
are_apart (row ∷ others) = list_all (is_apart row) others && are_apart others

all_apart : are_apart rows ≡ true
all_apart = refl

each_passes : {X : Type 0} (test : X → Bool) (xs : List X) → list_all test xs ≡ true → AllByRecursion (λ x. test x ≡ true) xs
each_passes test [] all = tt
each_passes test (x ∷ xs) all = let each = and_parts (test x) (list_all test xs) all in (each.0, each_passes test xs each.1)

not_true : (b : Bool) → not b ≡ true → b ≡ false
not_true true e = sym e
not_true false e = refl

-- the row of a constraint among rows
abbrev row_among : List Row → Builtin → Option Row
row_among rs builtin = find (λ (row : Row). (equality.ghosts).eq builtin row.builtin) rs

-- what is found among rows that are apart is the row of its constraint
is_its_row : (first : Row → Bool) (rs : List Row) (row : Row) → are_apart rs ≡ true → find first rs ≡ Some row → row_among rs row.builtin ≡ Some row
is_its_row first [] row apart e = cc
is_its_row first (r ∷ rs) row apart e =
    let each = and_parts (list_all (is_apart r) rs) (are_apart rs) apart in
    go (each_passes (is_apart r) rs each.0) (λ k. is_its_row first rs row each.1 k) (first r) e
  where
    go : AllByRecursion (λ s. is_apart r s ≡ true) rs → (find first rs ≡ Some row → row_among rs row.builtin ≡ Some row) → (b : Bool) → cond b (Some r) (find first rs) ≡ Some row
        → row_among (r ∷ rs) row.builtin ≡ Some row
    go apart later true k =
        let is : r ≡ row = cc in
        subst (λ (s : Row). row_among (r ∷ rs) s.builtin ≡ Some s) is (ap (λ b. cond b (Some r) (row_among rs r.builtin)) ((equal_names r.builtin r.builtin).1 refl))
    go apart later false k =
        let other = not_true ((equality.ghosts).eq row.builtin r.builtin) (found first (λ s. is_apart r s ≡ true) rs row apart k) in
        ap (λ b. cond b (Some r) (row_among rs row.builtin)) other ∙ later k

-- the row of a name is that of its constraint
pub row_is_of : (name : List ℕ) (row : Row) → row_named name ≡ Some row → row_of row.builtin ≡ Some row
row_is_of name row e = is_its_row (λ (r : Row). bytes_eq name r.name) rows row all_apart e

pub signature_length : (row : Row) (n : ℕ) (signature : List Asked) → signature_of row n ≡ Some signature → length signature ≡ n
signature_length row n signature e = eqb-true (length signature) n (passes (λ (asked : List Asked). length asked == n) row.signatures signature e)
