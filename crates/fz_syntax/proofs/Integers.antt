-- What a list of integers alone has, is and adds.
use Rattle.std.proofs.Common.{◌≡◌, ℕ, ◌+◌, ◌<◌, zero, suc, List, [], ◌∷◌, ◌++◌, map, length, get_or, refl, sym, ap, ap₂, ◌∙◌, arith}
use Rattle.std.proofs.lemmas.Bool.{lt-ltb, le-ltb}
use Rattle.std.specs.Prelude.{cond, Option, Some, None, option_map, Result, Ok, Err, IfOk, flat_map, slice_get}
use Rattle.fz_spec.specs.declared.asked.Element.{Element}
use Rattle.fz_spec.specs.declared.kind.Kind.{Kind}
use Rattle.fz_spec.specs.declared.kind.Kind.TheVariants as kinds
use Rattle.fz_spec.specs.declared.limits.TheConstants.{ELEMENT_LIMIT}
use Rattle.fz_spec.specs.declared.term.Term.{Term}
use Rattle.fz_spec.specs.declared.term.Term.TheVariants.{Num}
use Rattle.fz_syntax.specs.declared.leaf.Integer.{Integer}
use Rattle.fz_syntax.specs.Trees.{integer_basic_of}
use Rattle.fz_language.specs.Entries.{Environment, of_kind, term_in, before, each_of, number_of}
use Rattle.fz_language.specs.Numerals.{floats_in}
use Rattle.fz_language.specs.Rules.{unknown_in, Addition, Counts, AnElement, counted, element_additions, over}
use Rattle.fz_syntax.specs.declared.limits.Room.{Room}
use Rattle.fz_syntax.specs.Rooms.{IsRoom, IsSoFar}

pub no_floats : (xs : List Integer) → flat_map floats_in (map integer_basic_of xs) ≡ []
no_floats [] = refl
no_floats (x ∷ xs) = no_floats xs

pub all_known : (env : Environment) (xs : List Integer) → flat_map (unknown_in env) (map integer_basic_of xs) ≡ []
all_known env [] = refl
all_known env (x ∷ xs) = all_known env xs

-- ---- terms

abbrev pub terms_of : List Integer → List Term
terms_of xs = map (λ (x : Integer). Num x.value) xs

integers_asked : (env : Environment) (e : Element) (xs : List Integer) → e.kind ≡ kinds.Int → each_of (term_in env e) (map integer_basic_of xs) ≡ Ok (terms_of xs)
integers_asked env e [] k = refl
integers_asked env e (x ∷ xs) k = ap₂ (λ kind r. before (of_kind kind kinds.Int (Num x.value)) r x.at) k (integers_asked env e xs k)

truths_asked : (env : Environment) (e : Element) (x : Integer) (xs : List Integer) → e.kind ≡ kinds.Bool → each_of (term_in env e) (map integer_basic_of (x ∷ xs)) ≡ Err x.at
truths_asked env e x xs k = ap (λ kind. before (of_kind kind kinds.Int (Num x.value)) (each_of (term_in env e) (map integer_basic_of xs)) x.at) k

-- the place of the first integer, where integers aren't asked
pub record IsUnasked (kind : Kind) (xs : List Integer) (place : Option ℕ) : Type 0 where
  pub truth : kind ≡ kinds.Bool → place ≡ option_map (λ (x : Integer). x.at) (slice_get xs 0)
  pub integer : kind ≡ kinds.Int → place ≡ None

pub unasked : (env : Environment) (e : Element) (xs : List Integer) (at : ℕ) → IsUnasked e.kind xs (Some at) → Err at ≡ each_of (term_in env e) (map integer_basic_of xs)
unasked env e xs at u = go e.kind refl xs u
  where
    go : (kind : Kind) → e.kind ≡ kind → (ys : List Integer) → IsUnasked e.kind ys (Some at) → Err at ≡ each_of (term_in env e) (map integer_basic_of ys)
    go kinds.Int is ys w = let no = w.integer is in cc
    go kinds.Bool is [] w = let no = w.truth is in cc
    go kinds.Bool is (y ∷ ys) w = let same : at ≡ y.at = cc (w.truth is) in ap (λ p. Err p) same ∙ sym (truths_asked env e y ys is)

pub asked : (env : Environment) (e : Element) (xs : List Integer) → IsUnasked e.kind xs None → Ok (terms_of xs) ≡ each_of (term_in env e) (map integer_basic_of xs)
asked env e xs u = go e.kind refl xs u
  where
    go : (kind : Kind) → e.kind ≡ kind → (ys : List Integer) → IsUnasked e.kind ys None → Ok (terms_of ys) ≡ each_of (term_in env e) (map integer_basic_of ys)
    go kinds.Int is ys w = sym (integers_asked env e ys is)
    go kinds.Bool is [] w = refl
    go kinds.Bool is (y ∷ ys) w = let no = w.truth is in cc

-- what holds whatever names stand for holds of these
pub whatever : {X Y : Type 0} (P : Environment → X → Type 0) (r : Result X Y) → IfOk r (λ x. (env : Environment) → P env x) → (env : Environment) → IfOk r (P env)
whatever P (Ok x) h env = h env
whatever P (Err y) h env = tt

-- their numbers
pub values_are : (xs : List Integer) → map number_of (terms_of xs) ≡ map (λ (x : Integer). x.value) xs
values_are [] = refl
values_are (x ∷ xs) = ap (λ vs. x.value ∷ vs) (values_are xs)

-- ---- limits

abbrev additions_of : List Integer → List Addition
additions_of xs = flat_map element_additions (map integer_basic_of xs)

pub over_at : (xs : List Integer) (n : Counts) (i : ℕ) (d : Integer) → n.elements + i ≡ ELEMENT_LIMIT → i < length xs → slice_get (over n (additions_of xs)) 0 ≡ Some (get_or xs i d).at
over_at [] n i d e h = absurd (omega (arith, h))
over_at (x ∷ xs) n zero d e h =
    ap (λ b. slice_get (cond b [] (x.at ∷ []) ++ over (counted n (AnElement x.at)) (additions_of xs)) 0) (le-ltb n.elements ELEMENT_LIMIT (omega (arith, e)))
over_at (x ∷ xs) n (suc i) d e h =
    ap (λ b. slice_get (cond b [] (x.at ∷ []) ++ over (counted n (AnElement x.at)) (additions_of xs)) 0) (lt-ltb n.elements ELEMENT_LIMIT (omega (arith, e)))
    ∙ over_at xs (counted n (AnElement x.at)) i d (omega (arith, e)) (omega (arith, h))

pub all_within : (xs : List Integer) (n : Counts) (room : Room) (left : ℕ) → IsRoom room n → room.elements ≡ length xs + left → IsSoFar n (additions_of xs) (record room { elements = left })
all_within [] n room left s e = (record { variables = s.variables; constraints = s.constraints; elements = omega (arith, s.elements, e) }, refl)
all_within (x ∷ xs) n room left s e =
    let next : Counts = counted n (AnElement x.at) in
    let h = all_within xs next (record room { elements = length xs + left }) left (record { variables = s.variables; constraints = s.constraints; elements = omega (arith, s.elements, e) }) refl in
    (h.0, ap (λ b. cond b [] (x.at ∷ []) ++ over next (additions_of xs)) (lt-ltb n.elements ELEMENT_LIMIT (omega (arith, s.elements, e))) ∙ h.1)
