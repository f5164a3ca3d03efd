-- What a name begins and ends with, as slices say it.
use Rattle.std.proofs.Common.{◌≡◌, ℕ, ◌-◌, true, ◌&&◌, List, [], ◌∷◌, ◌++◌, length, drop, take, reverse, refl, sym, ap, ap₂, ◌∙◌, subst}
use Rattle.std.specs.Prelude.{◌==◌, nat_eq}
use Rattle.std.specs.Bool.{Decides}
use Rattle.std.specs.List.{starts_with, ends_with}
use Rattle.std.proofs.lemmas.Bool.{and_parts}
use Rattle.std.proofs.lemmas.Bool.Decides.{same_from_decides, Decides-eqb, Decides-like}
use Rattle.std.proofs.lemmas.List.{reverse-append, reverse-reverse}
use Rattle.std.proofs.lemmas.Slice.Eq.{starts_is, ends_is}
use Rattle.fz_language.specs.Rules.{begins}
use Rattle.fz_language.specs.Rules as rules

begins_parts : (s p : List ℕ) → begins s p ≡ true → s ≡ p ++ drop (length p) s
begins_parts s [] h = refl
begins_parts [] (b ∷ p) h = cc
begins_parts (a ∷ s) (b ∷ p) h =
    let w = and_parts (a == b) (begins s p) h in
    ap₂ (λ x xs. x ∷ xs) ((Decides-eqb a b).0 w.0) (begins_parts s p w.1)

begins_joined : (p rest : List ℕ) → begins (p ++ rest) p ≡ true
begins_joined [] rest = refl
begins_joined (b ∷ p) rest = ap₂ (λ x y. x && y) ((Decides-eqb b b).1 refl) (begins_joined p rest)

abbrev Begins : List ℕ → List ℕ → Type 0
Begins s p = (rest : List ℕ) × (s ≡ p ++ rest)

Decides-begins : (s p : List ℕ) → Decides (begins s p) (Begins s p)
Decides-begins s p = (λ h. (drop (length p) s, begins_parts s p h), λ b. subst (λ (u : List ℕ). begins u p ≡ true) (sym b.1) (begins_joined p b.0))

pub starts : (s p : List ℕ) → starts_with nat_eq s p ≡ begins s p
starts s p =
    let h = starts_is Decides-eqb s p (starts_with nat_eq s p) refl in
    same_from_decides (starts_with nat_eq s p) (begins s p) (λ t. (drop (length p) s, h.0 t), λ (b : Begins s p). h.1 b.0 b.1) (Decides-begins s p)

abbrev Ends : List ℕ → List ℕ → Type 0
Ends s p = (front : List ℕ) × (s ≡ front ++ p)

turned : (s p : List ℕ) → Begins (reverse s) (reverse p) → Ends s p
turned s p b = (reverse b.0, sym (reverse-reverse s) ∙ ap reverse b.1 ∙ reverse-append (reverse p) b.0 ∙ ap (λ u. reverse b.0 ++ u) (reverse-reverse p))

back : (s p : List ℕ) → Ends s p → Begins (reverse s) (reverse p)
back s p e = (reverse e.0, ap reverse e.1 ∙ reverse-append e.0 p)

pub ends : (s p : List ℕ) → ends_with nat_eq s p ≡ rules.ends_with s p
ends s p =
    let h = ends_is Decides-eqb s p (ends_with nat_eq s p) refl in
    same_from_decides (ends_with nat_eq s p) (rules.ends_with s p) (λ t. (take (length s - length p) s, h.0 t), λ (b : Ends s p). h.1 b.0 b.1)
    (Decides-like (begins (reverse s) (reverse p)) (turned s p) (back s p) (Decides-begins (reverse s) (reverse p)))
