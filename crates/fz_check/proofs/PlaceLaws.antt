-- Where an expression is of a wrong type.
use Rattle.std.proofs.Common.{◌≡◌, ℕ, List, refl}
use Rattle.std.specs.Prelude.{Option, Some, None, option_map, slice_get, ℤ}
use Rattle.fz_spec.specs.declared.term.Term.{Term}
use Rattle.fz_spec.specs.Constraints as meaning
use Rattle.fz_language.specs.Trees.{ValueType, One, SetOf, Basic, Scalar, basic_at}
use Rattle.fz_language.specs.Entries.{Environment, Entry, term_in, set_of, or_place, resolve, number_of}
use Rattle.fz_language.specs.Entries as entries
use Rattle.fz_language.specs.Rules.{number_asked, kind_of, value_asked, wrong_place}
use Rattle.fz_language.specs.Models.{parameter_entry}

abbrev wrong_at : {X Y : Type 0} → (X → Y) → Option X → ℕ → List ℕ
wrong_at f o at = wrong_place (or_place (option_map f o) at)

pub right : {X Y : Type 0} (f : X → Y) (o : Option X) (at : ℕ) (x : X) → o ≡ Some x → None ≡ slice_get (wrong_at f o at) 0
right f (Some y) at x e = refl
right f None at x e = cc

pub wrong : {X Y : Type 0} (f : X → Y) (o : Option X) (at : ℕ) → o ≡ None → Some at ≡ slice_get (wrong_at f o at) 0
wrong f (Some y) at e = cc
wrong f None at e = refl

abbrev wrong_parameter : Environment → ValueType → Basic → List ℕ
wrong_parameter env t b = wrong_place (resolve env (value_asked t) (Scalar b))

pub parameter_right : (env : Environment) (t : ValueType) (b : Basic) (entry : Entry) → Some entry ≡ parameter_entry env t b → None ≡ slice_get (wrong_parameter env t b) 0
parameter_right env (One plain) b entry e = go (term_in env (number_asked (One plain)) b) e
  where
    go : (o : Option Term) → Some entry ≡ (elim o [ Some t ↦ Some (entries.Value (kind_of (One plain)) (number_of t)) | None ↦ None ]) → None ≡ slice_get (wrong_at meaning.One o (basic_at b)) 0
    go (Some t) k = refl
    go None k = cc
parameter_right env (SetOf at plain) b entry e = go (set_of env b) e
  where
    go : (o : Option (List (ℤ × ℤ))) → Some entry ≡ (elim o [ Some set ↦ Some (entries.Set set) | None ↦ None ]) → None ≡ slice_get (wrong_at meaning.Set o (basic_at b)) 0
    go (Some s) k = refl
    go None k = cc

pub parameter_wrong : (env : Environment) (t : ValueType) (b : Basic) → None ≡ parameter_entry env t b → Some (basic_at b) ≡ slice_get (wrong_parameter env t b) 0
parameter_wrong env (One plain) b e = go (term_in env (number_asked (One plain)) b) e
  where
    go : (o : Option Term) → ◌≡◌ {A = Option Entry} None (elim o [ Some t ↦ Some (entries.Value (kind_of (One plain)) (number_of t)) | None ↦ None ]) → Some (basic_at b) ≡ slice_get (wrong_at meaning.One o (basic_at b)) 0
    go (Some t) k = cc
    go None k = refl
parameter_wrong env (SetOf at plain) b e = go (set_of env b) e
  where
    go : (o : Option (List (ℤ × ℤ))) → ◌≡◌ {A = Option Entry} None (elim o [ Some set ↦ Some (entries.Set set) | None ↦ None ]) → Some (basic_at b) ≡ slice_get (wrong_at meaning.Set o (basic_at b)) 0
    go (Some s) k = cc
    go None k = refl
