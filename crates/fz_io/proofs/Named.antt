-- The text of a name.
use Rattle.std.proofs.Common.{◌≡◌, ℕ, ◌<◌, List, [], ◌∷◌, drop, Some, ap, ◌∙◌, sym, get_or, cond, suc, string_bytes, bytes_eq, true, false, IsTrue, length, refl}
use Rattle.std.proofs.Math.Seq.{drop-cons}
use Rattle.std.proofs.lemmas.Option.{slice_get_read}
use Rattle.std.specs.Option.{option_map_or}
use Rattle.fz_io.specs.Texts.{text_of, bytes_at, is_named}
use Rattle.fz_io.specs.declared.texts.NamedText.{NamedText}

text_here : (t : NamedText) (ts : List NamedText) (name : List ℕ) → bytes_eq (string_bytes t.name) name ≡ true → text_of (t ∷ ts) name ≡ Some t.bytes.items
text_here t ts name eq = ap (λ b. cond b (Some t.bytes.items) (text_of ts name)) eq

bytes_here : (ts : List NamedText) (i : ℕ) (t : NamedText) → i < length ts → t ≡ get_or ts i t → bytes_at ts i ≡ t.bytes.items
bytes_here ts i t h e = ap (λ o. option_map_or (λ (u : NamedText). u.bytes.items) o []) (slice_get_read ts (length ts) i t refl h e)

named_here : (ts : List NamedText) (i : ℕ) (t : NamedText) (name : List ℕ) → i < length ts → t ≡ get_or ts i t → is_named ts name i ≡ bytes_eq (string_bytes t.name) name
named_here ts i t name h e = ap (λ o. option_map_or (λ (u : NamedText). bytes_eq (string_bytes u.name) name) o false) (slice_get_read ts (length ts) i t refl h e)

-- the text at this place has this name
pub named_at : (ts : List NamedText) (i : ℕ) (name : List ℕ) (t : NamedText) → i < length ts → t ≡ get_or ts i t
    → bytes_eq (string_bytes t.name) name ≡ true → IsTrue (is_named ts name i)
named_at ts i name t h e eq = named_here ts i t name h e ∙ eq

pub text_at : (ts : List NamedText) (i : ℕ) (name : List ℕ) (t : NamedText) → i < length ts → t ≡ get_or ts i t → text_of (drop i ts) name ≡ text_of ts name
    → bytes_eq (string_bytes t.name) name ≡ true → text_of ts name ≡ Some (bytes_at ts i)
text_at ts i name t h e same eq =
    let cut : drop i ts ≡ t ∷ drop (suc i) ts = drop-cons ts i t h ∙ ap (λ u. u ∷ drop (suc i) ts) (sym e) in
    sym same ∙ ap (λ u. text_of u name) cut ∙ text_here t (drop (suc i) ts) name eq ∙ sym (ap Some (bytes_here ts i t h e))
