-- What the code reads.
use Rattle.std.proofs.Common.{◌≡◌, ◌∙◌, ℕ, List, sym, ap}
use Rattle.std.specs.Prelude.{slice_get, Some}

pub there : {X : Type 0} (xs ys : List X) (i : ℕ) (x y : X) → xs ≡ ys → slice_get xs i ≡ Some x → x ≡ y → slice_get ys i ≡ Some y
there {X} xs ys i x y same at is = ap (λ (l : List X). slice_get l i) (sym same) ∙ at ∙ ap Some is
