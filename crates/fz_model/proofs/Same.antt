-- A comparison of what two values hold is one of the values.
use Rattle.std.proofs.Common.{◌≡◌, Bool, sym, ◌∙◌}
use Rattle.std.specs.Prelude.{IsTrue}
use Rattle.std.specs.Bool.{Decides}

pub same_views : {X : Type 0} (r : Bool) (x y a b : X) → Decides r (x ≡ y) → x ≡ a → y ≡ b → (IsTrue r → a ≡ b) × (a ≡ b → IsTrue r)
same_views r x y a b d p q = (λ t. sym p ∙ d.0 t ∙ q, λ e. d.1 (p ∙ e ∙ sym q))
