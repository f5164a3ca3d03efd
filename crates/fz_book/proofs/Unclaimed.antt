-- Whether some part is unclaimed.
use Rattle.std.proofs.Common.{◌≡◌, ◌∙◌, ◌<◌, ℕ, zero, suc, List, [], ◌∷◌, length, get_or, Bool, true, false, not, ◌&&◌, ap, sym, arith, Option, Some, None}
use Rattle.std.specs.Prelude.{is_some, MatchOption}
use Rattle.std.specs.List.{list_all}
use Rattle.std.proofs.Math.Bool.{and-false}
use Rattle.fz_tree.specs.Book.{Part, is_claimed}
use Rattle.fz_book.specs.Room.{Roomy}
use Rattle.fz_book.specs.Places.{IsUnclaimedAt}

not_all : (ps : List Part) (i : ℕ) → i < length ps → ((d : Part) → (get_or ps i d).claimed ≡ false) → list_all is_claimed ps ≡ false
not_all [] i within unclaimed = absurd (omega (arith, within))
not_all (p ∷ ps) zero within unclaimed = ap (λ b. b && list_all is_claimed ps) (unclaimed p)
not_all (p ∷ ps) (suc i) within unclaimed = ap (λ b. p.claimed && b) (not_all ps i (omega (arith, within)) unclaimed) ∙ and-false p.claimed

some_unclaimed : (ps : List Part) (o : Option ℕ) → MatchOption o (list_all is_claimed ps ≡ true) (IsUnclaimedAt ps) → is_some o ≡ not (list_all is_claimed ps)
some_unclaimed ps None all = sym (ap not all)
some_unclaimed ps (Some i) at = sym (ap not (not_all ps i at.within at.first.unclaimed))

-- as the code says it: o is the place of the first that nobody has claimed, of the parts as they are read
pub unclaimed_code : (b : Roomy) (read : List Part) (o : Option ℕ) (r : Bool) → read ≡ b.book.parts → MatchOption o (list_all is_claimed read ≡ true) (IsUnclaimedAt read) → r ≡ is_some o → r ≡ not (list_all is_claimed b.book.parts)
unclaimed_code b read o r same at is = is ∙ some_unclaimed read o at ∙ ap (λ (ps : List Part). not (list_all is_claimed ps)) same
