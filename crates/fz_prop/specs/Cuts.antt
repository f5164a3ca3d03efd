-- Which numbers a cut keeps, and how much of a change it was.
use Rattle.std.specs.Prelude.{◌≡◌, ◌≢◌, ℕ, ℤ, ◌≤ℤ◌, List, nat_eq, if◌then◌else◌, ◌&&◌}
use Rattle.std.specs.Ordering.{int_eq}
use Rattle.fz_sets.specs.Sets.{set_size}
use Rattle.fz_dom.specs.Shape.{least, greatest}
use Rattle.fz_dom.specs.Changes.{IsFromTo}
use Rattle.fz_prop.specs.declared.cut.Cut.{Cut}
use Rattle.fz_prop.specs.declared.cut.Cut.TheVariants.{From, To, Only, Range, Without, WithoutRange}

abbrev pub Keeps : Cut → ℤ → Type 0
Keeps (From value) x = value ≤ℤ x
Keeps (To value) x = x ≤ℤ value
Keeps (Only value) x = x ≡ value
Keeps (Range low high) x = IsFromTo low high x
Keeps (Without value) x = x ≢ value
Keeps (WithoutRange low high) x = IsFromTo low high x → ⊥

abbrev pub have_same_ends : List (ℤ × ℤ) → ℤ → ℤ → ℕ
have_same_ends e low high = if int_eq low (least e) && int_eq high (greatest e) then 1 else 2

-- the level of the change from a domain with these ends to e: 3 where e is fixed, 2 where a bound moved, else 1
abbrev pub change_level : ℤ → ℤ → List (ℤ × ℤ) → ℕ
change_level low high e = if nat_eq (set_size e) 1 then 3 else have_same_ends e low high
