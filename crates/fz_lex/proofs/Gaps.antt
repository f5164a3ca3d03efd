-- Blanks one after another.
use Rattle.std.proofs.Common.{◌≡◌, ℕ, ◌+◌, ◌<◌, ◌≤◌, Bool, true, false, List, length, slice_index, refl, inl, inr, arith, ◌||◌}
use Rattle.fz_language.specs.Tokens.{is_space, IsComment, IsBlank, IsGap, Ends, Skips}

-- one more blank after a gap
pub gap_more : (text : List ℕ) (start at next : ℕ) → IsGap text start at → IsBlank text at next → next ≤ length text → IsGap text start next
gap_more text start at next (Ends _ w) b o = Skips start next next b (Ends next o)
gap_more text start at next (Skips _ mid _ c g) b o = Skips start mid next c (gap_more text mid at next g b o)

pub space_gap : (text : List ℕ) (start at : ℕ) → IsGap text start at → at < length text → is_space (slice_index text at) ≡ true → IsGap text start (at + 1)
space_gap text start at g l s = gap_more text start at (at + 1) g (inl (l, s, refl)) (omega arith)

pub comment_gap : (text : List ℕ) (start at next : ℕ) → IsGap text start at → IsComment text at next → IsGap text start next
comment_gap text start at next g c = gap_more text start at next g (inr c) c.within

or_false : (a b : Bool) → a ≡ false → b ≡ false → (a || b) ≡ false
or_false a b e f = λ i. e i || f i

pub gap_within : (text : List ℕ) (start stop : ℕ) → IsGap text start stop → stop ≤ length text
gap_within text start stop (Ends _ w) = w
gap_within text start stop (Skips _ mid _ b g) = gap_within text mid stop g

pub gap_join : (text : List ℕ) (start mid stop : ℕ) → IsGap text start mid → IsGap text mid stop → IsGap text start stop
gap_join text start mid stop (Ends _ w) h = h
gap_join text start mid stop (Skips _ next _ b g) h = Skips start next stop b (gap_join text next mid stop g h)
