-- Levels of brackets, by how many more may open.
use Rattle.std.proofs.Common.{◌≡◌, ℕ, suc, ◌-◌, ◌<◌, ◌≤◌, List, [], ◌∷◌, Bool, true, false, ◌||◌, ◌==◌, ◌∙◌, refl, subst, lt-ltb, arith}
use Rattle.fz_language.specs.declared.fault.SyntaxFault.TheVariants.{TooDeep}
use Rattle.fz_language.specs.Tokens.{Token}
use Rattle.fz_language.specs.Grammar.{Part, flatzinc, level_limit}
use Rattle.fz_grammar.specs.Grammar.{Symbol, Leaf, Trees}
use Rattle.fz_grammar.specs.Reading.{HereIn, allowed, has, head}
use Rattle.fz_parse.specs.declared.stop.Stop.TheVariants as stop
use Rattle.fz_parse.specs.declared.stop.Stop.{Stop}
use Rattle.fz_parse.specs.Steps.{Read, Halts}
use Rattle.fz_parse.proofs.Takes.{has_kind}

pub opens_parenthesis_at : (left : ℕ) → 0 < left → left ≤ 64 → allowed flatzinc level_limit 9 (64 - left) ≡ true
opens_parenthesis_at left some most = lt-ltb (64 - left) 64 (omega arith)

pub opens_bracket_at : (left : ℕ) → 0 < left → left ≤ 64 → allowed flatzinc level_limit 11 (64 - left) ≡ true
opens_bracket_at left some most = lt-ltb (64 - left) 64 (omega arith)

pub deeper : (left : ℕ) → 0 < left → left ≤ 64 → 64 - (left - 1) ≡ suc (64 - left)
deeper left some most = omega arith

-- the bracket stands there, and no level is left
pub over : (k left : ℕ) {ss : List (Symbol Part)} {old : List Token} {b : Bool} → flatzinc.opens k ≡ true → b ≡ has (k ∷ []) (head flatzinc old) → b ≡ true → left ≡ 0 → Halts (64 - left) (Leaf k ∷ ss) old old (stop.Fault TooDeep)
over k left {ss} {old} {b} o e f z =
    let at : 64 - left ≡ 64 = omega (arith, z) in
    record { is = HereIn (64 - left) k ss old (at, has_kind b k (head flatzinc old) e f, o) }

pub deeper_read : {left : ℕ} {ss : List (Symbol Part)} {v : Trees flatzinc ss} {old new : List Token} → 0 < left → left ≤ 64 → Read (64 - (left - 1)) ss v old new → Read (suc (64 - left)) ss v old new
deeper_read {left} {ss} {v} {old} {new} some most r = subst (λ (l : ℕ). Read l ss v old new) (deeper left some most) r

pub deeper_halts : {left : ℕ} {ss : List (Symbol Part)} {old new : List Token} {why : Stop} → 0 < left → left ≤ 64 → Halts (64 - (left - 1)) ss old new why → Halts (suc (64 - left)) ss old new why
deeper_halts {left} {ss} {old} {new} {why} some most r = subst (λ (l : ℕ). Halts l ss old new why) (deeper left some most) r

two : (a b : Bool) → ((a || false) || (b || false)) ≡ (a || (b || false))
two true b = refl
two false b = refl

-- a parenthesis or a bracket closes the arguments
pub closes : (h : ℕ) {b c : Bool} → b ≡ has (10 ∷ []) h → c ≡ has (12 ∷ []) h → (b || c) ≡ has (10 ∷ 12 ∷ []) h
closes h {b} {c} e f = (λ i. e i || f i) ∙ two (10 == h) (12 == h)
