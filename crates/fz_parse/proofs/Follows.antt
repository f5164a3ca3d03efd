-- The reading of a rule, symbol by symbol.
use Rattle.std.proofs.Common.{◌≡◌, ℕ, ◌≤◌, nat_lt, lt-ltb, arith, List, [], ◌∷◌, Bool, true, false, cond, refl, sym, ap, ◌∙◌}
use Rattle.fz_language.specs.declared.fault.SyntaxFault.TheVariants.{Unexpected, TooDeep}
use Rattle.fz_language.specs.Tokens.{Token}
use Rattle.fz_language.specs.Grammar.{Part, Tree, flatzinc, level_limit, rules}
use Rattle.fz_grammar.specs.Grammar.{Symbol, Leaf, Rule, Trees, Body, Choice, Only, When}
use Rattle.fz_grammar.specs.Reading.{DoneIn, ChoseIn, WithinIn, IsOther, allowed, level, head, has, chosen}
use Rattle.fz_grammar.proofs.Steps.{joined, stops_before, stops_behind}
use Rattle.fz_parse.specs.declared.stop.Stop.{Stop}
use Rattle.fz_parse.specs.declared.stop.Stop.TheVariants as stop
use Rattle.fz_parse.specs.Steps.{Read, Halts, HaltsAt, IsOver}

-- one symbol, and then others

pub leaf_then : {l k : ℕ} {t : Token} {ss : List (Symbol Part)} {old mid new : List Token} {v : Trees flatzinc ss} → Read l (Leaf k ∷ []) (t, tt) old mid → Read (level flatzinc k l) ss v mid new → Read l (Leaf k ∷ ss) (t, v) old new
leaf_then {l} {k} {t} {ss} {old} {mid} {new} {v} r q = joined flatzinc level_limit l (Leaf k ∷ []) ss old mid new (t, tt) v r q

pub rule_then : {l : ℕ} {n : Part} {x : Tree n} {ss : List (Symbol Part)} {old mid new : List Token} {v : Trees flatzinc ss} → Read l (Rule n ∷ []) (x, tt) old mid → Read l ss v mid new → Read l (Rule n ∷ ss) (x, v) old new
rule_then {l} {n} {x} {ss} {old} {mid} {new} {v} r q = joined flatzinc level_limit l (Rule n ∷ []) ss old mid new (x, tt) v r q

pub ended : {l : ℕ} {ts : List Token} → Read l [] tt ts ts
ended {l} {ts} = DoneIn l ts

halts_in : (why : Stop) (l : ℕ) (s : Symbol Part) (ss : List (Symbol Part)) (old new : List Token) → HaltsAt why l (s ∷ []) old new → HaltsAt why l (s ∷ ss) old new
halts_in stop.Memory l s ss old new h = tt
halts_in (stop.Fault Unexpected) l s ss old new h = stops_before flatzinc level_limit IsOther l (s ∷ []) ss old new h
halts_in (stop.Fault TooDeep) l s ss old new h = stops_before flatzinc level_limit IsOver l (s ∷ []) ss old new h

-- the reading stops at the first symbol
pub here : {l : ℕ} {s : Symbol Part} {ss : List (Symbol Part)} {old new : List Token} {why : Stop} → Halts l (s ∷ []) old new why → Halts l (s ∷ ss) old new why
here {l} {s} {ss} {old} {new} {why} h = record { is = halts_in why l s ss old new h.is }

-- or after it
halts_leaf : (why : Stop) (l k : ℕ) (ss : List (Symbol Part)) (t : Token) (old mid new : List Token) → Read l (Leaf k ∷ []) (t, tt) old mid → HaltsAt why (level flatzinc k l) ss mid new → HaltsAt why l (Leaf k ∷ ss) old new
halts_leaf stop.Memory l k ss t old mid new r h = tt
halts_leaf (stop.Fault Unexpected) l k ss t old mid new r h = stops_behind flatzinc level_limit IsOther l (Leaf k ∷ []) ss old mid new (t, tt) r h
halts_leaf (stop.Fault TooDeep) l k ss t old mid new r h = stops_behind flatzinc level_limit IsOver l (Leaf k ∷ []) ss old mid new (t, tt) r h

pub leaf_behind : {l k : ℕ} {ss : List (Symbol Part)} {t : Token} {old mid new : List Token} {why : Stop} → Read l (Leaf k ∷ []) (t, tt) old mid → Halts (level flatzinc k l) ss mid new why → Halts l (Leaf k ∷ ss) old new why
leaf_behind {l} {k} {ss} {t} {old} {mid} {new} {why} r h = record { is = halts_leaf why l k ss t old mid new r h.is }

halts_rule : (why : Stop) (l : ℕ) (n : Part) (ss : List (Symbol Part)) (x : Tree n) (old mid new : List Token) → Read l (Rule n ∷ []) (x, tt) old mid → HaltsAt why l ss mid new → HaltsAt why l (Rule n ∷ ss) old new
halts_rule stop.Memory l n ss x old mid new r h = tt
halts_rule (stop.Fault Unexpected) l n ss x old mid new r h = stops_behind flatzinc level_limit IsOther l (Rule n ∷ []) ss old mid new (x, tt) r h
halts_rule (stop.Fault TooDeep) l n ss x old mid new r h = stops_behind flatzinc level_limit IsOver l (Rule n ∷ []) ss old mid new (x, tt) r h

pub rule_behind : {l : ℕ} {n : Part} {ss : List (Symbol Part)} {x : Tree n} {old mid new : List Token} {why : Stop} → Read l (Rule n ∷ []) (x, tt) old mid → Halts l ss mid new why → Halts l (Rule n ∷ ss) old new why
rule_behind {l} {n} {ss} {x} {old} {mid} {new} {why} r h = record { is = halts_rule why l n ss x old mid new r h.is }

-- the alternative that goes on is the one that begins with this kind

pub reads_rule : {l : ℕ} (n : Part) (k : ℕ) {old new : List Token} {v : Trees flatzinc (chosen (rules n) k).body} → chosen (rules n) (head flatzinc old) ≡ chosen (rules n) k → Read l (chosen (rules n) k).body v old new → Read l (Rule n ∷ []) ((chosen (rules n) k).build v, tt) old new
reads_rule {l} n k {old} {new} {v} e r = ChoseIn l n (chosen (rules n) k) [] old new new v tt e r (DoneIn l new)

halts_within : (why : Stop) (l : ℕ) (n : Part) (a : Body flatzinc n) (old new : List Token) → chosen (rules n) (head flatzinc old) ≡ a → HaltsAt why l a.body old new → HaltsAt why l (Rule n ∷ []) old new
halts_within stop.Memory l n a old new e h = tt
halts_within (stop.Fault Unexpected) l n a old new e h = WithinIn l n a [] old new e h
halts_within (stop.Fault TooDeep) l n a old new e h = WithinIn l n a [] old new e h

pub halts_rule_at : {l : ℕ} (n : Part) (k : ℕ) {old new : List Token} {why : Stop} → chosen (rules n) (head flatzinc old) ≡ chosen (rules n) k → Halts l (chosen (rules n) k).body old new why → Halts l (Rule n ∷ []) old new why
halts_rule_at {l} n k {old} {new} {why} e h = record { is = halts_within why l n (chosen (rules n) k) old new e h.is }

pub reads_by : {l : ℕ} {n : Part} {a : Body flatzinc n} {old new : List Token} {v : Trees flatzinc a.body} → chosen (rules n) (head flatzinc old) ≡ a → Read l a.body v old new → Read l (Rule n ∷ []) (a.build v, tt) old new
reads_by {l} {n} {a} {old} {new} {v} e r = ChoseIn l n a [] old new new v tt e r (DoneIn l new)

pub halts_by : {l : ℕ} {n : Part} {a : Body flatzinc n} {old new : List Token} {why : Stop} → chosen (rules n) (head flatzinc old) ≡ a → Halts l a.body old new why → Halts l (Rule n ∷ []) old new why
halts_by {l} {n} {a} {old} {new} {why} e h = record { is = halts_within why l n a old new e h.is }

-- the first alternative goes on, or a later one

abbrev pub front : {n : Part} → Choice Tree Token n → Body flatzinc n
front (Only a) = a
front (When a others) = a

abbrev pub tail : {n : Part} → Choice Tree Token n → Choice Tree Token n
tail (Only a) = Only a
tail (When a others) = others

pub first : {n : Part} (c : Choice Tree Token n) (h : ℕ) {b : Bool} → b ≡ has (front c).begins h → b ≡ true → chosen c h ≡ front c
first (Only a) h e f = refl
first (When a others) h e f = ap (λ (x : Bool). cond x a (chosen others h)) (sym e ∙ f)

pub later : {n : Part} (c : Choice Tree Token n) (h : ℕ) {b : Bool} → b ≡ has (front c).begins h → b ≡ false → chosen c h ≡ chosen (tail c) h
later (Only a) h e f = refl
later (When a others) h e f = ap (λ (x : Bool). cond x a (chosen others h)) (sym e ∙ f)

-- a few levels below the limit brackets may open
below : (l : ℕ) → l ≤ 8 → nat_lt l 64 ≡ true
below l h = lt-ltb l 64 (omega arith)

pub opens_bracket : (l : ℕ) → l ≤ 8 → allowed flatzinc level_limit 11 l ≡ true
opens_bracket l h = below l h
