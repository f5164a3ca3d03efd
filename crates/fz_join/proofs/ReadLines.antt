-- How the lines of a run are read, one by one.
use Rattle.std.proofs.Common.{◌≡◌, ◌≢◌, ℕ, Bool, true, false, cond, not, List, [], ◌∷◌, ◌++◌, codes, is_some, slice_get, ℤ, Option, Some, None, option_map, IfSome, refl, sym, ap, ap₂, ◌∙◌, arith, ne_eqb, inl, inr, ◌⊎◌, append_assoc, append-nil}
use Rattle.std.specs.Fmt.{signed_decimal}
use Rattle.fz_sets.proofs.Lists.{all_both}
use Rattle.fz_sets.specs.Sets.{IsWithinLimits}
use Rattle.fz_spec.specs.declared.goal.Goal.{Goal}
use Rattle.fz_spec.specs.declared.goal.Goal.TheVariants.{Satisfy, Minimize, Maximize}
use Rattle.fz_spec.specs.Instance.{Instance, Output}
use Rattle.fz_spec.specs.Run.{closing, output_text}
use Rattle.fz_tree.specs.declared.decision.Decision.{Decision}
use Rattle.fz_part.specs.Texts.{part_text}
use Rattle.fz_runs.specs.PartRuns.{bound_text, part_line, ending_line}
use Rattle.fz_join.specs.Joins.{IsName, rank}
use Rattle.fz_join.specs.Joining.{IsLine}
use Rattle.fz_join.specs.Machine.{Section, State, Reading, after, begin_known, better_of, begin_named, block_line, comment_of, counted, drained, end_block, end_line, fresh, least_of, read_text, section_line, show, spoilt, take_line, tell_value, with_byte, with_line, with_section}
use Rattle.fz_join.proofs.LineBytes.{above_line, above_lower, both_above, item_text, known_above, part_above, signed_above}
use Rattle.fz_join.proofs.LineWords.{after_front, bound_ends, bound_read, number_signed, word_front}

-- ---- a line of a text

-- between two lines
abbrev pub begins : State → List ℕ → Reading
begins s printed = record { state = s; partial = []; printed = printed }

line_ends : (m : Instance) (all : Bool) (s : State) (partial line rest printed : List ℕ) → IsLine line
    → read_text m all (record { state = s; partial = partial; printed = printed }) (line ++ 10 ∷ rest) ≡ read_text m all (end_line m all (record { state = s; partial = partial ++ line; printed = printed })) rest
line_ends m all s partial [] rest printed is = ap (λ (p : List ℕ). read_text m all (end_line m all (record { state = s; partial = p; printed = printed })) rest) (sym (append-nil partial))
line_ends m all s partial (b ∷ bs) rest printed is =
    ap (λ (t : Bool). cond t (read_text m all (end_line m all (record { state = s; partial = partial; printed = printed })) (bs ++ 10 ∷ rest)) (read_text m all (with_byte (record { state = s; partial = partial; printed = printed }) b) (bs ++ 10 ∷ rest))) (ne_eqb b 10 is.0)
    ∙ line_ends m all s (partial ++ b ∷ []) bs rest printed is.1
    ∙ ap (λ (p : List ℕ). read_text m all (end_line m all (record { state = s; partial = p; printed = printed })) rest) (append_assoc partial (b ∷ []) bs)

-- a text that begins with a line is read
pub line_read : (m : Instance) (all : Bool) (s t : State) (printed text line rest : List ℕ) → text ≡ line ++ 10 ∷ rest → IsLine line → take_line m all s line ≡ t
    → read_text m all (begins s printed) text ≡ read_text m all (begins (drained t) (printed ++ t.out)) rest
line_read m all s t printed text line rest so is takes = ap (read_text m all (begins s printed)) so
    ∙ line_ends m all s [] line rest printed is
    ∙ ap (λ (u : State). read_text m all (begins (drained u) (printed ++ u.out)) rest) takes

-- nothing is printed
pub quiet_read : (m : Instance) (all : Bool) (s t : State) (printed text line rest : List ℕ) → text ≡ line ++ 10 ∷ rest → IsLine line → take_line m all s line ≡ t → t.out ≡ []
    → read_text m all (begins s printed) text ≡ read_text m all (begins (drained t) printed) rest
quiet_read m all s t printed text line rest so is takes quiet = line_read m all s t printed text line rest so is takes
    ∙ ap (λ (out : List ℕ). read_text m all (begins (drained t) (printed ++ out)) rest) quiet
    ∙ ap (λ (p : List ℕ). read_text m all (begins (drained t) p) rest) (append-nil printed)

-- ---- states

-- no part is read, and no line was of no run
abbrev pub between : State → State
between s = record { times = s.times; section = None; best = s.best; bound = s.bound; shown = s.shown; wrong = false; out = [] }

abbrev pub within : State → Section → State
within s x = record { times = s.times; section = Some x; best = s.best; bound = s.bound; shown = s.shown; wrong = false; out = [] }

-- ---- the line of a part

abbrev pub part_state : Instance → State → List Decision → Option ℤ → State
part_state m s p bound = record {
  times = counted (part_text p) s.times;
  section = None;
  best = s.best;
  bound = least_of s.bound (option_map (rank m.goal) bound);
  shown = s.shown;
  wrong = false;
  out = [];
}

part_taken : (m : Instance) (all : Bool) (s : State) (p : List Decision) (bound : Option ℤ) (n : ℕ) → s.times (part_text p) ≡ Some n → IfSome bound IsWithinLimits
    → take_line m all (between s) (codes "%%%part " ++ part_text p ++ bound_text bound) ≡ within (part_state m s p bound) (fresh [])
part_taken m all s p bound n ran is = ap (begin_named m (between s)) (word_front (part_text p) (bound_text bound) (part_above p) (bound_ends bound))
    ∙ ap₂ (begin_known m (between s) (part_text p)) ran (bound_read bound is)

line_both : (front rest : List ℕ) → IsLine front → IsLine rest → IsLine (front ++ rest)
line_both front rest f r = all_both (λ byte. byte ≢ 10) front rest f r

bound_line : (bound : Option ℤ) → IsLine (bound_text bound)
bound_line None = tt
bound_line (Some v) = above_line 31 (codes " bound " ++ signed_decimal v) (omega arith) (both_above 31 (codes " bound ") (signed_decimal v) (known_above 31 (codes " bound ") refl) (above_lower 31 44 (signed_decimal v) (omega arith) (signed_above v)))

pub part_read : (m : Instance) (all : Bool) (s : State) (p : List Decision) (bound : Option ℤ) (n : ℕ) (printed text rest : List ℕ) → text ≡ part_line p bound ++ rest → s.times (part_text p) ≡ Some n → IfSome bound IsWithinLimits
    → read_text m all (begins (between s) printed) text ≡ read_text m all (begins (within (part_state m s p bound) (fresh [])) printed) rest
part_read m all s p bound n printed text rest so ran is =
    quiet_read m all (between s) (within (part_state m s p bound) (fresh [])) printed text (codes "%%%part " ++ part_text p ++ bound_text bound) rest (so ∙ append_assoc (codes "%%%part " ++ part_text p ++ bound_text bound) (codes "\n") rest) whole
    (part_taken m all s p bound n ran is) refl
  where
    whole : IsLine (codes "%%%part " ++ part_text p ++ bound_text bound)
    whole = line_both (codes "%%%part " ++ part_text p) (bound_text bound) (above_line 31 (codes "%%%part " ++ part_text p) (omega arith) (both_above 31 (codes "%%%part ") (part_text p) (known_above 31 (codes "%%%part ") refl) (above_lower 31 32 (part_text p) (omega arith) (part_above p)))) (bound_line bound)

-- ---- the lines of a block

not_comment : (block line : List ℕ) → after (codes "%%%") line ≡ None → comment_of block line ≡ None
not_comment [] line is = is
not_comment (b ∷ bs) line is = refl

section_taken : (m : Instance) (all : Bool) (s : State) (x : Section) (line : List ℕ) → after (codes "%%%") line ≡ None → take_line m all (within s x) line ≡ block_line m all (within s x) x line (slice_get m.outputs x.items)
section_taken m all s x line is = ap (section_line m all (within s x) x line) (not_comment x.block line is)

-- a name doesn't begin with `%`
named_line : (name rest : List ℕ) → IsName name → after (codes "%%%") (name ++ codes " = " ++ rest) ≡ None
named_line [] rest named = refl
named_line (b ∷ bs) rest named = ap (λ (t : Bool). cond t (after (codes "%%") (bs ++ codes " = " ++ rest)) None) (ne_eqb 37 b (λ same. let high = named.0 in omega (arith, high, same)))

pub item_taken : (m : Instance) (all : Bool) (s : State) (x : Section) (a : List ℤ) (o : Output) → IsName o.name → slice_get m.outputs x.items ≡ Some o → take_line m all (within s x) (item_text a o) ≡ within s (with_line (item_text a o) x)
item_taken m all s x a o named at = section_taken m all s x (item_text a o) apart
    ∙ ap (block_line m all (within s x) x (item_text a o)) at
    ∙ ap (λ (t : Bool). cond t (with_section (Some (with_line (item_text a o) x)) (within s x)) (spoilt (within s x))) own
  where
    regrouped : item_text a o ≡ (o.name ++ codes " = ") ++ (output_text a o ++ codes ";")
    regrouped = append_assoc (o.name ++ codes " = ") (output_text a o) (codes ";")

    apart : after (codes "%%%") (item_text a o) ≡ None
    apart = ap (after (codes "%%%")) regrouped ∙ named_line o.name (output_text a o ++ codes ";") named

    own : is_some (after (o.name ++ codes " = ") (item_text a o)) ≡ true
    own = ap (λ (t : List ℕ). is_some (after (o.name ++ codes " = ") t)) regrouped ∙ ap is_some (after_front (o.name ++ codes " = ") (output_text a o ++ codes ";"))

-- what a section was before is forgotten at the end of a block
block_ends : (all : Bool) (s : State) (x y : Section) (block : List ℕ) (goal : Goal) → end_block all (within s x) block goal ≡ end_block all (within s y) block goal
block_ends true s x y block Satisfy = refl
block_ends false s x y block Satisfy = either s.shown
  where
    either : (t : Bool) → show (not t) (within s x) block ≡ show (not t) (within s y) block
    either true = refl
    either false = refl
block_ends all s x y block (Minimize term) = refl
block_ends all s x y block (Maximize term) = refl

abbrev pub ended : Instance → Bool → State → List ℕ → State
ended m all s block = end_block all (within s (fresh [])) block m.goal

pub dashes_taken : (m : Instance) (all : Bool) (s : State) (x : Section) → slice_get m.outputs x.items ≡ None → take_line m all (within s x) (codes "----------") ≡ ended m all s (x.block ++ codes "----------\n")
dashes_taken m all s x at = section_taken m all s x (codes "----------") refl
    ∙ ap (block_line m all (within s x) x (codes "----------")) at
    ∙ block_ends all s x (fresh []) (x.block ++ codes "----------\n") m.goal

-- ---- the lines behind the blocks

-- what is told is the rank of this value
abbrev pub told : Instance → ℤ → List ℕ → Section
told m v last = record { items = 0; block = []; last = last; value = Some (rank m.goal v) }

value_taken : (m : Instance) (all : Bool) (s : State) (v : ℤ) (last : List ℕ) → IsWithinLimits v → take_line m all (within s (fresh last)) (codes "%%%value " ++ signed_decimal v) ≡ within s (told m v last)
value_taken m all s v last is = ap (tell_value m (within s (fresh last)) (fresh last)) (number_signed v is)

pub value_read : (m : Instance) (all : Bool) (s : State) (v : ℤ) (last printed text rest : List ℕ) → text ≡ codes "%%%value " ++ signed_decimal v ++ codes "\n" ++ rest → IsWithinLimits v
    → read_text m all (begins (within s (fresh last)) printed) text ≡ read_text m all (begins (within s (told m v last)) printed) rest
value_read m all s v last printed text rest so is =
    quiet_read m all (within s (fresh last)) (within s (told m v last)) printed text (codes "%%%value " ++ signed_decimal v) rest (so ∙ append_assoc (codes "%%%value " ++ signed_decimal v) (codes "\n") rest) whole (value_taken m all s v last is) refl
  where
    whole : IsLine (codes "%%%value " ++ signed_decimal v)
    whole = above_line 31 (codes "%%%value " ++ signed_decimal v) (omega arith) (both_above 31 (codes "%%%value ") (signed_decimal v) (known_above 31 (codes "%%%value ") refl) (above_lower 31 44 (signed_decimal v) (omega arith) (signed_above v)))

-- no line of a block has come, and this value is told
abbrev pub last_section : List ℕ → Option ℤ → Section
last_section last value = record { items = 0; block = []; last = last; value = value }

-- nothing is said, or that the search is complete
abbrev pub IsEnding : List (List ℤ) → List ℕ → Type 0
IsEnding l ending = (ending ≡ []) ⊎ (ending ≡ closing l)

-- once the run is read
abbrev pub run_state : State → List ℕ → Option ℤ → State
run_state s last value = record { times = s.times; section = None; best = better_of s.best value last; bound = s.bound; shown = s.shown; wrong = false; out = [] }

pub ending_read : (m : Instance) (all : Bool) (s : State) (last : List ℕ) (value : Option ℤ) (l : List (List ℤ)) (ending printed text rest : List ℕ) → text ≡ ending_line ending ++ rest → IsEnding l ending
    → read_text m all (begins (within s (last_section last value)) printed) text ≡ read_text m all (begins (run_state s last value) printed) rest
ending_read m all s last value l ending printed text rest so (inl none) =
    quiet_read m all (within s (last_section last value)) (run_state s last value) printed text (codes "%%%") rest (so ∙ ap (λ (e : List ℕ). ending_line e ++ rest) none) (above_line 31 (codes "%%%") (omega arith) (known_above 31 (codes "%%%") refl)) refl refl
ending_read m all s last value l ending printed text rest so (inr closes) = by l (so ∙ ap (λ (e : List ℕ). ending_line e ++ rest) closes)
  where
    by : (l' : List (List ℤ)) → text ≡ ending_line (closing l') ++ rest → read_text m all (begins (within s (last_section last value)) printed) text ≡ read_text m all (begins (run_state s last value) printed) rest
    by [] is = quiet_read m all (within s (last_section last value)) (run_state s last value) printed text (codes "%%%=====UNSATISFIABLE=====") rest is
        (above_line 31 (codes "%%%=====UNSATISFIABLE=====") (omega arith) (known_above 31 (codes "%%%=====UNSATISFIABLE=====") refl)) refl refl
    by (a ∷ l'') is = quiet_read m all (within s (last_section last value)) (run_state s last value) printed text (codes "%%%==========") rest is
        (above_line 31 (codes "%%%==========") (omega arith) (known_above 31 (codes "%%%==========") refl)) refl refl
