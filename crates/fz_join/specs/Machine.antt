-- How what runs printed is read, line by line, within this crate.
use Rattle.std.specs.Prelude.{◌≡◌, ℕ, suc, ◌+◌, ◌-◌, ◌*◌, ◌^◌, min, ℤ, pos, negsuc, ◌-ℤ◌, ◌≤ℤ◌, Bool, true, false, not, ◌&&◌, ◌||◌, nat_eq, nat_lt, nat_le, int_lt, Option, Some, None, option_map, is_some, slice_get, List, [], ◌∷◌, ◌++◌, codes, bytes_eq, if◌then◌else◌}
use Rattle.fz_spec.specs.declared.goal.Goal.{Goal}
use Rattle.fz_spec.specs.declared.goal.Goal.TheVariants.{Satisfy, Minimize, Maximize}
use Rattle.fz_spec.specs.Instance.{Instance, Output}
use Rattle.fz_tree.specs.declared.decision.Decision.{Decision}
use Rattle.fz_part.specs.Texts.{part_text}
use Rattle.fz_join.specs.Joins.{rank}

-- ---- words

-- what stands after a prefix, if a text begins with it
abbrev pub after : List ℕ → List ℕ → Option (List ℕ)
after [] text = Some text
after (b ∷ bs) [] = None
after (b ∷ bs) (t ∷ ts) = if nat_eq b t then after bs ts else None

-- what stands before the first space, and the rest
abbrev pub word_of : List ℕ → List ℕ × List ℕ
word_of [] = ([], [])
word_of (b ∷ bs) = if nat_eq b 32 then ([], b ∷ bs) else (b ∷ (word_of bs).0, (word_of bs).1)

-- the number of digits behind those of n, not of many
abbrev pub magnitude : ℕ → List ℕ → Option ℕ
magnitude n [] = Some n
magnitude n (b ∷ bs) = if nat_le 48 b && nat_le b 57 && nat_lt n (2 ^ 32) then magnitude (n * 10 + (b - 48)) bs else None

abbrev pub number_of : List ℕ → Option ℤ
number_of [] = None
number_of (b ∷ ds) = if nat_eq b 45 then option_map (λ n. pos 0 -ℤ pos n) (magnitude 0 ds) else option_map (λ n. pos n) (magnitude 0 (b ∷ ds))

-- a number whose opposite is one of 64 bits, too
abbrev pub IsSmall : ℤ → Type 0
IsSmall n = (negsuc (2 ^ 62) ≤ℤ n) × (n ≤ℤ pos (2 ^ 62))

-- ---- the state between two lines

-- What is read of a part: of how many items of a block the lines have come, these lines, the last whole block, and the value that is
-- told, by its rank.
pub record Section : Type 0 where
  pub items : ℕ
  pub block : List ℕ
  pub last : List ℕ
  pub value : Option ℤ

-- How often each part has run, by its text; the part that is read; the best value by its rank, and its block; the best value that a run
-- was to better; whether a block is printed; whether a line was of no run; and the block that is to be printed now.
pub record State : Type 0 where
  pub times : List ℕ → Option ℕ
  pub section : Option Section
  pub best : Option (ℤ × List ℕ)
  pub bound : Option ℤ
  pub shown : Bool
  pub wrong : Bool
  pub out : List ℕ

-- a line was of no run
abbrev pub spoilt : State → State
spoilt s = record { times = s.times; section = None; best = s.best; bound = s.bound; shown = s.shown; wrong = true; out = s.out }

abbrev pub with_section : Option Section → State → State
with_section section s = record { times = s.times; section = section; best = s.best; bound = s.bound; shown = s.shown; wrong = s.wrong; out = s.out }

-- ---- the line of a part

abbrev pub one_more : ℕ → ℕ
one_more n = min (n + 1) 255

-- once more for the part of this text
abbrev pub counted : List ℕ → (List ℕ → Option ℕ) → List ℕ → Option ℕ
counted name times text = if bytes_eq name text then option_map one_more (times text) else times text

-- the lesser one
abbrev pub least_of : Option ℤ → Option ℤ → Option ℤ
least_of a None = a
least_of None (Some b) = Some b
least_of (Some a) (Some b) = if int_lt b a then Some b else Some a

-- no line of a block has come
abbrev pub fresh : List ℕ → Section
fresh last = record { items = 0; block = []; last = last; value = None }

-- the value that is to be bettered, if there is one, of what stands behind a part's text
abbrev pub bound_of : List ℕ → Option (Option ℤ)
bound_of [] = Some None
bound_of (b ∷ bs) = bound_behind (after (codes " bound ") (b ∷ bs))
  where
    bound_behind : Option (List ℕ) → Option (Option ℤ)
    bound_behind None = None
    bound_behind (Some word) = option_map Some (number_of word)

abbrev pub begin_known : Instance → State → List ℕ → Option ℕ → Option (Option ℤ) → State
begin_known m s name None bound = spoilt s
begin_known m s name (Some n) None = spoilt s
begin_known m s name (Some n) (Some bound) = record {
  times = counted name s.times;
  section = Some (fresh []);
  best = s.best;
  bound = least_of s.bound (option_map (rank m.goal) bound);
  shown = s.shown;
  wrong = s.wrong;
  out = s.out;
}

abbrev pub begin_named : Instance → State → List ℕ × List ℕ → State
begin_named m s words = begin_known m s words.0 (s.times words.0) (bound_of words.1)

abbrev pub begin_part : Instance → State → Option (List ℕ) → State
begin_part m s None = spoilt s
begin_part m s (Some words) = begin_named m s (word_of words)

-- ---- the lines of a part's blocks

-- a whole block is printed: each where all are asked for, else the first
abbrev pub show : Bool → State → List ℕ → State
show true s block = record { times = s.times; section = Some (fresh []); best = s.best; bound = s.bound; shown = true; wrong = s.wrong; out = block }
show false s block = with_section (Some (fresh [])) s

-- a whole block
abbrev pub end_block : Bool → State → List ℕ → Goal → State
end_block all s block Satisfy = show (all || not s.shown) s block
end_block all s block (Minimize term) = with_section (Some (fresh block)) s
end_block all s block (Maximize term) = with_section (Some (fresh block)) s

-- a section with one line more of its block
abbrev pub with_line : List ℕ → Section → Section
with_line line x = record { items = suc x.items; block = x.block ++ (line ++ 10 ∷ []); last = x.last; value = x.value }

-- a line of a block: of its next item, if there is one, or the dashes
abbrev pub block_line : Instance → Bool → State → Section → List ℕ → Option Output → State
block_line m all s x line None = if bytes_eq line (codes "----------") then end_block all s (x.block ++ (line ++ 10 ∷ [])) m.goal else spoilt s
block_line m all s x line (Some o) = if is_some (after (o.name ++ codes " = ") line) then with_section (Some (with_line line x)) s else spoilt s

-- ---- the lines behind a part's blocks

abbrev pub better_of : Option (ℤ × List ℕ) → Option ℤ → List ℕ → Option (ℤ × List ℕ)
better_of best None block = best
better_of None (Some v) block = Some (v, block)
better_of (Some best) (Some v) block = if int_lt v best.0 then Some (v, block) else Some best

abbrev pub is_ending : List ℕ → Bool
is_ending text = bytes_eq text [] || bytes_eq text (codes "==========") || bytes_eq text (codes "=====UNSATISFIABLE=====")

abbrev pub end_part : State → Section → State
end_part s x = record { times = s.times; section = None; best = better_of s.best x.value x.last; bound = s.bound; shown = s.shown; wrong = s.wrong; out = s.out }

abbrev pub tell_value : Instance → State → Section → Option ℤ → State
tell_value m s x None = spoilt s
tell_value m s x (Some v) = with_section (Some (record { items = x.items; block = x.block; last = x.last; value = Some (rank m.goal v) })) s

-- a line behind `%%%`, by what stands behind "value "
abbrev pub comment : Instance → State → Section → List ℕ → Option (List ℕ) → State
comment m s x text (Some word) = tell_value m s x (number_of word)
comment m s x text None = if is_ending text then end_part s x else spoilt s

-- ---- a line

-- by what stands behind `%%%`, which no line of a block begins with
abbrev pub section_line : Instance → Bool → State → Section → List ℕ → Option (List ℕ) → State
section_line m all s x line None = block_line m all s x line (slice_get m.outputs x.items)
section_line m all s x line (Some text) = comment m s x text (after (codes "value ") text)

-- what stands behind `%%%` between two blocks
abbrev pub comment_of : List ℕ → List ℕ → Option (List ℕ)
comment_of [] line = after (codes "%%%") line
comment_of (b ∷ bs) line = None

abbrev pub line_in : Instance → Bool → State → Option Section → List ℕ → State
line_in m all s None line = begin_part m s (after (codes "%%%part ") line)
line_in m all s (Some x) line = section_line m all s x line (comment_of x.block line)

abbrev pub take_line : Instance → Bool → State → List ℕ → State
take_line m all s line = if s.wrong then s else line_in m all s s.section line

-- ---- the state at the end

-- each line was of a run, and each part that began is ended
pub record IsWhole (s : State) : Type 0 where
  pub right : s.wrong ≡ false
  pub ended : s.section ≡ None

-- the best value is as good as the one that was to be bettered
abbrev pub is_reached : Option ℤ → Option (ℤ × List ℕ) → Bool
is_reached None best = true
is_reached (Some bound) None = false
is_reached (Some bound) (Some best) = not (int_lt bound best.0)

-- nothing better than what is shown was asked for
abbrev pub is_enough : Goal → State → Bool
is_enough Satisfy s = true
is_enough (Minimize term) s = is_reached s.bound s.best
is_enough (Maximize term) s = is_reached s.bound s.best

-- ---- what is printed at the end

-- the closing line, by whether a block was printed
abbrev pub closing_text : Bool → List ℕ
closing_text shown = if shown then codes "==========\n" else codes "=====UNSATISFIABLE=====\n"

-- the block of a best one, if there is one, and the closing line
abbrev pub best_text : Option (ℤ × List ℕ) → List ℕ
best_text None = closing_text false
best_text (Some best) = best.1 ++ closing_text true

abbrev pub ending_text : Goal → State → List ℕ
ending_text Satisfy s = closing_text s.shown
ending_text (Minimize term) s = best_text s.best
ending_text (Maximize term) s = best_text s.best

-- ---- a text

-- the state, the part of a line that is read, and what is printed
pub record Reading : Type 0 where
  pub state : State
  pub partial : List ℕ
  pub printed : List ℕ

-- its block is printed
abbrev pub drained : State → State
drained s = record { times = s.times; section = s.section; best = s.best; bound = s.bound; shown = s.shown; wrong = s.wrong; out = [] }

-- the line ends
abbrev pub end_line : Instance → Bool → Reading → Reading
end_line m all r = record {
  state = drained (take_line m all r.state r.partial);
  partial = [];
  printed = r.printed ++ (take_line m all r.state r.partial).out;
}

abbrev pub with_byte : Reading → ℕ → Reading
with_byte r b = record { state = r.state; partial = r.partial ++ b ∷ []; printed = r.printed }

abbrev pub read_text : Instance → Bool → Reading → List ℕ → Reading
read_text m all r [] = r
read_text m all r (b ∷ bs) = if nat_eq b 10 then read_text m all (end_line m all r) bs else read_text m all (with_byte r b) bs

-- a part of this text has run that often, where there is one
abbrev pub none_ran : List (List Decision) → List ℕ → Option ℕ
none_ran [] text = None
none_ran (p ∷ ps) text = if bytes_eq (part_text p) text then Some 0 else none_ran ps text

abbrev pub begun : List (List Decision) → Reading
begun ps = record {
  state = record { times = none_ran ps; section = None; best = None; bound = None; shown = false; wrong = false; out = [] };
  partial = [];
  printed = [];
}
