-- What is read between two lines, and the blocks that are passed on, whatever the texts are.
use Rattle.std.proofs.Common.{◌≡◌, ◌≢◌, ℕ, zero, suc, Bool, true, false, ◌&&◌, ◌||◌, nat_eq, Option, Some, None, List, [], ◌∷◌, ◌++◌, refl, sym, ap, subst, ◌∙◌, append_assoc, append-nil, arith, inl, inr}
use Rattle.std.proofs.lemmas.Bool.{false≢true}
use Rattle.std.specs.Prelude.{ℤ, codes, bytes_eq, is_some, slice_get, flat_map, not, unwrap_or, if◌then◌else◌}
use Rattle.fz_spec.specs.declared.goal.Goal.{Goal}
use Rattle.fz_spec.specs.declared.goal.Goal.TheVariants.{Satisfy, Minimize, Maximize}
use Rattle.fz_spec.specs.Instance.{Instance, Output}
use Rattle.fz_sets.proofs.Lists.{all_both}
use Rattle.fz_shown.specs.Shown.{IsSolutionText}
use Rattle.fz_join.specs.Checking.{AreLines, HoldsLines, IsBetween, IsOut}
use Rattle.fz_join.specs.Joining.{AreBlocks, AreSolutions, HasItems, IsLine}
use Rattle.fz_join.specs.Machine.{Reading, Section, State, after, begin_known, begin_part, block_line, bound_of, comment, comment_of, end_block, end_line, end_part, fresh, is_ending, line_in, number_of, section_line, show, spoilt, take_line, tell_value, with_line, with_section, word_of}
use Rattle.fz_join.proofs.Pieces.{with_part}

-- ---- lines of a block

-- a line with its end, of an item
abbrev ended : Output → List ℕ → List ℕ
ended o value = (o.name ++ codes " = ") ++ (value ++ 10 ∷ [])

pub joined : (a b c d : List ℕ) → (a ++ (b ++ 10 ∷ c)) ++ d ≡ a ++ (b ++ 10 ∷ (c ++ d))
joined a b c d = append_assoc a (b ++ 10 ∷ c) d ∙ ap (λ t. a ++ t) (append_assoc b (10 ∷ c) d)

-- one more, where there is such an item
lines_more : (os : List Output) (n : ℕ) (text : List ℕ) (o : Output) (value : List ℕ) → AreLines os n text → slice_get os n ≡ Some o → IsLine value → AreLines os (suc n) (text ++ ended o value)
lines_more [] n text o value lines item line = absurd (let bad : None ≡ Some o = item in cc)
lines_more (p ∷ os) zero text o value lines item line = record {
  value = value;
  line = line;
  rest = [];
  is = ap (λ t. t ++ ended o value) lines ∙ ap (λ (q : Output). (q.name ++ codes " = ") ++ (value ++ 10 ∷ [])) (sym (ap (λ t. unwrap_or t p) item));
  later = refl;
}
lines_more (p ∷ os) (suc n) text o value lines item line = record {
  value = lines.value;
  line = lines.line;
  rest = lines.rest ++ ended o value;
  is = ap (λ t. t ++ ended o value) lines.is ∙ joined (p.name ++ codes " = ") lines.value lines.rest (ended o value);
  later = lines_more os n lines.rest o value lines.later item line;
}

-- all of them, and the dashes
lines_whole : (os : List Output) (n : ℕ) (text : List ℕ) → AreLines os n text → slice_get os n ≡ None → HasItems os (text ++ codes "----------\n")
lines_whole [] zero text lines none = ap (λ t. t ++ codes "----------\n") lines
lines_whole [] (suc n) text lines none = absurd lines
lines_whole (o ∷ os) zero text lines none = absurd (let bad : Some o ≡ None = none in cc)
lines_whole (o ∷ os) (suc n) text lines none = record {
  value = lines.value;
  line = lines.line;
  rest = lines.rest ++ codes "----------\n";
  is = ap (λ t. t ++ codes "----------\n") lines.is ∙ joined (o.name ++ codes " = ") lines.value lines.rest (codes "----------\n");
  later = lines_whole os n lines.rest lines.later none;
}

-- ---- what is known of words

-- what stands after a prefix is the rest
after_is : (prefix text rest : List ℕ) → after prefix text ≡ Some rest → text ≡ prefix ++ rest
after_is [] text rest is = ap (λ t. unwrap_or t text) is
after_is (b ∷ bs) [] rest is = absurd (let bad : None ≡ Some rest = is in cc)
after_is (b ∷ bs) (t ∷ ts) rest is = same (nat_eq b t) refl is (after_is bs ts rest)
  where
    same : (e : Bool) → nat_eq b t ≡ e → (if e then after bs ts else None) ≡ Some rest → (after bs ts ≡ Some rest → ts ≡ bs ++ rest) → t ∷ ts ≡ b ∷ (bs ++ rest)
    same true here later behind = let first : t ≡ b = grind arith in ap (λ x. x ∷ ts) first ∙ ap (λ xs. b ∷ xs) (behind later)
    same false here later behind = absurd (let bad : None ≡ Some rest = later in cc)

-- bytes that are equal by their test
bytes_are : (xs ys : List ℕ) → bytes_eq xs ys ≡ true → xs ≡ ys
bytes_are [] [] same = refl
bytes_are [] (y ∷ ys) same = absurd (false≢true same)
bytes_are (x ∷ xs) [] same = absurd (false≢true same)
bytes_are (x ∷ xs) (y ∷ ys) same = both (nat_eq x y) refl same (bytes_are xs ys)
  where
    both : (e : Bool) → nat_eq x y ≡ e → (e && bytes_eq xs ys) ≡ true → (bytes_eq xs ys ≡ true → xs ≡ ys) → x ∷ xs ≡ y ∷ ys
    both true first later behind = let here : x ≡ y = grind arith in ap (λ z. z ∷ xs) here ∙ ap (λ zs. y ∷ zs) (behind later)
    both false first later behind = absurd (false≢true later)

pub line_rest : (prefix rest : List ℕ) → IsLine (prefix ++ rest) → IsLine rest
line_rest [] rest line = line
line_rest (b ∷ bs) rest line = line_rest bs rest line.1

-- ---- the state

-- of what a line makes
pub record Keeps (m : Instance) (s : State) : Type 0 where
  pub section : HoldsLines m s.section
  pub out : IsOut m s.out

fresh_keeps : (m : Instance) (s : State) (last : List ℕ) → s.out ≡ [] → Keeps m (with_section (Some (fresh last)) s)
fresh_keeps m s last out = record { section = refl; out = inl out }

spoilt_keeps : (m : Instance) (s : State) → s.out ≡ [] → Keeps m (spoilt s)
spoilt_keeps m s out = record { section = tt; out = inl out }

shown_keeps : (m : Instance) (show_it : Bool) (s : State) (block : List ℕ) → s.out ≡ [] → HasItems m.outputs block → Keeps m (show show_it s block)
shown_keeps m true s block out is = record { section = refl; out = inr is }
shown_keeps m false s block out is = fresh_keeps m s [] out

block_keeps : (m : Instance) (all : Bool) (s : State) (block : List ℕ) (goal : Goal) → s.out ≡ [] → HasItems m.outputs block → Keeps m (end_block all s block goal)
block_keeps m all s block Satisfy out is = shown_keeps m (all || not s.shown) s block out is
block_keeps m all s block (Minimize term) out is = fresh_keeps m s block out
block_keeps m all s block (Maximize term) out is = fresh_keeps m s block out

line_keeps : (m : Instance) (all : Bool) (s : State) (x : Section) (line : List ℕ) (item : Option Output) → slice_get m.outputs x.items ≡ item → s.out ≡ [] → AreLines m.outputs x.items x.block → IsLine line → Keeps m (block_line m all s x line item)
line_keeps m all s x line None at out lines is_line = dashes (bytes_eq line (codes "----------")) refl
  where
    dashes : (e : Bool) → bytes_eq line (codes "----------") ≡ e → Keeps m (if e then end_block all s (x.block ++ (line ++ 10 ∷ [])) m.goal else spoilt s)
    dashes true same = block_keeps m all s (x.block ++ (line ++ 10 ∷ [])) m.goal out
        (subst (λ (l : List ℕ). HasItems m.outputs (x.block ++ (l ++ 10 ∷ []))) (sym (bytes_are line (codes "----------") same)) (lines_whole m.outputs x.items x.block lines at))
    dashes false other = spoilt_keeps m s out
line_keeps m all s x line (Some o) at out lines is_line = begins (after (o.name ++ codes " = ") line) refl
  where
    begins : (rest : Option (List ℕ)) → after (o.name ++ codes " = ") line ≡ rest → Keeps m (if is_some rest then with_section (Some (with_line line x)) s else spoilt s)
    begins None none = spoilt_keeps m s out
    begins (Some value) some = let parted : line ≡ (o.name ++ codes " = ") ++ value = after_is (o.name ++ codes " = ") line value some in record {
      section = subst (λ (l : List ℕ). AreLines m.outputs (suc x.items) (x.block ++ l))
          (sym (ap (λ l. l ++ 10 ∷ []) parted ∙ append_assoc (o.name ++ codes " = ") value (10 ∷ [])))
          (lines_more m.outputs x.items x.block o value lines at (line_rest (o.name ++ codes " = ") value (subst IsLine parted is_line)));
      out = inl out;
    }

comment_keeps : (m : Instance) (s : State) (x : Section) (text : List ℕ) (word : Option (List ℕ)) → s.out ≡ [] → AreLines m.outputs x.items x.block → Keeps m (comment m s x text word)
comment_keeps m s x text (Some word) out lines = told (number_of word)
  where
    told : (value : Option ℤ) → Keeps m (tell_value m s x value)
    told None = spoilt_keeps m s out
    told (Some v) = record { section = lines; out = inl out }
comment_keeps m s x text None out lines = ends (is_ending text)
  where
    ends : (e : Bool) → Keeps m (if e then end_part s x else spoilt s)
    ends true = record { section = tt; out = inl out }
    ends false = spoilt_keeps m s out

begin_keeps : (m : Instance) (s : State) (words : Option (List ℕ)) → s.out ≡ [] → Keeps m (begin_part m s words)
begin_keeps m s None out = spoilt_keeps m s out
begin_keeps m s (Some words) out = known (s.times (word_of words).0) (bound_of (word_of words).1)
  where
    known : (times : Option ℕ) (bound : Option (Option ℤ)) → Keeps m (begin_known m s (word_of words).0 times bound)
    known None bound = spoilt_keeps m s out
    known (Some n) None = spoilt_keeps m s out
    known (Some n) (Some bound) = record { section = refl; out = inl out }

section_keeps : (m : Instance) (all : Bool) (s : State) (x : Section) (line : List ℕ) (text : Option (List ℕ)) → s.out ≡ [] → AreLines m.outputs x.items x.block → IsLine line → Keeps m (section_line m all s x line text)
section_keeps m all s x line None out lines is_line = line_keeps m all s x line (slice_get m.outputs x.items) refl out lines is_line
section_keeps m all s x line (Some text) out lines is_line = comment_keeps m s x text (after (codes "value ") text) out lines

line_in_keeps : (m : Instance) (all : Bool) (s : State) (x : Option Section) (line : List ℕ) → s.out ≡ [] → HoldsLines m x → IsLine line → Keeps m (line_in m all s x line)
line_in_keeps m all s None line out lines is_line = begin_keeps m s (after (codes "%%%part ") line) out
line_in_keeps m all s (Some x) line out lines is_line = section_keeps m all s x line (comment_of x.block line) out lines is_line

pub take_keeps : (m : Instance) (all : Bool) (s : State) (line : List ℕ) → s.out ≡ [] → HoldsLines m s.section → IsLine line → Keeps m (take_line m all s line)
take_keeps m all s line out lines is_line = right s.wrong
  where
    right : (e : Bool) → Keeps m (if e then s else line_in m all s s.section line)
    right true = record { section = lines; out = inl out }
    right false = line_in_keeps m all s s.section line out lines is_line

-- ---- blocks are not empty

pub left_none : (a b : List ℕ) → a ++ b ≡ [] → a ≡ []
left_none [] b none = refl
left_none (x ∷ a) b none = absurd (cc none)

right_none : (a b : List ℕ) → a ++ b ≡ [] → b ≡ []
right_none [] b none = none
right_none (x ∷ a) b none = absurd (cc none)

pub items_some : (os : List Output) (text : List ℕ) → HasItems os text → text ≢ []
items_some [] text items none = let bad : codes "----------\n" ≡ [] = sym items ∙ none in cc bad
items_some (o ∷ os) text items none =
    let bad : codes " = " ≡ [] = right_none o.name (codes " = ") (left_none (o.name ++ codes " = ") (items.value ++ 10 ∷ items.rest) (sym items.is ∙ none)) in cc bad

-- ---- a text

-- more of a line that isn't ended
pub part_between : (m : Instance) (x : Reading) (part : List ℕ) → IsLine part → IsBetween m x → IsBetween m (with_part x part)
part_between m x part line between = record {
  out = between.out;
  section = between.section;
  partial = all_both (λ byte. byte ≢ 10) x.partial part between.partial line;
}

-- what the line makes that ends here
pub line_made : (m : Instance) (all : Bool) (x : Reading) → IsBetween m x → Keeps m (take_line m all x.state x.partial)
line_made m all x between = take_keeps m all x.state x.partial between.out between.section between.partial

pub line_between : (m : Instance) (all : Bool) (x : Reading) → IsBetween m x → IsBetween m (end_line m all x)
line_between m all x between = record { out = refl; section = (line_made m all x between).section; partial = tt }

-- ---- one block more

one_behind : (bs : List (List ℕ)) (out : List ℕ) → flat_map (λ b. b) bs ++ out ≡ flat_map (λ b. b) (bs ++ out ∷ [])
one_behind [] out = sym (append-nil out)
one_behind (b ∷ bs) out = append_assoc b (flat_map (λ c. c) bs) out ∙ ap (λ t. b ++ t) (one_behind bs out)

pub one_more_block : (m : Instance) (printed out : List ℕ) → AreBlocks m printed → IsOut m out → AreBlocks m (printed ++ out)
one_more_block m printed out are (inl none) = subst (AreBlocks m) (sym (ap (λ t. printed ++ t) none ∙ append-nil printed)) are
one_more_block m printed out are (inr block) = record {
  blocks = are.blocks ++ out ∷ [];
  each = all_both (HasItems m.outputs) are.blocks (out ∷ []) are.each (block, tt);
  is = ap (λ t. t ++ out) are.is ∙ one_behind are.blocks out;
}

pub one_more_solution : (m : Instance) (printed out : List ℕ) → AreSolutions m printed → IsSolutionText m out → AreSolutions m (printed ++ out)
one_more_solution m printed out are solution = record {
  blocks = are.blocks ++ out ∷ [];
  each = all_both (IsSolutionText m) are.blocks (out ∷ []) are.each (solution, tt);
  is = ap (λ t. t ++ out) are.is ∙ one_behind are.blocks out;
}

-- nothing more, or a block of a solution
pub some_more_solution : (m : Instance) (printed out : List ℕ) → AreSolutions m printed → IsOut m out → (out ≢ [] → IsSolutionText m out) → AreSolutions m (printed ++ out)
some_more_solution m printed out are (inl none) solution = subst (AreSolutions m) (sym (ap (λ t. printed ++ t) none ∙ append-nil printed)) are
some_more_solution m printed out are (inr block) solution = one_more_solution m printed out are (solution (items_some m.outputs out block))
