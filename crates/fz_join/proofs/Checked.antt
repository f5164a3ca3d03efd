-- What a reader knows once a line ends.
use Rattle.std.proofs.Common.{◌≡◌, ◌≢◌, ◌↔◌, inl, inr, ℕ, Bool, true, false, List, [], ◌++◌, refl, sym, ap, subst, ◌∙◌, append_assoc, append-nil}
use Rattle.std.specs.Prelude.{IsTrue}
use Rattle.fz_spec.specs.Instance.{Instance}
use Rattle.fz_shown.specs.Shown.{IsSolutionText, ShowsAll}
use Rattle.fz_join.specs.Checking.{ArePassed, IsBetween, IsOut, Knows}
use Rattle.fz_join.specs.Machine.{Reading, State, drained, end_line, take_line}
use Rattle.fz_join.specs.Tallies.{reading_of}
use Rattle.fz_join.specs.declared.reader.Reader.{Reader}
use Rattle.fz_join.specs.Joining.{IsLine}
use Rattle.fz_join.proofs.Passed.{line_between, line_made, one_more_block, part_between, some_more_solution}
use Rattle.fz_join.proofs.Pieces.{with_part}

-- the block that the line makes whole
abbrev pub out_of : Instance → Bool → Reader → List ℕ
out_of m all r = (take_line m all (reading_of r).state (reading_of r).partial).out

-- a line is read so
pub line_is : (m : Instance) (all : Bool) (r : Reader) (t u : State) (line partial found : List ℕ) → t ≡ take_line m all (reading_of r).state line → line ≡ (reading_of r).partial → u ≡ drained t → partial ≡ [] → found ≡ r.found.bytes ++ t.out
    → record { state = u; partial = partial; printed = found } ≡ end_line m all (reading_of r)
line_is m all r t u line partial found taken is drain none more = rw (drain, none, more, taken, is) refl

pub out_is : (m : Instance) (all : Bool) (r : Reader) (t : State) (line : List ℕ) → t ≡ take_line m all (reading_of r).state line → line ≡ (reading_of r).partial → t.out ≡ out_of m all r
out_is m all r t line taken is = rw (taken, is) refl

is_out : (m : Instance) (all : Bool) (r : Reader) → Knows m r → IsOut m (out_of m all r)
is_out m all r known = (line_made m all (reading_of r) known.between).out

between_lines : (m : Instance) (all : Bool) (r s : Reader) → Knows m r → reading_of s ≡ end_line m all (reading_of r) → IsBetween m (reading_of s)
between_lines m all r s known read = subst (IsBetween m) (sym read) (line_between m all (reading_of r) known.between)

found_more : (m : Instance) (all : Bool) (r s : Reader) → reading_of s ≡ end_line m all (reading_of r) → s.found.bytes ≡ r.found.bytes ++ out_of m all r
found_more m all r s read = ap (λ (x : Reading). x.printed) read

-- a false block was found before
false_further : (b : Bool) (m : Instance) (found printed out : List ℕ) → IsTrue b → ArePassed b m found printed → ArePassed b m (found ++ out) printed
false_further false m found printed out is passed = absurd (cc is)
false_further true m found printed out is passed = record {
  block = passed.block;
  items = passed.items;
  other = passed.other;
  later = passed.later ++ out;
  is = ap (λ (t : List ℕ). t ++ out) passed.is ∙ append_assoc printed (passed.block ++ passed.later) out ∙ ap (λ (t : List ℕ). printed ++ t) (append_assoc passed.block passed.later out);
}

pub known_false : (m : Instance) (all : Bool) (r s : Reader) → Knows m r → reading_of s ≡ end_line m all (reading_of r) → s.is_checked ≡ r.is_checked → s.is_false ≡ r.is_false → IsTrue r.is_false → s.printed.bytes ≡ r.printed.bytes → Knows m s
known_false m all r s known read checked same wrong printed = record {
  checked = subst (λ (b : Bool). IsTrue b ↔ ShowsAll m) (sym checked) known.checked;
  between = between_lines m all r s known read;
  blocks = rw printed known.blocks;
  sound = λ shows. rw printed (known.sound shows);
  passed = rw (printed, same, found_more m all r s read) (false_further r.is_false m r.found.bytes r.printed.bytes (out_of m all r) wrong known.passed);
}

-- it is found now
false_first : (b c : Bool) (m : Instance) (found printed out : List ℕ) → b ≡ false → c ≡ true → IsOut m out → out ≢ [] → (IsSolutionText m out → ⊥) → ArePassed b m found printed → ArePassed c m (found ++ out) printed
false_first true c m found printed out none now items some other passed = absurd (cc none)
false_first false false m found printed out none now items some other passed = absurd (cc now)
false_first false true m found printed out none now (inl is) some other passed = absurd (some is)
false_first false true m found printed out none now (inr items) some other passed = record {
  block = out;
  items = items;
  other = other;
  later = [];
  is = ap (λ (t : List ℕ). t ++ out) (sym passed) ∙ ap (λ (t : List ℕ). printed ++ t) (sym (append-nil out));
}

pub knows_false : (m : Instance) (all : Bool) (r s : Reader) → Knows m r → reading_of s ≡ end_line m all (reading_of r) → s.is_checked ≡ r.is_checked → r.is_false ≡ false → s.is_false ≡ true
    → (out_of m all r ≢ []) × (IsSolutionText m (out_of m all r) → ⊥) → s.printed.bytes ≡ r.printed.bytes → Knows m s
knows_false m all r s known read checked none now other printed = record {
  checked = subst (λ (b : Bool). IsTrue b ↔ ShowsAll m) (sym checked) known.checked;
  between = between_lines m all r s known read;
  blocks = rw printed known.blocks;
  sound = λ shows. rw printed (known.sound shows);
  passed = rw (printed, found_more m all r s read) (false_first r.is_false s.is_false m r.found.bytes r.printed.bytes (out_of m all r) none now (is_out m all r known) other.0 other.1 known.passed);
}

-- none is found
all_passed : (b : Bool) (m : Instance) (found printed out : List ℕ) → b ≡ false → ArePassed b m found printed → ArePassed b m (found ++ out) (printed ++ out)
all_passed true m found printed out none passed = absurd (cc none)
all_passed false m found printed out none passed = ap (λ (t : List ℕ). t ++ out) passed

pub knows_more : (m : Instance) (all : Bool) (r s : Reader) → Knows m r → reading_of s ≡ end_line m all (reading_of r) → s.is_checked ≡ r.is_checked → s.is_false ≡ r.is_false → r.is_false ≡ false
    → (out_of m all r ≢ [] → ShowsAll m → IsSolutionText m (out_of m all r)) → s.printed.bytes ≡ r.printed.bytes ++ out_of m all r → Knows m s
knows_more m all r s known read checked same none sound printed = record {
  checked = subst (λ (b : Bool). IsTrue b ↔ ShowsAll m) (sym checked) known.checked;
  between = between_lines m all r s known read;
  blocks = rw printed (one_more_block m r.printed.bytes (out_of m all r) known.blocks (is_out m all r known));
  sound = λ shows. rw printed (some_more_solution m r.printed.bytes (out_of m all r) (known.sound shows) (is_out m all r known) (λ some. sound some shows));
  passed = rw (printed, same, found_more m all r s read) (all_passed r.is_false m r.found.bytes r.printed.bytes (out_of m all r) none known.passed);
}

-- more of a line that isn't ended
pub knows_part : (m : Instance) (r s : Reader) (part : List ℕ) → Knows m r → IsLine part → reading_of s ≡ with_part (reading_of r) part → s.is_checked ≡ r.is_checked → s.is_false ≡ r.is_false → s.printed.bytes ≡ r.printed.bytes → Knows m s
knows_part m r s part known line read checked same printed =
    let found : s.found.bytes ≡ r.found.bytes = ap (λ (x : Reading). x.printed) read in record {
      checked = subst (λ (b : Bool). IsTrue b ↔ ShowsAll m) (sym checked) known.checked;
      between = subst (IsBetween m) (sym read) (part_between m (reading_of r) part line known.between);
      blocks = rw printed known.blocks;
      sound = λ shows. rw printed (known.sound shows);
      passed = rw (printed, same, found) known.passed;
    }
