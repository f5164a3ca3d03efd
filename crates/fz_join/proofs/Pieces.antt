-- A text is read piece by piece.
use Rattle.std.proofs.Common.{◌≡◌, ◌∙◌, ℕ, Bool, true, false, List, [], ◌∷◌, ◌++◌, refl, sym, ap, append_assoc, append-nil, arith, nat_eq}
use Rattle.std.specs.Prelude.{if◌then◌else◌}
use Rattle.fz_spec.specs.Instance.{Instance}
use Rattle.fz_join.specs.Joining.{IsLine}
use Rattle.fz_join.specs.Tallies.{IsAppended}
use Rattle.fz_join.specs.Machine.{Reading, end_line, read_text, with_byte}

-- reading goes on
pub read_on : (m : Instance) (all : Bool) (r : Reading) (a b : List ℕ) → read_text m all r (a ++ b) ≡ read_text m all (read_text m all r a) b
read_on m all r [] b = refl
read_on m all r (x ∷ a) b = ends (nat_eq x 10) (λ y. read_on m all y a b)
  where
    ends : (e : Bool) → ((y : Reading) → read_text m all y (a ++ b) ≡ read_text m all (read_text m all y a) b)
        → (if e then read_text m all (end_line m all r) (a ++ b) else read_text m all (with_byte r x) (a ++ b)) ≡ read_text m all (if e then read_text m all (end_line m all r) a else read_text m all (with_byte r x) a) b
    ends true later = later (end_line m all r)
    ends false later = later (with_byte r x)

-- these are of a line that isn't ended
abbrev pub with_part : Reading → List ℕ → Reading
with_part r line = record { state = r.state; partial = r.partial ++ line; printed = r.printed }

pub read_part : (m : Instance) (all : Bool) (r : Reading) (line : List ℕ) → IsLine line → read_text m all r line ≡ with_part r line
read_part m all r [] is = sym (ap (λ (l : List ℕ). record { state = r.state; partial = l; printed = r.printed }) (append-nil r.partial))
read_part m all r (b ∷ bs) is = ends (nat_eq b 10) refl (read_part m all (with_byte r b) bs is.1)
  where
    ends : (e : Bool) → nat_eq b 10 ≡ e → read_text m all (with_byte r b) bs ≡ with_part (with_byte r b) bs → (if e then read_text m all (end_line m all r) bs else read_text m all (with_byte r b) bs) ≡ with_part r (b ∷ bs)
    ends true here later = absurd (is.0 (grind arith))
    ends false here later = later ∙ ap (λ (l : List ℕ). record { state = r.state; partial = l; printed = r.printed }) (append_assoc r.partial (b ∷ []) bs)

-- a line and its end
pub read_line : (m : Instance) (all : Bool) (r : Reading) (line rest : List ℕ) → IsLine line → read_text m all r (line ++ 10 ∷ rest) ≡ read_text m all (end_line m all (with_part r line)) rest
read_line m all r line rest is = read_on m all r line (10 ∷ rest) ∙ ap (λ (y : Reading). read_text m all y (10 ∷ rest)) (read_part m all r line is)

pub appended_more : {before between after text_before text_between text_after : List ℕ} → IsAppended before between text_before text_between → IsAppended between after text_between text_after → IsAppended before after text_before text_after
appended_more {before = before} {text_before = text_before} first second = record {
  more = first.more ++ second.more;
  text = second.text ∙ ap (λ t. t ++ second.more) first.text ∙ append_assoc text_before first.more second.more;
  printed = second.printed ∙ ap (λ t. t ++ second.more) first.printed ∙ append_assoc before first.more second.more;
}
