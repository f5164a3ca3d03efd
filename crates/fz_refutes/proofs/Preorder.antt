-- A tree refutes a box exactly where its lines do, one by one.
use Rattle.std.proofs.Common.{◌≡◌, ℕ, zero, suc, ◌<◌, ℤ, List, [], ◌∷◌, ◌++◌, refl, sym, ap, subst, ◌∙◌, arith, length, append_assoc, append-nil}
use Rattle.std.specs.Prelude.{Option}
use Rattle.fz_spec.specs.Instance.{Instance}
use Rattle.fz_refutes.specs.Boxes.{low_half, high_half}
use Rattle.fz_refutes.specs.Trees.{Tree, Empty, Failing, Worse, Split, IsRefutedBy, Line, IsEmpty, Fails, IsBehind, Splits, lines_of, AreRefutedBy}
use Rattle.fz_refutes.specs.Laws.{LinesAreChecked, CheckedIsRefuted}

-- a tree before lines
pub before : (m : Instance) (head : Option (List ℤ)) (box : List (List (ℤ × ℤ))) (boxes : List (List (List (ℤ × ℤ)))) (tree : Tree) (lines : List Line)
    → IsRefutedBy m head box tree → AreRefutedBy m head boxes lines → AreRefutedBy m head (box ∷ boxes) (lines_of tree ++ lines)
before m head box boxes Empty lines out rest = (out, rest)
before m head box boxes (Failing c) lines out rest = (out, rest)
before m head box boxes Worse lines out rest = (out, rest)
before m head box boxes (Split v n low high) lines out rest =
    let later = before m head (high_half v n box) boxes high lines out.2 rest in
    let all = before m head (low_half v n box) (high_half v n box ∷ boxes) low (lines_of high ++ lines) out.1 later in
    (out.0, subst (λ (ls : List Line). AreRefutedBy m head (low_half v n box ∷ high_half v n box ∷ boxes) ls) (sym (append_assoc (lines_of low) (lines_of high) lines)) all)

pub lines_are_checked : LinesAreChecked
lines_are_checked m head box tree out =
    subst (λ (ls : List Line). AreRefutedBy m head (box ∷ []) ls) (append-nil (lines_of tree)) (before m head box [] tree [] out tt)

-- the first tree of lines that refute boxes
pub record IsFirst (m : Instance) (head : Option (List ℤ)) (box : List (List (ℤ × ℤ))) (boxes : List (List (List (ℤ × ℤ)))) (lines : List Line) : Type 0 where
  pub tree : Tree
  pub rest : List Line
  pub refuted : IsRefutedBy m head box tree
  pub later : AreRefutedBy m head boxes rest
  pub shorter : length rest < length lines
  pub is : lines ≡ lines_of tree ++ rest

-- by the length of the lines, since the later tree of a split is after the earlier one
first : (fuel : ℕ) (m : Instance) (head : Option (List ℤ)) (box : List (List (ℤ × ℤ))) (boxes : List (List (List (ℤ × ℤ)))) (lines : List Line)
    → length lines < fuel → AreRefutedBy m head (box ∷ boxes) lines → IsFirst m head box boxes lines
first zero m head box boxes lines short out = absurd (omega (arith, short))
first (suc fuel) m head box boxes [] short out = absurd out
first (suc fuel) m head box boxes (IsEmpty ∷ lines) short out = record { tree = Empty; rest = lines; refuted = out.0; later = out.1; shorter = omega arith; is = refl }
first (suc fuel) m head box boxes (Fails c ∷ lines) short out = record { tree = Failing c; rest = lines; refuted = out.0; later = out.1; shorter = omega arith; is = refl }
first (suc fuel) m head box boxes (IsBehind ∷ lines) short out = record { tree = Worse; rest = lines; refuted = out.0; later = out.1; shorter = omega arith; is = refl }
first (suc fuel) m head box boxes (Splits v n ∷ lines) short out =
    let low = first fuel m head (low_half v n box) (high_half v n box ∷ boxes) lines (omega (arith, short)) out.1 in
    let high = first fuel m head (high_half v n box) boxes low.rest (let less = low.shorter in omega (arith, short, less)) low.later in
    record {
      tree = Split v n low.tree high.tree;
      rest = high.rest;
      refuted = (out.0, low.refuted, high.refuted);
      later = high.later;
      shorter = (let less = low.shorter in let more = high.shorter in omega (arith, less, more));
      is = ap (λ (ls : List Line). Splits v n ∷ ls) (low.is ∙ ap (λ (ls : List Line). lines_of low.tree ++ ls) high.is ∙ sym (append_assoc (lines_of low.tree) (lines_of high.tree) high.rest));
    }

nothing_left : (m : Instance) (head : Option (List ℤ)) (lines : List Line) → AreRefutedBy m head [] lines → lines ≡ []
nothing_left m head [] out = refl
nothing_left m head (l ∷ ls) out = absurd out

pub checked_is_refuted : CheckedIsRefuted
checked_is_refuted m head box lines out =
    let found = first (suc (length lines)) m head box [] lines (omega arith) out in
    (found.tree, found.refuted, found.is ∙ ap (λ (ls : List Line). lines_of found.tree ++ ls) (nothing_left m head found.rest found.later) ∙ append-nil (lines_of found.tree))
