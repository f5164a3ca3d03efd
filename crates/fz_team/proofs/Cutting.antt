-- What is reported and what is cut off, as the code says it.
use Rattle.std.proofs.Common.{◌≡◌, ◌∙◌, false, ap, refl, subst, sym, Option, Some}
use Rattle.std.specs.Prelude.{MatchOption, OnSome, IfOk, Result, option_and_then}
use Rattle.std.specs.declared.alloc.AllocError.{AllocError}
use Rattle.fz_tree.specs.Account.{Account}
use Rattle.fz_tree.specs.Book.{Book}
use Rattle.fz_path.specs.Paths.{Walked, bare, with_held, held_behind, can_cut_held}
use Rattle.fz_path.specs.Cuts.{held_behind_cut}
use Rattle.fz_team.specs.declared.section.Handed.{Handed}
use Rattle.fz_team.specs.declared.own.OwnCut.{OwnCut}
use Rattle.fz_team.specs.OwnCuts.{IsOwnCutOf}
use Rattle.fz_team.specs.Sections.{HandsIn, HasReported, HasCut}

pub cut_off : {S T : Type 0} (o : Option (OwnCut S T)) (cut : OwnCut S T) (p q : Walked) (b c d : Book) (handed : Handed) (copy : Result Account AllocError) → o ≡ Some cut → MatchOption o (can_cut_held p.held ≡ false) (λ x. IsOwnCutOf x p)
    → OnSome o (bare q ≡ with_held (bare p) (option_and_then held_behind_cut p.held)) → c ≡ b → HandsIn handed cut.account c d → IfOk copy (λ x. x ≡ cut.account)
    → HasCut {S = S} {T = T} (record { task = cut.task; handed = handed; copy = copy }) p b (bare q) d
cut_off {S} {T} o cut p q b c d handed copy some matches rest same hands copied =
    let is : IsOwnCutOf cut p = subst (λ (x : Option (OwnCut S T)). MatchOption x (can_cut_held p.held ≡ false) (λ y. IsOwnCutOf y p)) some matches in
    let left : bare q ≡ with_held (bare p) (option_and_then held_behind_cut p.held) = subst (λ (x : Option (OwnCut S T)). OnSome x (bare q ≡ with_held (bare p) (option_and_then held_behind_cut p.held))) some rest in
    record {
      cut = record { task = cut.task; account = cut.account };
      is_cut = is;
      task_is = refl;
      path_is = left ∙ ap (λ (h : Option Account). with_held (bare p) (option_and_then held_behind_cut h)) is.holds;
      hands = subst (λ (x : Book). HandsIn handed cut.account x d) same hands;
      copied = copied;
    }

pub handed_in : {T : Type 0} (o : Option Account) (a : Account) (p q : Walked) (b c d : Book) (handed : Handed) (copy : Result Account AllocError) → o ≡ Some a → o ≡ p.held → bare q ≡ with_held (bare p) (option_and_then held_behind p.held) → c ≡ b → HandsIn handed a c d
    → IfOk copy (λ x. x ≡ a) → HasReported {T = T} (record { handed = handed; copy = copy }) (bare p) b (bare q) d
handed_in {T} o a p q b c d handed copy some held rest same hands copied =
    let holds : p.held ≡ Some a = sym held ∙ some in
    record {
      account = a;
      holds = holds;
      path_is = rest ∙ ap (λ (h : Option Account). with_held (bare p) (option_and_then held_behind h)) holds;
      hands = subst (λ (x : Book). HandsIn handed a x d) same hands;
      copied = copied;
    }
