use Rattle.std.proofs.Common.{◌≡◌, ◌∙◌, false, ap, sym, subst, Option, Some, IfSome}
use Rattle.std.specs.Prelude.{MatchOption}
use Rattle.fz_tree.specs.Frontier.{Frontier}
use Rattle.fz_tree.specs.Account.{Account}
use Rattle.fz_tree.specs.Book.{Book, IsAt}
use Rattle.fz_book.specs.Reports.{IsReportable}
use Rattle.fz_machine.specs.Cores.{Worker}
use Rattle.fz_path.specs.declared.task.Cut.{Cut}
use Rattle.fz_path.specs.Cuts.{IsCutOf}
use Rattle.fz_path.specs.Paths.{can_cut_held}
use Rattle.fz_machine.proofs.slot.Slot.cut.Goals as goal

pub take_open-requires-clause-open : goal.take_open-requires-clause-open
take_open-requires-clause-open g c =
    let cut : IsCutOf c.in-Some.cut c.self.inside.path
    = subst (λ (o : Option (Cut _)). MatchOption o (can_cut_held c.self.inside.path.held ≡ false) (λ k. IsCutOf k c.self.inside.path)) c.in-Some.is c.in_ok-cut.ensures.cut in
    let held : c.args.self.now.path.held ≡ Some cut.account = sym (ap (λ (w : Worker). w.path.held) c.self.view_is) ∙ cut.holds in
    let reportable : IsReportable c.args.book.now.book cut.account = subst (λ (o : Option Account). IfSome o (IsReportable c.args.book.now.book)) held c.requires.reportable in
    let before : cut.account.before ≡ c.in-Some.cut.account.before = sym (ap (λ (a : Account). a.before) cut.stood) in (
      reportable.is_open.0,
      subst (λ (f : Frontier). IsAt c.make_room.new.self.book.parts f reportable.is_open.0) before
          (subst (λ (b : Book). IsAt b.parts cut.account.before reportable.is_open.0) (sym c.make_room.ensures.book) reportable.is_open.1),
    )
