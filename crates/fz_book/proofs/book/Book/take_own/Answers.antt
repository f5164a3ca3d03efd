use Rattle.std.proofs.Common.{◌∙◌, ap, subst, List}
use Rattle.fz_tree.specs.Frontier.{Frontier}
use Rattle.fz_tree.specs.Book.{Part, PrefersClaimed}
use Rattle.fz_book.specs.Places.{IsNowhere}
use Rattle.fz_book.specs.Room.{Roomy}
use Rattle.fz_book.proofs.Takings.{not_open}
use Rattle.fz_book.proofs.book.Book.take_own.Goals as goal

pub returns-in_default-clause-stranger : goal.returns-in_default-clause-stranger
returns-in_default-clause-stranger c =
    let nowhere : IsNowhere c.deref.result.now c.args.account.before = subst (λ (f : Frontier). IsNowhere c.deref.result.now f) c.before-2.ensures.before c.in_default.ensures.place in (
      λ t. not_open c.args.self.now.book c.args.account.before
          (subst (λ (ps : List Part). IsNowhere ps c.args.account.before) (c.deref.ensures.value ∙ ap (λ (r : Roomy). r.book.parts) c.self.view_is) nowhere),
      λ h. tt,
    )

pub take_at-requires-clause-prefers : goal.take_at-requires-clause-prefers
take_at-requires-clause-prefers c =
    let prefers : PrefersClaimed c.deref.result.now c.args.account.before c.in-Some.place =
    subst (λ (f : Frontier). PrefersClaimed c.deref.result.now f c.in-Some.place) c.before-2.ensures.before c.in-Some.ensures.prefers in
    subst (λ (ps : List Part). PrefersClaimed ps c.args.account.before c.in-Some.place) (c.deref.ensures.value ∙ ap (λ (r : Roomy). r.book.parts) c.self.view_is) prefers
