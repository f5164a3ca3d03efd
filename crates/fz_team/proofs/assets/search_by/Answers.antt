use Rattle.std.proofs.Common.{◌≡◌, ◌∙◌, ℕ, List, ap, length, subst, sym, rules}
use Rattle.std.specs.Prelude.{slice_index_or}
use Rattle.fz_book.specs.Room.{Roomy}
use Rattle.fz_team.specs.Members.{IsMember}
use Rattle.fz_team.specs.Ends.{EndsOne, IsTeam}
use Rattle.fz_team.proofs.Words.{ends_one_again, round_back}
use Rattle.fz_team.proofs.assets.search_by.Goals as goal

pub round-after-requires-clause-members : goal.round-after-requires-clause-members
round-after-requires-clause-members g c =
    let same : c.args.team.paths.len ≡ length c.deref.result.now = search rules in
    λ lifetimes outlives k d low. subst (λ (n : ℕ). IsMember g.T.Subject.model c.args.team.bound n (slice_index_or c.args.team.members.items k d)) same (c.requires.team.members k d low)

pub closing-requires : goal.closing-requires
closing-requires g c =
    let same : c.args.team.paths.len ≡ length c.deref.result.now = search rules in
    record {
      team = (
        length c.deref.result.now,
        round_back g.T.Subject.model c.args.team.bound (length c.deref.result.now) c.args.team.seat c.args.team.members.items (λ v. v.items) c.round-after.result c.in-Some.members c.in-Some.is
            (subst (λ (n : ℕ). IsTeam g.T.Subject.model c.args.team.bound n c.args.team.seat c.args.team.members.items) same c.requires.team) c.round-after.ensures.all c.round-after.ensures.len,
      );
    }

pub returns-clause-books : goal.returns-clause-books
returns-clause-books g c = c.closing.result.books.ok.0 ∙ ap (λ (l : List Roomy). length l) c.closing.ensures.books ∙ sym c.unlocked-books.result.ok.0 ∙ c.unlocked-books.ensures ∙ c.locked_books-assets.ensures

pub returns-clause-end : goal.returns-clause-end
returns-clause-end g c =
    ends_one_again c.closing.result.end c.end_of-end.result c.args.enough g.T.Subject.model g.T.Subject.mode c.unlocked-books.result.items c.closing.result.books.items c.closing.ensures.end c.closing.ensures.books
    (subst (λ (l : List Roomy). EndsOne c.end_of-end.result c.args.enough g.T.Subject.model g.T.Subject.mode l) c.deref-3.ensures.value c.end_of-end.ensures)
