use Rattle.std.proofs.Common.{◌≤◌, ◌+◌, ◌∙◌, OnOk, ap, subst}
use Rattle.fz_path.specs.Paths.{Walked, found_held}
use Rattle.fz_team.proofs.section.make_room.Goals as goal

pub returns-clause-found : goal.returns-clause-found
returns-clause-found g c = subst (λ n. OnOk c.make_room.result (n + 1 ≤ c.make_room.new.self.found_room)) (c.found_count.ensures.count ∙ ap (λ (p : Walked). found_held p.held) c.path.ensures.path) c.make_room.ensures.found

pub returns-clause-given : goal.returns-clause-given
returns-clause-given g c = c.make_room.ensures.given

pub returns-clause-book : goal.returns-clause-book
returns-clause-book g c = c.make_room.ensures.book
