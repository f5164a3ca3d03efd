use Rattle.std.proofs.Common.{◌∙◌, ap, sym}
use Rattle.fz_model.specs.Groups.{constraint_at}
use Rattle.fz_strength.specs.Sayings.{saying_of}
use Rattle.fz_engine.proofs.Posting.{said_within}
use Rattle.fz_engine.proofs.network.saying_of.Goals as goal

pub returns-in-Element : goal.returns-in-Element
returns-in-Element c = said_within c.in-Element.set.now.value c.in-Element.term ∙ sym (ap (λ entry. saying_of (constraint_at entry)) c.in-Element.is)
