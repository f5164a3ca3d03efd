use Rattle.std.proofs.lemmas.Result.{on_ok_weaker}
use Rattle.fz_partners.proofs.found.Found.add.Goals as goal

pub returns-clause-of : goal.returns-clause-of
returns-clause-of c = on_ok_weaker c.add-3.result
    (λ of ds e h. record { first = c.in_ok-add.ensures.of ds e.first.term h.first; second = c.in_ok-add-2.ensures.of ds e.second.term h.second; third = of ds e.third.term h.third })
    c.add-3.ensures.of
