use Rattle.fz_lex.proofs.Numbers.{point_tail, point_alone, no_tail, exponent_tail, match_map}
use Rattle.fz_lex.proofs.number.float_end.Goals as goal

pub returns-in-Some-exponent_end : goal.returns-in-Some-exponent_end
returns-in-Some-exponent_end c =
    let p = c.in-Some.ensures in
    point_tail c.args.text.now c.args.whole c.in-Some.part _ p.point p.run p.some c.in-Some-exponent_end.ensures

pub returns-in-None-exponent_end : goal.returns-in-None-exponent_end
returns-in-None-exponent_end c =
    let p = c.in-Some.ensures in
    point_alone c.args.text.now c.args.whole c.in-Some.part p.point p.run p.some c.in-None-exponent_end.ensures

pub returns-in-None : goal.returns-in-None
returns-in-None c =
    match_map c.exponent_end-in-None.result (no_tail c.args.text.now c.args.whole c.in-None.ensures) (λ stop. exponent_tail c.args.text.now c.args.whole stop c.in-None.ensures) c.exponent_end-in-None.ensures
