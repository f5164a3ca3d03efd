use Rattle.std.proofs.Common.{List, length}
use Rattle.std.specs.Prelude.{◌==◌}
use Rattle.std.proofs.lemmas.Bool.{eq-eqb, ne_eqb}
use Rattle.fz_spec.specs.declared.asked.Asked.{Asked}
use Rattle.fz_syntax.proofs.Firsts.{still_none, first_found, passes_none}
use Rattle.fz_check.proofs.call.signature_of.Goals as goal

pub returns-then-signature-arity : goal.returns-then-signature-arity
returns-then-signature-arity c =
    first_found (λ (asked : List Asked). length asked == c.args.arity) (λ s. s.now) c.args.signatures.now c.loop-signature.signature-index _ c.loop-signature-test.true (eq-eqb _ _ c.if-signature-arity.true) c.loop-signature.invariant

pub loop-signature-preserved : goal.loop-signature-preserved
loop-signature-preserved c =
    still_none (λ (asked : List Asked). length asked == c.args.arity) (λ s. s.now) c.args.signatures.now c.loop-signature.signature-index _ c.loop-signature-test.true (ne_eqb _ _ c.if-signature-arity.false) c.loop-signature.invariant

pub returns : goal.returns
returns c = passes_none (λ (asked : List Asked). length asked == c.args.arity) (λ s. s.now) c.args.signatures.now c.loop-signature.signature-index c.loop-signature-test.false c.loop-signature.invariant
