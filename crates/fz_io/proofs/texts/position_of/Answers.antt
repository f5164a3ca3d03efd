use Rattle.std.proofs.Common.{rules}
use Rattle.fz_io.proofs.Named.{text_at, named_at}
use Rattle.fz_io.proofs.texts.position_of.Goals as goal

pub returns-then-eq : goal.returns-then-eq
returns-then-eq c = record {
  some = text_at c.args.texts.now c.loop-index.index c.args.name.now c.index-texts-index.result (search rules) c.index-texts-index.is c.loop-index.invariant (search rules);
  named = named_at c.args.texts.now c.loop-index.index c.args.name.now c.index-texts-index.result (search rules) c.index-texts-index.is (search rules);
  none = tt;
}
