use Rattle.std.proofs.Common.{length}
use Rattle.fz_strength.specs.Domains.{IsTermOf}
use Rattle.fz_alldiff.proofs.Between.{part_terms, whole_narrows}
use Rattle.fz_alldiff.proofs.all_different.keep_part.Goals as goal

pub keep_different-requires : goal.keep_different-requires
keep_different-requires c = part_terms (IsTermOf (length c.args.store.now.doms)) c.args.terms.now c.terms_between-part.result.now c.args.front c.args.back c.terms_between-part.ensures c.requires.terms

pub returns : goal.returns
returns c = whole_narrows c.keep_different.result c.args.terms.now c.terms_between-part.result.now c.args.front c.args.back c.args.store.now c.keep_different.new.store c.requires.terms c.terms_between-part.ensures c.requires.told c.keep_different.ensures
