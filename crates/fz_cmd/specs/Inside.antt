-- The options that the fields are.
use Rattle.fz_cmd.specs.Meaning.{Options}
use Rattle.fz_cmd.specs.declared.options.Options.TheInside.{Inside}

abbrev pub options_in : Inside → Options
options_in o = record { all = o.all; limit = o.limit; distinct = o.distinct; workers = o.workers; assets = o.assets; commit_distance = o.commit_distance; adaptive_distance = o.adaptive_distance; interleave = o.interleave; stats = o.stats; certificate = o.certificate; generate = o.generate; split = o.split; part = o.part; better = o.better; file = o.file }
