use Rattle.pebr_table.proofs.Recording.{opens}
use Rattle.pebr_table.proofs.table.Table.open.Goals as goal

pub of_words-requires : goal.of_words-requires
of_words-requires g c = opens (g.P.TableRule.holds c.args.told.now) c.args.words.now _ c.requires
