-- The map with one entry more.
use Rattle.ipfix_reader.proofs.TableEntries.{with_template-shown}
use Rattle.ipfix_reader.proofs.known.TemplateTable.insert.Goals as goal

pub returns : goal.returns
returns c = rw (← c.self.view_is) (with_template-shown _ _ _ _ _ c.in_ok-insert.ensures.entries)
