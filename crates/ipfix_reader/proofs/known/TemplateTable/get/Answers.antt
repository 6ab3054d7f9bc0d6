-- What is found in the map.
use Rattle.ipfix_reader.proofs.TableEntries.{fields_in-found}
use Rattle.ipfix_reader.proofs.known.TemplateTable.get.Goals as goal

pub returns : goal.returns
returns c = rw (← c.self.view_is) (fields_in-found _ _ _ _ c.get.ensures.value)
