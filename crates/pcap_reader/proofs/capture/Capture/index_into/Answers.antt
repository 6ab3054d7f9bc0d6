-- The records found are all, one after the other.
use Rattle.std.proofs.Common.{◌≡◌, ◌∷◌, [], ◌++◌, arith}
use Rattle.std.proofs.lemmas.Grind.{common_steps}
use Rattle.pcap_reader.specs.Views.{file_of}
use Rattle.pcap_reader.proofs.Cutting.{file_is_cut_once}
use Rattle.pcap_reader.proofs.Search.{Found-record, Found-index, Found-sound, Found-damage, few_records}
use Rattle.pcap_reader.proofs.capture.Capture.index_into.Goals as goal

pub records-preserved : goal.records-preserved
records-preserved c =
    let grown : c.push.new.self.items ≡ c.records.offsets.items ++ c.records.at ∷ [] = grind (arith, common_steps) in
    rw grown (Found-record _ _ _ _ _ _ c.in-Record.ensures c.records.invariant)

pub returns-in-Damage-clause-damaged : goal.returns-in-Damage-clause-damaged
returns-in-Damage-clause-damaged c = λ at e.
    let here : c.records.at ≡ at = cc in
    rw (← here) (Found-damage (file_of c.args.self.now)
    c.records.offsets.items c.records.at c.in-Damage.ensures c.records.invariant)

pub returns-in-Rest-clause-index : goal.returns-in-Rest-clause-index
returns-in-Rest-clause-index c = Found-index (file_of c.args.self.now) _ c.records.at c.in-Rest.ensures.no_record
    (rw c.new.ensures.offsets c.records.invariant) c.new.ensures.tail

pub returns-in-Rest-clause-few : goal.returns-in-Rest-clause-few
returns-in-Rest-clause-few c = few_records (file_of c.args.self.now) _ c.args.self.now.whole
    (Found-index (file_of c.args.self.now) _ c.records.at c.in-Rest.ensures.no_record
    (rw c.new.ensures.offsets c.records.invariant) c.new.ensures.tail)

pub returns-in-Rest-clause-undamaged : goal.returns-in-Rest-clause-undamaged
returns-in-Rest-clause-undamaged c = Found-sound
    (file_of c.args.self.now) c.records.offsets.items c.records.at c.in-Rest.ensures c.records.invariant

pub returns-then-is_err-clause-cut : goal.returns-then-is_err-clause-cut
returns-then-is_err-clause-cut c = file_is_cut_once (file_of c.args.self.now) c.args.self.now.whole

pub returns-in-Damage-clause-cut : goal.returns-in-Damage-clause-cut
returns-in-Damage-clause-cut c = file_is_cut_once (file_of c.args.self.now) c.args.self.now.whole

pub returns-in-Rest-clause-cut : goal.returns-in-Rest-clause-cut
returns-in-Rest-clause-cut c = file_is_cut_once (file_of c.args.self.now) c.args.self.now.whole
