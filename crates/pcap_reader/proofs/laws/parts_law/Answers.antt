-- The laws are lemmas.
use Rattle.pcap_reader.proofs.Joined.{goes_on, damage_stays, begins_with_more, short_rest, rest_whole}
use Rattle.pcap_reader.proofs.InParts.{records_in_parts, rest_in_parts, damage_in_parts, sound_in_parts}
use Rattle.pcap_reader.proofs.Headed.{header_grown, grows_from_front}
use Rattle.pcap_reader.proofs.laws.parts_law.Goals as goal

pub returns-clause-records : goal.returns-clause-records
returns-clause-records c = records_in_parts

pub returns-clause-rest : goal.returns-clause-rest
returns-clause-rest c = rest_in_parts

pub returns-clause-damage : goal.returns-clause-damage
returns-clause-damage c = damage_in_parts

pub returns-clause-sound : goal.returns-clause-sound
returns-clause-sound c = sound_in_parts

pub returns-clause-next : goal.returns-clause-next
returns-clause-next c = goes_on

pub returns-clause-stays : goal.returns-clause-stays
returns-clause-stays c = damage_stays

pub returns-clause-header : goal.returns-clause-header
returns-clause-header c = header_grown

pub returns-clause-front : goal.returns-clause-front
returns-clause-front c = grows_from_front

pub returns-clause-full : goal.returns-clause-full
returns-clause-full c = begins_with_more

pub returns-clause-short : goal.returns-clause-short
returns-clause-short c = short_rest

pub returns-clause-whole : goal.returns-clause-whole
returns-clause-whole c = rest_whole
