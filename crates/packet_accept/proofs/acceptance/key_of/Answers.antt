-- A key is the key with its fields.
use Rattle.flow_key.proofs.KeyFields.{key_with-key}
use Rattle.packet_accept.proofs.acceptance.key_of.Goals as goal

pub returns : goal.returns
returns c = key_with-key _
