use Rattle.json_decode.proofs.OctetLaws.{putting}
use Rattle.json_decode.proofs.octets.put_octets.Goals as goal

pub loop-k-preserved : goal.loop-k-preserved
loop-k-preserved c = search putting

pub returns : goal.returns
returns c = search putting
