use Rattle.json_decode.proofs.OctetLaws.{heading}
use Rattle.json_decode.proofs.octets.has_octets.Goals as goal

pub returns-then-text-at : goal.returns-then-text-at
returns-then-text-at c = search heading

pub returns-then-text-at-2 : goal.returns-then-text-at-2
returns-then-text-at-2 c = search heading

pub loop-k-preserved : goal.loop-k-preserved
loop-k-preserved c = search heading

pub returns : goal.returns
returns c = search heading
