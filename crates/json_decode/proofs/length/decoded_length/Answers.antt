use Rattle.json_decode.proofs.Lengths.{counting}
use Rattle.json_decode.proofs.length.decoded_length.Goals as goal

pub loop-at-init : goal.loop-at-init
loop-at-init c = search counting

pub loop-at-preserved-in-Byte : goal.loop-at-preserved-in-Byte
loop-at-preserved-in-Byte c = search counting

pub loop-at-preserved : goal.loop-at-preserved
loop-at-preserved c = search counting

pub returns-in-Closes : goal.returns-in-Closes
returns-in-Closes c = search counting

pub returns-in-Wrong : goal.returns-in-Wrong
returns-in-Wrong c = search counting

pub returns : goal.returns
returns c = search counting
