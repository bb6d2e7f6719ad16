use Rattle.json_decode.proofs.Comparing.{comparing}
use Rattle.json_decode.proofs.compare.decoded_is.Goals as goal

pub loop-at-init : goal.loop-at-init
loop-at-init c = search comparing

pub returns-then-text-i : goal.returns-then-text-i
returns-then-text-i c = search comparing

pub returns-then-text-i-2 : goal.returns-then-text-i-2
returns-then-text-i-2 c = search comparing

pub loop-at-preserved : goal.loop-at-preserved
loop-at-preserved c = search comparing

pub loop-at-preserved-then-has_octets : goal.loop-at-preserved-then-has_octets
loop-at-preserved-then-has_octets c = search comparing

pub returns-in-Code : goal.returns-in-Code
returns-in-Code c = search comparing

pub returns-in-Closes : goal.returns-in-Closes
returns-in-Closes c = search comparing

pub returns-in-Wrong : goal.returns-in-Wrong
returns-in-Wrong c = search comparing

pub returns : goal.returns
returns c = search comparing
