use Rattle.json_decode.proofs.Writing.{writing}
use Rattle.json_decode.proofs.write.write_pieces.Goals as goal

pub loop-from-init : goal.loop-from-init
loop-from-init c = search writing

pub bounds-room-to : goal.bounds-room-to
bounds-room-to c = search writing

pub overflow_add-to : goal.overflow_add-to
overflow_add-to c = search writing

pub loop-from-preserved-in-Byte : goal.loop-from-preserved-in-Byte
loop-from-preserved-in-Byte c = search writing

pub put_octets-requires : goal.put_octets-requires
put_octets-requires c = search writing

pub overflow_add-to-in-Code : goal.overflow_add-to-in-Code
overflow_add-to-in-Code c = search writing

pub loop-from-preserved : goal.loop-from-preserved
loop-from-preserved c = search writing

pub returns-in-Closes : goal.returns-in-Closes
returns-in-Closes c = search writing

pub returns-in-Wrong : goal.returns-in-Wrong
returns-in-Wrong c = search writing

pub returns : goal.returns
returns c = search writing
