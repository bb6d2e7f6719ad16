use Rattle.text_places.proofs.PlaceLaws.{matching}
use Rattle.text_places.proofs.find.same_bytes.Goals as goal

pub returns-then-s-t : goal.returns-then-s-t
returns-then-s-t c = search matching

pub returns-then-s-i : goal.returns-then-s-i
returns-then-s-i c = search matching

pub loop-i-preserved : goal.loop-i-preserved
loop-i-preserved c = search matching

pub returns : goal.returns
returns c = search matching
