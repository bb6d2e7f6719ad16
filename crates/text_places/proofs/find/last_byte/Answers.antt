use Rattle.text_places.proofs.PlaceLaws.{backing}
use Rattle.text_places.proofs.find.last_byte.Goals as goal

pub loop-end-init : goal.loop-end-init
loop-end-init c = search backing

pub returns-then-s-at : goal.returns-then-s-at
returns-then-s-at c = search backing

pub returns-then-at-eq0 : goal.returns-then-at-eq0
returns-then-at-eq0 c = search backing

pub returns-then-s-before : goal.returns-then-s-before
returns-then-s-before c = search backing

pub loop-end-preserved : goal.loop-end-preserved
loop-end-preserved c = search backing
