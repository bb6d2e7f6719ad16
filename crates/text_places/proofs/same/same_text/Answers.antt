use Rattle.text_places.proofs.SameLaws.{agreeing}
use Rattle.text_places.proofs.same.same_text.Goals as goal

pub returns-then-s-t : goal.returns-then-s-t
returns-then-s-t c = search agreeing

pub returns-then-block_differs : goal.returns-then-block_differs
returns-then-block_differs c = search agreeing

pub loop-at-preserved : goal.loop-at-preserved
loop-at-preserved c = search agreeing

pub returns : goal.returns
returns c = search agreeing
