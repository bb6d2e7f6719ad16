-- `text_white::trim::last_white` meets its contract, by the laws of Ink and an invariant that says what is done and what is left.
use Rattle.text_places.proofs.PlaceLaws.{Backing}
use Rattle.text_white.specs.Trim.{starts_white}
use Rattle.text_white.proofs.trim.last_white.Given as goal

abbrev pub invariant-loop-end : goal.invariant-loop-end
invariant-loop-end l = Backing starts_white l.s l.end

abbrev pub decreases-loop-end : goal.decreases-loop-end
decreases-loop-end l = l.end
