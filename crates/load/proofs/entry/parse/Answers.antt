-- `load::entry::parse` meets its contract, by the laws of Answering.
use mathlib.Core.Path.{ap}
use Rattle.load_rule.specs.Loading.{load_numbers}
use Rattle.load.proofs.Answering.{marks_dropped, marking}
use Rattle.load.proofs.entry.parse.Goals as goal

pub after_marks-start-requires : goal.after_marks-start-requires
after_marks-start-requires c = search marking

pub load_from-requires : goal.load_from-requires
load_from-requires c = search marking

pub shape_of-classes : goal.shape_of-classes
shape_of-classes c = search marking

pub shape_of-members : goal.shape_of-members
shape_of-members c = search marking

pub shape_of-pool : goal.shape_of-pool
shape_of-pool c = search marking

pub returns : goal.returns
returns c = let l = marks_dropped _ c.after_marks-start.ensures _ _ _ c.load_from.ensures in (l.answer, l.classes, l.members, l.pool, ap load_numbers l.answer)
