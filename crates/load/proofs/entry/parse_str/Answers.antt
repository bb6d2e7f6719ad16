-- `load::entry::parse_str` meets its contract, from the promise of the function that it calls.
use mathlib.Core.Path.{ap}
use borrow.Author.Rules.{rules}
use Rattle.load_rule.specs.Loading.{load_numbers}
use Rattle.load.proofs.entry.parse_str.Goals as goal

pub load_from-requires : goal.load_from-requires
load_from-requires c = search rules

pub shape_of-classes : goal.shape_of-classes
shape_of-classes c = search rules

pub shape_of-members : goal.shape_of-members
shape_of-members c = search rules

pub shape_of-pool : goal.shape_of-pool
shape_of-pool c = search rules

pub returns : goal.returns
returns c = let l = c.load_from.ensures in
    (l.answer, l.classes, l.members, l.pool, ap load_numbers l.answer)
