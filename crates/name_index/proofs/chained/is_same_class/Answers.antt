-- `name_index::chained::is_same_class` meets its contract, by the laws of Wanting.
use Rattle.name_index.proofs.Wanting.{same_class}
use Rattle.name_index.proofs.chained.is_same_class.Goals as goal

pub returns-then-row-class : goal.returns-then-row-class
returns-then-row-class c = search same_class

pub returns-then-row-classes : goal.returns-then-row-classes
returns-then-row-classes c = search same_class

pub returns : goal.returns
returns c = search same_class
