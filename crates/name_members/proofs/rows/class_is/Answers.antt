-- `name_members::rows::class_is` meets its contract, by the laws of Matching.
use Rattle.name_members.proofs.Matching.{class_known}
use Rattle.name_members.proofs.rows.class_is.Goals as goal

pub returns-then-row-classes : goal.returns-then-row-classes
returns-then-row-classes c = search class_known

pub returns : goal.returns
returns c = search class_known
