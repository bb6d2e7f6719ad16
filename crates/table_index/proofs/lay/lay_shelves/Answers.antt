use Rattle.table_index.proofs.Laying.{laying}
use Rattle.table_index.proofs.lay.lay_shelves.Goals as goal

pub loop-head-init : goal.loop-head-init
loop-head-init c = search laying

pub lay_shelf-start-requires : goal.lay_shelf-start-requires
lay_shelf-start-requires c = search laying

pub loop-head-preserved : goal.loop-head-preserved
loop-head-preserved c = search laying
