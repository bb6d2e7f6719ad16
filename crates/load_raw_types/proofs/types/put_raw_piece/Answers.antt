-- `load_raw_types::types::put_raw_piece` meets its contract, by the laws of Turned.
use Rattle.load_raw_types.proofs.Turned.{turning_one}
use Rattle.load_raw_types.proofs.types.put_raw_piece.Goals as goal

pub offset_bounds-classes-row : goal.offset_bounds-classes-row
offset_bounds-classes-row c = search turning_one

pub bounds-classes-row : goal.bounds-classes-row
bounds-classes-row c = search turning_one

pub returns-in-Some : goal.returns-in-Some
returns-in-Some c = search turning_one

pub returns-in-None : goal.returns-in-None
returns-in-None c = search turning_one
