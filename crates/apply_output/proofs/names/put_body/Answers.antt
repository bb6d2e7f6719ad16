-- `apply_output::names::put_body` meets its contract, by the laws of Planning.
use Rattle.apply_output.proofs.Planning.{bodies}
use Rattle.apply_output.proofs.names.put_body.Goals as goal

pub name_text-text-requires : goal.name_text-text-requires
name_text-text-requires c = search bodies

pub put_shown-requires : goal.put_shown-requires
put_shown-requires c = search bodies

pub returns-in-InPool : goal.returns-in-InPool
returns-in-InPool c = search bodies

pub returns-in-Shown : goal.returns-in-Shown
returns-in-Shown c = search bodies
