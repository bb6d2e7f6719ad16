-- `load_raw_types::types::put_raw_name` meets its contract, by the laws of Typed.
use Rattle.load_raw_types.proofs.Typed.{raw_names}
use Rattle.load_raw_types.proofs.types.put_raw_name.Goals as goal

pub returns-in_default : goal.returns-in_default
returns-in_default c = search raw_names
