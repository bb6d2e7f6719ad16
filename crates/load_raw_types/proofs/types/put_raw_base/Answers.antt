-- `load_raw_types::types::put_raw_base` meets its contract, by the laws of Typed.
use Rattle.load_raw_types.proofs.Typed.{base_turns}
use Rattle.load_raw_types.proofs.types.put_raw_base.Goals as goal

pub returns-in-Letter : goal.returns-in-Letter
returns-in-Letter c = search base_turns

pub returns-in-Kept : goal.returns-in-Kept
returns-in-Kept c = search base_turns
