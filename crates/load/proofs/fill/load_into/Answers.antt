-- `load::fill::load_into` meets its contract, by the laws of Writing.
use Rattle.load.proofs.Writing.{into}
use Rattle.load.proofs.fill.load_into.Goals as goal

pub fill_members-requires : goal.fill_members-requires
fill_members-requires c = (search into, search into, search into, search into, search into)

pub refused-requires : goal.refused-requires
refused-requires c = search into

pub refused-requires-in-Err-FewRows : goal.refused-requires-in-Err-FewRows
refused-requires-in-Err-FewRows c = search into

pub refused-requires-in-Err-ShortPool : goal.refused-requires-in-Err-ShortPool
refused-requires-in-Err-ShortPool c = search into

pub returns-in-Ok-fill_members : goal.returns-in-Ok-fill_members
returns-in-Ok-fill_members c = search into

pub returns-in-Err-Short : goal.returns-in-Err-Short
returns-in-Err-Short c = search into

pub returns-in-Err-FewRows : goal.returns-in-Err-FewRows
returns-in-Err-FewRows c = search into
