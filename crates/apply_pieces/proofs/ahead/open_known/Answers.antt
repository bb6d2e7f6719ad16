-- `apply_pieces::ahead::open_known` meets its contract, by the laws of AheadLaws.
use Rattle.apply_pieces.proofs.AheadLaws.{from_open}
use Rattle.apply_pieces.proofs.ahead.open_known.Goals as goal

pub returns-then-ahead-eq0 : goal.returns-then-ahead-eq0
returns-then-ahead-eq0 c = search from_open

pub found_note-requires : goal.found_note-requires
found_note-requires c = search from_open

pub returns-in-Some : goal.returns-in-Some
returns-in-Some c = search from_open

pub returns-in-None : goal.returns-in-None
returns-in-None c = search from_open
