use Rattle.apply_pieces.proofs.AheadLaws.{sought_by_lem}
use Rattle.apply_pieces.proofs.ahead.seek_known.Goals as goal

pub returns-in-Nowhere : goal.returns-in-Nowhere
returns-in-Nowhere c = search sought_by_lem

pub returns-in-Open : goal.returns-in-Open
returns-in-Open c = search sought_by_lem

pub found_note-requires : goal.found_note-requires
found_note-requires c = search sought_by_lem

pub returns-in-Some : goal.returns-in-Some
returns-in-Some c = search sought_by_lem

pub loop-open-preserved : goal.loop-open-preserved
loop-open-preserved c = search sought_by_lem
