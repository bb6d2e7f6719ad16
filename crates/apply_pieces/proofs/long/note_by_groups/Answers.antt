use Rattle.apply_pieces.proofs.Naming.{noting_by_groups, by_groups_more}
use Rattle.apply_pieces.proofs.long.note_by_groups.Goals as goal

pub loop-n-preserved : goal.loop-n-preserved
loop-n-preserved c = by_groups_more
    c.loop-n.invariant
    c.loop-n-test.true
    c.names_start-start.ensures
    c.name_note-note.ensures
    c.put_note.ensures
