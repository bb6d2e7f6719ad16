use Rattle.replay.proofs.Cases.{replaying}
use Rattle.replay.proofs.each.each_case.Goals as goal

pub case_from-next-requires : goal.case_from-next-requires
case_from-next-requires g c = search replaying

pub slice_bounds-case_name-end : goal.slice_bounds-case_name-end
slice_bounds-case_name-end g c = search replaying
