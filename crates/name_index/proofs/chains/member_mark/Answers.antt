-- `name_index::chains::member_mark` meets its contract, by the laws of Linking.
use Rattle.name_index.proofs.Linking.{marking_member}
use Rattle.name_index.proofs.chains.member_mark.Goals as goal

pub mark_from-named-requires : goal.mark_from-named-requires
mark_from-named-requires c = search marking_member

pub mark_from-requires : goal.mark_from-requires
mark_from-requires c = search marking_member
