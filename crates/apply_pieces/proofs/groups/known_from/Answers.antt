-- `apply_pieces::groups::known_from` meets its contract, by the laws of Telling.
use Rattle.apply_pieces.proofs.Telling.{by_groups}
use Rattle.apply_pieces.proofs.groups.known_from.Goals as goal

pub seek_known-requires : goal.seek_known-requires
seek_known-requires c = search by_groups
