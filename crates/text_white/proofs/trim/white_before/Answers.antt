use Rattle.text_white.proofs.Sync.{trying}
use Rattle.text_white.proofs.trim.white_before.Goals as goal

pub returns : goal.returns
returns c = search trying
