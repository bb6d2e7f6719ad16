-- `text_white::inks::gaps_of_two` meets its contract, by the laws of InkBlocks.
use Rattle.text_white.proofs.InkBlocks.{gap_masking}
use Rattle.text_white.proofs.inks.gaps_of_two.Goals as goal

pub returns : goal.returns
returns c = search gap_masking
