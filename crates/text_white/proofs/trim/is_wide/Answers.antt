-- `text_white::trim::is_wide` meets its contract, by the laws of TrimLaws.
use Rattle.text_white.proofs.TrimLaws.{wide}
use Rattle.text_white.proofs.trim.is_wide.Goals as goal

pub returns : goal.returns
returns c = search wide
