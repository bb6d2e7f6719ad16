-- `text_white::trim::white_length` meets its contract, by the laws of TrimLaws.
use Rattle.text_white.proofs.TrimLaws.{white_long}
use Rattle.text_white.proofs.trim.white_length.Goals as goal

pub returns-then-is_wide : goal.returns-then-is_wide
returns-then-is_wide c = search white_long
