-- `text_white::trim::trim_both` meets its contract, by the laws of Sync.
use Rattle.text_white.proofs.Sync.{trimmed}
use Rattle.text_white.proofs.trim.trim_both.Goals as goal

pub returns-then-is_ink-2 : goal.returns-then-is_ink-2
returns-then-is_ink-2 c = search trimmed
