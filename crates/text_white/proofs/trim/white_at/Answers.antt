-- `text_white::trim::white_at` meets its contract, by the laws of Ink.
use mathlib.Core.Path.{sym}
use Rattle.text_white.proofs.Ink.{white_or_ink}
use Rattle.text_white.proofs.trim.white_at.Goals as goal

pub returns-then-s-at : goal.returns-then-s-at
returns-then-s-at c = search white_or_ink

pub returns-then-is_ink : goal.returns-then-is_ink
returns-then-is_ink c = sym (search white_or_ink)

pub returns-then-white_length-eq0 : goal.returns-then-white_length-eq0
returns-then-white_length-eq0 c = search white_or_ink
