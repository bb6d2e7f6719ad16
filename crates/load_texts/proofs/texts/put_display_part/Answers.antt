-- `load_texts::texts::put_display_part` meets its contract, by the laws of Texting.
use Rattle.load_texts.proofs.Texting.{display_part}
use Rattle.load_texts.proofs.texts.put_display_part.Goals as goal

pub returns : goal.returns
returns c = search (display_part, c.in_ok-second.was, c.in_ok-next.was)
