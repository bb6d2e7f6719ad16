-- `load_texts::texts::put_raw_part` meets its contract, by the laws of Texting.
use Rattle.load_texts.proofs.Texting.{raw_part}
use Rattle.load_texts.proofs.texts.put_raw_part.Goals as goal

pub put_descriptor-described-requires : goal.put_descriptor-described-requires
put_descriptor-described-requires c = search (raw_part, c.in_ok-second.was)

pub returns-in_err-next : goal.returns-in_err-next
returns-in_err-next c = search raw_part

pub returns : goal.returns
returns c = search (raw_part, c.in_ok-second.was, c.in_ok-next.was)
