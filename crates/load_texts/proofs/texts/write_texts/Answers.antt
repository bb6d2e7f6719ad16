-- `load_texts::texts::write_texts` meets its contract, by the laws of Texting.
use Rattle.load_texts.proofs.Texting.{texts}
use Rattle.load_texts.proofs.texts.write_texts.Goals as goal

pub returns : goal.returns
returns c = search (texts, c.in_ok-descriptor.was, c.in_ok-owner.was)
