-- `load_classes::entry::put_pair` meets its contract, by the laws of Entering.
use Rattle.load_classes.proofs.Entering.{pairing}
use Rattle.load_classes.proofs.entry.put_pair.Goals as goal

pub returns : goal.returns
returns c = search (pairing, c.in_ok-middle.was, c.in_ok-next.was)
