-- `load_texts::descriptors::put_returned` meets its contract, by the laws of Typing.
use Rattle.load_texts.proofs.Typing.{returning}
use Rattle.load_texts.proofs.descriptors.put_returned.Goals as goal

pub put_raw_type-requires : goal.put_raw_type-requires
put_raw_type-requires c = search (returning, c.in_ok-closed.was)

pub returns : goal.returns
returns c = search (returning, c.in_ok-closed.was)
