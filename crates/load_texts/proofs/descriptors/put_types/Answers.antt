-- `load_texts::descriptors::put_types` meets its contract, by the laws of Typing.
use Rattle.load_texts.proofs.Typing.{types}
use Rattle.load_texts.proofs.descriptors.put_types.Goals as goal

pub put_returned-requires : goal.put_returned-requires
put_returned-requires c = search (types, c.in_ok-taken.was)

pub returns : goal.returns
returns c = search (types, c.in_ok-taken.was)
