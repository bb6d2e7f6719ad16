-- `load_texts::descriptors::put_opening` meets its contract, by the laws of Typing.
use Rattle.load_texts.proofs.Typing.{opening}
use Rattle.load_texts.proofs.descriptors.put_opening.Goals as goal

pub put_arguments-requires : goal.put_arguments-requires
put_arguments-requires c = search (opening, c.in_ok-opened.was)

pub returns : goal.returns
returns c = search (opening, c.in_ok-opened.was)
