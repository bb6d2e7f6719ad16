-- `load_classes::entry::class_row` meets its contract, by the laws of Entering.
use Rattle.load_classes.proofs.Entering.{rowing}
use Rattle.load_classes.proofs.entry.class_row.Goals as goal

pub text_between-requires : goal.text_between-requires
text_between-requires c = search rowing

pub text_between-requires-2 : goal.text_between-requires-2
text_between-requires-2 c = search rowing

pub pack_class-requires : goal.pack_class-requires
pack_class-requires c = search rowing

pub returns : goal.returns
returns c = search rowing
