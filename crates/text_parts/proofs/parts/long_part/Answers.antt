-- `text_parts::parts::long_part` meets its contract, by the laws of Parting.
use Rattle.text_parts.proofs.Parting.{long_parts}
use Rattle.text_parts.proofs.parts.long_part.Goals as goal

pub returns-then-tails-ge4 : goal.returns-then-tails-ge4
returns-then-tails-ge4 c = search long_parts

pub returns-then-not-is_utf8 : goal.returns-then-not-is_utf8
returns-then-not-is_utf8 c = search long_parts

pub ends_well-requires : goal.ends_well-requires
ends_well-requires c = search long_parts

pub returns : goal.returns
returns c = search long_parts
