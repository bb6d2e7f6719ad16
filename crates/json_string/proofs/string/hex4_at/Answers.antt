-- `json_string::string::hex4_at` meets its contract, by the laws of Hex.
use Rattle.json_string.proofs.Hex.{hex_four}
use Rattle.json_string.proofs.string.hex4_at.Goals as goal

pub returns-then-s-at-lt4 : goal.returns-then-s-at-lt4
returns-then-s-at-lt4 c = search hex_four

pub hex_value-requires : goal.hex_value-requires
hex_value-requires c = search hex_four

pub returns : goal.returns
returns c = search hex_four
