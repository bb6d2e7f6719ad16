-- The table of the code is the table of the rule, and in order.
use Rattle.text_white.specs.White.{is_white, white_ranges}
use Rattle.text_white.proofs.Ranges.{white_rising}
use Rattle.text_white.proofs.white.is_white.Goals as goal

pub in_ranges-requires : goal.in_ranges-requires
unfolding white_ranges
in_ranges-requires c = white_rising

pub returns : goal.returns
unfolding is_white white_ranges
returns c = c.in_ranges.ensures
