-- `text_utf8::sequence::second_low` meets its contract, by the laws of Leads.
use Rattle.text_utf8.proofs.Leads.{leads}
use Rattle.text_utf8.proofs.sequence.second_low.Goals as goal

pub returns-then-first-eq224 : goal.returns-then-first-eq224
returns-then-first-eq224 c = search leads

pub returns-then-first-eq240 : goal.returns-then-first-eq240
returns-then-first-eq240 c = search leads

pub returns : goal.returns
returns c = search leads
