-- `text_utf8::sequence::first_bits` meets its contract, by the laws of Leads.
use Rattle.text_utf8.proofs.Leads.{leads}
use Rattle.text_utf8.proofs.sequence.first_bits.Goals as goal

pub returns-then-first-lt224 : goal.returns-then-first-lt224
returns-then-first-lt224 c = search leads

pub returns : goal.returns
returns c = search leads
