-- `text_utf8::sequence::second_high` meets its contract, by the laws of Leads.
use Rattle.text_utf8.proofs.Leads.{leads}
use Rattle.text_utf8.proofs.sequence.second_high.Goals as goal

pub returns-then-first-eq237 : goal.returns-then-first-eq237
returns-then-first-eq237 c = search leads

pub returns-then-first-eq244 : goal.returns-then-first-eq244
returns-then-first-eq244 c = search leads

pub returns : goal.returns
returns c = search leads
