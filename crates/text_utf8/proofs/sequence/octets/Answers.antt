-- `text_utf8::sequence::octets` meets its contract, by the laws of Leads.
use Rattle.text_utf8.proofs.Leads.{leads}
use Rattle.text_utf8.proofs.sequence.octets.Goals as goal

pub returns : goal.returns
returns c = search leads
