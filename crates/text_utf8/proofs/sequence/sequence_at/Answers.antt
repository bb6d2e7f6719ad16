-- `text_utf8::sequence::sequence_at` meets its contract, by the laws of Sequences.
use Rattle.text_utf8.proofs.Sequences.{sequences}
use Rattle.text_utf8.proofs.sequence.sequence_at.Goals as goal

pub returns-then-s-at : goal.returns-then-s-at
returns-then-s-at c = search sequences

pub returns-then-first-lt128 : goal.returns-then-first-lt128
returns-then-first-lt128 c = search sequences

pub returns-then-first-lt194 : goal.returns-then-first-lt194
returns-then-first-lt194 c = search sequences

pub returns-then-first-gt244 : goal.returns-then-first-gt244
returns-then-first-gt244 c = search sequences

pub tails_at-requires-clause-octets_nonzero : goal.tails_at-requires-clause-octets_nonzero
tails_at-requires-clause-octets_nonzero c = search sequences

pub tails_at-requires-clause-le_least : goal.tails_at-requires-clause-le_least
tails_at-requires-clause-le_least c = search sequences

pub returns : goal.returns
returns c = search sequences
