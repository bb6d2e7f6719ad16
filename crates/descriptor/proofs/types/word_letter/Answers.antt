-- `descriptor::types::word_letter` meets its contract, by the laws of Typing.
use Rattle.descriptor.proofs.Typing.{words}
use Rattle.descriptor.proofs.types.word_letter.Goals as goal

pub returns-then-same_bytes : goal.returns-then-same_bytes
returns-then-same_bytes c = search words

pub returns-then-same_bytes-2 : goal.returns-then-same_bytes-2
returns-then-same_bytes-2 c = search words

pub returns-then-same_bytes-3 : goal.returns-then-same_bytes-3
returns-then-same_bytes-3 c = search words

pub returns-then-same_bytes-4 : goal.returns-then-same_bytes-4
returns-then-same_bytes-4 c = search words

pub returns-then-same_bytes-5 : goal.returns-then-same_bytes-5
returns-then-same_bytes-5 c = search words

pub returns-then-same_bytes-6 : goal.returns-then-same_bytes-6
returns-then-same_bytes-6 c = search words

pub returns-then-same_bytes-7 : goal.returns-then-same_bytes-7
returns-then-same_bytes-7 c = search words

pub returns-then-same_bytes-8 : goal.returns-then-same_bytes-8
returns-then-same_bytes-8 c = search words

pub returns-then-same_bytes-9 : goal.returns-then-same_bytes-9
returns-then-same_bytes-9 c = search words

pub returns : goal.returns
returns c = search words
