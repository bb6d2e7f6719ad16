use Rattle.table_index.proofs.Spelling.{sameness, alike_more}
use Rattle.table_index.proofs.forms.is_piece.Goals as goal

pub returns-then-text-lt2 : goal.returns-then-text-lt2
returns-then-text-lt2 c = search sameness

pub returns-then-text-name : goal.returns-then-text-name
returns-then-text-name c = search sameness

pub returns-then-text-k : goal.returns-then-text-k
returns-then-text-k c = search sameness

pub returns-then-text-ne76 : goal.returns-then-text-ne76
returns-then-text-ne76 c = search sameness

pub returns-then-text-last-ne59 : goal.returns-then-text-last-ne59
returns-then-text-last-ne59 c = search sameness

pub returns : goal.returns
returns c = search sameness
