use Rattle.table_index.proofs.Spelling.{piecing}
use Rattle.table_index.proofs.forms.compare_piece.Goals as goal

pub returns-then-piece_ends : goal.returns-then-piece_ends
returns-then-piece_ends c = search piecing

pub returns-then-text-i : goal.returns-then-text-i
returns-then-text-i c = search piecing

pub returns-then-byte-text : goal.returns-then-byte-text
returns-then-byte-text c = search piecing

pub loop-i-preserved : goal.loop-i-preserved
loop-i-preserved c = search piecing

pub returns-then-piece_ends-2 : goal.returns-then-piece_ends-2
returns-then-piece_ends-2 c = search piecing

pub returns : goal.returns
returns c = search piecing
