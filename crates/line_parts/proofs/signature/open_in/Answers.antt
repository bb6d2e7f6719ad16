-- `line_parts::signature::open_in` meets its contract, by the laws of Members.
use Rattle.line_parts.proofs.Members.{opening}
use Rattle.line_parts.proofs.signature.open_in.Goals as goal

pub returns-then-open-end : goal.returns-then-open-end
returns-then-open-end c = search opening

pub returns-then-start-open : goal.returns-then-start-open
returns-then-start-open c = search opening
