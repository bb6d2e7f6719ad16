use Rattle.name_members.proofs.Matching.{members_scanned}
use Rattle.name_members.proofs.rows.last_sought.Goals as goal

pub loop-end-init : goal.loop-end-init
loop-end-init c = search members_scanned

pub returns-then-is_answer : goal.returns-then-is_answer
returns-then-is_answer c = search members_scanned

pub loop-end-preserved : goal.loop-end-preserved
loop-end-preserved c = search members_scanned
