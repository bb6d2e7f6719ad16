-- `name_members::rows::last_sought` meets its contract, by the laws of Matching and an invariant that says what is done and what is left.
use Rattle.ground.specs.Look.{known}
use Rattle.tables.specs.Back.{read_back}
use Rattle.tables.proofs.Searching.{Scanning}
use Rattle.name_rule.specs.Mappings.{entry_back}
use Rattle.name_rule.specs.MemberNames.{key}
use Rattle.name_members.specs.Inner.Sought.{answers_by}
use Rattle.name_members.proofs.rows.last_sought.Given as goal

abbrev pub invariant-loop-end : goal.invariant-loop-end
invariant-loop-end l = Scanning (λ row. answers_by l.sought (known l.display) (read_back l.classes l.pool) (key l.owner l.name l.descriptor) (entry_back l.pool row)) l.members l.end

abbrev pub decreases-loop-end : goal.decreases-loop-end
decreases-loop-end l = l.end
