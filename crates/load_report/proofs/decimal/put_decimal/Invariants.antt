-- `load_report::decimal::put_decimal` meets its contract, by the laws of Spelling and an invariant that says what is done and what is left.
use Rattle.load_report.proofs.Spelling.{Spelling}
use Rattle.load_report.proofs.decimal.put_decimal.Given as goal

abbrev pub invariant-loop-rest : goal.invariant-loop-rest
invariant-loop-rest l = Spelling l.n l.digits l.first l.rest

abbrev pub decreases-loop-rest : goal.decreases-loop-rest
decreases-loop-rest l = l.rest
