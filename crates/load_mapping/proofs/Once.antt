-- The line of the loading program: two outcomes that meet the contract of `line_for` are the same, the length of the line and the bytes
-- that were lent for it. Assumes nothing.
use mathlib.Core.Path.{sym, ◌∙◌}
use mathlib.Core.List.{List}
use Prim.Native.Nat.{ℕ, ◌≤◌}
use Rattle.ground.specs.Outcome.{OneOutcome}
use Rattle.ground.proofs.Outcomes.{same_pair}
use Rattle.table_pool.specs.Inner.Wrote.{Written}
use Rattle.load_report.specs.Report.{report_of}
use Rattle.load_mapping.specs.Program.{program_answer}

pub line_for_once : (input before : List ℕ) →
    OneOutcome (λ (o : ℕ × List ℕ). Written o.0 before 0 (report_of (program_answer input)) o.1 × (o.0 ≤ 256))
line_for_once input before a b p q = same_pair (p.0.past ∙ sym q.0.past) (p.0.is ∙ sym q.0.is)
