-- `load_mapping::answer::line_for` meets its contract, by the laws of Programming.
use Prim.Native.Nat.{ℕ}
use mathlib.Core.List.{List}
use lib.ListN.{replicate}
use Rattle.load_mapping.proofs.Programming.{program_long, program_loads}
use lib.ListN.{length-replicate}
use Rattle.load_mapping.proofs.answer.line_for.Goals as goal

pub returns-then-input-gt65536 : goal.returns-then-input-gt65536
returns-then-input-gt65536 c = (program_long c.args.input.now c.if-input-gt65536.true c.report_line.ensures.0, c.report_line.ensures.1)

pub returns : goal.returns
returns c = (program_loads c.args.input.now c.if-input-gt65536.false c.parse-load.ensures.0 (length-replicate {A = List ℕ} 1024 (replicate 4 0)) (length-replicate {A = List ℕ} 1024 (replicate 15 0)) (length-replicate {A = ℕ} 65536 0) c.report_line-2.ensures.0, c.report_line-2.ensures.1)
