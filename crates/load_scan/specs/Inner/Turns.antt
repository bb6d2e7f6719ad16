-- What one line more makes of what became of the lines before it.
use Rattle.std.specs.Prelude.{List, ℕ, ◌+◌, eqb, Result, Ok, Err, Bool}
use Rattle.ground.specs.Choice.{pick}
use Rattle.line.specs.Kinds.{line_of}
use Rattle.load_rule.specs.Fates.{plus, one, fate_of, member_after, fault_of, fault_at}
use Rattle.load_rule.specs.Loading.{most_text}
use Rattle.load_scan.specs.Inner.Bounds.{Within}
use Rattle.load_rule.specs.declared.Fault.{Fault}
use Rattle.load_rule.specs.declared.Fates.{Fates}
use Rattle.load_scan.specs.declared.scan.SoFar.{SoFar}

abbrev pub so_far : Fates → Bool → SoFar
so_far fates has_member = record { fates = fates; has_member = has_member }

-- one line more can be counted
abbrev pub Countable : Result SoFar Fault → Type 0
Countable (Ok r) = Within r.fates most_text
Countable (Err r) = Unit {0}

-- what became of the lines so far and of a line with the bytes `l` after them: behind a faulty line nothing changes
abbrev pub with_line : Result SoFar Fault → List ℕ → Result SoFar Fault
with_line (Ok r) l =
    let kind = line_of l in
    let number = fault_of r.fates.class kind in
    pick (eqb number 0) (Ok (so_far (plus r.fates (one (fate_of r.has_member l kind))) (member_after r.has_member kind))) (Err (fault_at number (r.fates.lines + 1)))
with_line (Err r) l = Err (fault_at r.number r.line)

-- the answer where no line is left
abbrev pub scan_so_far : Result SoFar Fault → Result Fates Fault
scan_so_far (Ok r) = Ok r.fates
scan_so_far (Err r) = Err (fault_at r.number r.line)
