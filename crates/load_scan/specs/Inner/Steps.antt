-- What reading one line says.
use Rattle.std.specs.Prelude.{◌≡◌, Bool, true, false, List, [], ℕ, ◌+◌, eqb, drop, Result, Err}
use Rattle.ground.specs.Choice.{pick}
use Rattle.ground.specs.Put.{between}
use Rattle.text_places.specs.Lines.{lines, Taken}
use Rattle.line.specs.declared.line.Line.{Line}
use Rattle.line.specs.declared.line.Line.TheVariants as kinds
use Rattle.line.specs.Kinds.{line_of}
use Rattle.load_rule.specs.declared.Fate.{Fate}
use Rattle.load_rule.specs.declared.Fates.{Fates}
use Rattle.load_rule.specs.Fates.{plus, fate_of, member_after, fault_of, fates_from, faults_from, fault_at}
use Rattle.load_scan.specs.declared.step.LineStep.{LineStep}
use Rattle.load_scan.specs.declared.step.Step.{Step}
use Rattle.load_scan.specs.declared.step.Step.TheVariants as steps
use Rattle.load_rule.specs.declared.Fault.{Fault}

-- the answer for lines `ls`, where `f` is what became of those before them
abbrev pub scan_on : Fates → Bool → List (List ℕ) → Result Fates Fault
scan_on f member ls = faults_from (plus f (fates_from member ls)) (f.lines + 1) f.class ls

-- the bytes of a line
abbrev pub bytes_of : List ℕ → LineStep → List ℕ
bytes_of s x = between s x.start x.«end»

-- `x` is the line at the place `at`, after `classes` class lines, and has no fault
pub record StepLine (s : List ℕ) (at classes : ℕ) (member : Bool) (x : LineStep) : Type 0 where
  pub taken : Taken s at x.start x.«end» x.next
  pub is : x.kind ≡ line_of (bytes_of s x)
  pub clean : fault_of classes (line_of (bytes_of s x)) ≡ 0
  pub fate : x.fate ≡ fate_of member (bytes_of s x) (line_of (bytes_of s x))
  pub after : x.has_member ≡ member_after member (line_of (bytes_of s x))

-- a class line or a member line
abbrev pub is_entered : Line → Bool
is_entered kinds.Blank = false
is_entered (kinds.Comment brace) = false
is_entered (kinds.Class display raw) = true
is_entered (kinds.Field declared name raw) = true
is_entered (kinds.Method m raw) = true
is_entered (kinds.Refused r) = false

-- the line at the place `at` is neither, has no fault, and has that fate
pub record StepPassed (s : List ℕ) (at classes : ℕ) (member : Bool) (next : ℕ) (fate : Fate) : Type 0 where
  pub line : LineStep
  pub told : StepLine s at classes member line
  pub passed : is_entered line.kind ≡ false
  pub stays : line.has_member ≡ member
  pub starts : next ≡ line.next
  pub is : fate ≡ line.fate

-- the line at the place `at` is faulty, whatever became of the lines before it
abbrev pub StepFault : List ℕ → ℕ → ℕ → Bool → ℕ → Type 0
StepFault s at classes member number =
    (f : Fates) → f.class ≡ classes → scan_on f member (lines (drop at s)) ≡ Err (fault_at number (f.lines + 1))

abbrev pub StepBy : Step → List ℕ → ℕ → ℕ → Bool → Type 0
StepBy steps.End s at classes member = lines (drop at s) ≡ []
StepBy (steps.Faulty number) s at classes member = StepFault s at classes member number
StepBy (steps.Passed next fate) s at classes member = StepPassed s at classes member next fate
StepBy (steps.Line x) s at classes member = StepLine s at classes member x

-- a line with the bytes `l` that stands from `a` to `e`, where the next one starts at `n`
abbrev pub line_step : List ℕ → ℕ → ℕ → ℕ → Bool → LineStep
line_step l a e n member =
    record { start = a; «end» = e; next = n; kind = line_of l; fate = fate_of member l (line_of l); has_member = member_after member (line_of l) }

-- its step, after `classes` class lines
abbrev pub step_of : List ℕ → ℕ → ℕ → ℕ → ℕ → Bool → Step
step_of l a e n classes member =
    let number = fault_of classes (line_of l) in
    let passed = steps.Passed n (fate_of member l (line_of l)) in
    pick (eqb number 0) (pick (is_entered (line_of l)) (steps.Line (line_step l a e n member)) passed) (steps.Faulty number)
