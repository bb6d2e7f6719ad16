-- One line. Assumes nothing.
use Rattle.std.specs.Prelude.{Option, Some, Err}
use mathlib.Core.Path.{◌≡◌, refl, sym, ◌∙◌, ap}
use mathlib.Core.Bool.{Bool, true, false, not}
use mathlib.Core.List.{List, [], ◌∷◌}
use Prim.Native.Nat.{ℕ, ◌+◌, ◌≤◌}
use native.Mathlib.Omega.{arith}
use lib.Dec.{eqb}
use lib.ListN.{length, drop}
use mir.Val.{Fits}
use mir.Syntax.{w32}
use borrow.Author.Tests.{eq-eqb, ne_eqb, eqb-true, eqb-false, not-true, not-false}
use borrow.Author.Rules.{rules}
use Rattle.ground.specs.Choice.{pick}
use Rattle.ground.specs.Put.{between}
use Rattle.text_places.specs.Lines.{lines, Taken}
use Rattle.text_places.specs.Inner.NextLine.{next_line, taken_line}
use Rattle.text_places.proofs.Taking.{line_taken, none_taken, line_order, line_ends}
use Rattle.line.specs.declared.line.Line as line
use Rattle.line.specs.declared.line.Line.TheVariants as kinds
use Rattle.line.specs.Kinds.{line_of}
use Rattle.load_rule.specs.declared.Fate.{Fate}
use Rattle.load_rule.specs.declared.Fates.{Fates}
use Rattle.load_rule.specs.Fates.{fate_of, member_after, fault_of, fates_from, faults_from, fault_at}
use Rattle.load_rule.specs.Loading.{most_text}
use Rattle.load_scan.specs.declared.step.LineStep.{LineStep}
use Rattle.load_scan.specs.declared.step.Step.{Step}
use Rattle.load_scan.specs.declared.step.Step.TheVariants as steps
use Rattle.load_scan.specs.Inner.Bounds.{Within}
use Rattle.load_scan.specs.Inner.Steps.{is_entered, scan_on, line_step, step_of, StepLine, StepPassed, StepFault, StepBy}
use Rattle.text_places.specs.declared.lines.NextLine.{NextLine}

pub within_more : (f : Fates) (a n : ℕ) → Within f a → a ≤ n → Within f n
within_more f a n v h = record {
  lines = omega (arith, v.lines);
  blank = v.blank;
  applied = v.applied;
  idle = v.idle;
  class = v.class;
  field = v.field;
  method = v.method;
  short = v.short;
}

pub scan_fault : (f : Fates) (member : Bool) (l : List ℕ) (ls : List (List ℕ)) → (fault_of f.class (line_of l) ≡ 0 → ⊥) →
    scan_on f member (l ∷ ls) ≡ Err (fault_at (fault_of f.class (line_of l)) (f.lines + 1))
unfolding fates_from faults_from
scan_fault f member l ls n = rw (ne_eqb (fault_of f.class (line_of l)) 0 n)

-- A blank line or a comment leaves the last member as it is.
pub passed_stays : (member : Bool) (k : line.Line) → is_entered k ≡ false → member_after member k ≡ member
passed_stays member kinds.Blank e = refl
passed_stays member (kinds.Comment b) e = refl
passed_stays member (kinds.Class d r) e = absurd (let z : ◌≡◌ {A = ℕ} 0 1 = cc in omega arith)
passed_stays member (kinds.Field d n r) e = absurd (let z : ◌≡◌ {A = ℕ} 0 1 = cc in omega arith)
passed_stays member (kinds.Method m r) e = absurd (let z : ◌≡◌ {A = ℕ} 0 1 = cc in omega arith)
passed_stays member (kinds.Refused r) e = refl

-- One line more can be counted.
module _ (s : List ℕ) {at : ℕ} {f : Fates} where
  pub step_fits : length s ≤ most_text → at ≤ length s → Within f at → Fits w32 (f.lines + 1)
  step_fits h i w = let l = w.lines in omega arith

  pub step_bounds : length s ≤ most_text → at ≤ length s → Within f at → Within f most_text
  step_bounds h i w = within_more f at most_text w (omega arith)

-- The step of a line, by its bytes and its place.
module _ (l : List ℕ) {kind : line.Line} (r : kind ≡ line_of l) where
  pub step_kind : line_of l ≡ kind
  step_kind = sym r

  module _ (a e n classes : ℕ) (member : Bool) {number : ℕ} (x : number ≡ fault_of classes kind) where
    told : number ≡ fault_of classes (line_of l)
    told = x ∙ ap (fault_of classes) r

    pub step_fault : (number ≡ 0 → ⊥) → steps.Faulty number ≡ step_of l a e n classes member
    step_fault z = rw (← told, ne_eqb number 0 z)

    module _ (z : number ≡ 0) {k : Fate} (y : k ≡ fate_of member l kind) {c : Bool} (w : c ≡ is_entered kind) where
      pub step_passed : not c ≡ true → steps.Passed n k ≡ step_of l a e n classes member
      step_passed h = rw (← told, eq-eqb number 0 z, ← r, ← w, not-true c h, y)

      pub step_line : not c ≡ false → {has : Bool} → has ≡ member_after member kind →
          steps.Line (record { start = a; «end» = e; next = n; kind = kind; fate = k; has_member = has }) ≡ step_of l a e n classes member
      step_line h v = rw (← told, eq-eqb number 0 z, ← r, ← w, not-false c h, y, v)

pub ruleset stepping = (step_kind, step_fault, step_passed, step_line, rules)

-- The step of the line at a place of a text.
module _ (s : List ℕ) (at classes : ℕ) (member : Bool) {a e n : ℕ} (t : Taken s at a e n) where
  fault_there : (fault_of classes (line_of (between s a e)) ≡ 0 → ⊥) → StepFault s at classes member (fault_of classes (line_of (between s a e)))
  fault_there z f g =
      let same : fault_of f.class (line_of (between s a e)) ≡ fault_of classes (line_of (between s a e)) = ap (λ y. fault_of y (line_of (between s a e))) g in
      ap (scan_on f member) t.split ∙ scan_fault f member (between s a e) (lines (drop n s)) (λ y. z (sym same ∙ y))
      ∙ ap (λ y. Err (fault_at y (f.lines + 1))) same

  line_there : fault_of classes (line_of (between s a e)) ≡ 0 → StepLine s at classes member (line_step (between s a e) a e n member)
  line_there z = record { taken = t; is = refl; clean = z; fate = refl; after = refl }

  pub passed_there : fault_of classes (line_of (between s a e)) ≡ 0 → is_entered (line_of (between s a e)) ≡ false →
      StepPassed s at classes member n (fate_of member (between s a e) (line_of (between s a e)))
  passed_there z i = record {
    line = line_step (between s a e) a e n member;
    told = line_there z;
    passed = i;
    stays = passed_stays member (line_of (between s a e)) i;
    starts = refl;
    is = refl;
  }

  step_there : StepBy (step_of (between s a e) a e n classes member) s at classes member
  step_there = go (eqb (fault_of classes (line_of (between s a e))) 0) refl (is_entered (line_of (between s a e))) refl
    where
      go : (b : Bool) → eqb (fault_of classes (line_of (between s a e))) 0 ≡ b → (c : Bool) → is_entered (line_of (between s a e)) ≡ c →
          StepBy (pick b (pick c (steps.Line (line_step (between s a e) a e n member)) (steps.Passed n (fate_of member (between s a e) (line_of (between s a e)))))
          (steps.Faulty (fault_of classes (line_of (between s a e))))) s at classes member
      go true z true i = line_there (eqb-true (fault_of classes (line_of (between s a e))) 0 z)
      go true z false i = passed_there (eqb-true (fault_of classes (line_of (between s a e))) 0 z) i
      go false z c i = fault_there (eqb-false (fault_of classes (line_of (between s a e))) 0 z)

module _ (s : List ℕ) (at classes : ℕ) (member : Bool) {t : Option NextLine} (b : t ≡ next_line s at) where
  pub step_next : {x : NextLine} → t ≡ Some x → (r : Step) → r ≡ step_of (between s x.start x.«end») x.start x.«end» x.next classes member → StepBy r s at classes member
  step_next q r w = rw w (step_there s at classes member (line_taken s at b q))

pub ruleset next_stepping = (none_taken, line_order, line_ends, step_next, rules)

-- What it said.
module _ (s : List ℕ) (at classes : ℕ) (member : Bool) where
  pub step_told : (r : Step) → StepBy r s at classes member → {x : LineStep} → r ≡ steps.Line x → StepLine s at classes member x
  step_told r w q = rw q at w

  pub passed_told : (r : Step) → StepBy r s at classes member → {n : ℕ} {k : Fate} → r ≡ steps.Passed n k → StepPassed s at classes member n k
  passed_told r w q = rw q at w

  pub step_ended : (r : Step) → StepBy r s at classes member → r ≡ steps.End → lines (drop at s) ≡ []
  step_ended r w q = rw q at w

  pub step_faulty : (r : Step) → StepBy r s at classes member → {number : ℕ} → r ≡ steps.Faulty number → StepFault s at classes member number
  step_faulty r w q = rw q at w
