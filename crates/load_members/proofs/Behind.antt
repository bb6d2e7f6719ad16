-- Blank lines and comments that were read with the line before them. Assumes nothing.
use Rattle.std.specs.Prelude.{Option, Result, Ok}
use mathlib.Core.Path.{◌≡◌, refl, sym, ◌∙◌, ap}
use mathlib.Core.Bool.{Bool, false}
use mathlib.Core.List.{List}
use Prim.Native.Nat.{ℕ, ◌+◌, ◌-◌, ◌≤◌, ◌<◌}
use native.Mathlib.Nat.{add-zero}
use native.Mathlib.Omega.{arith}
use lib.ListN.{length, drop, length-drop}
use mir.Val.{Fits}
use mir.Syntax.{w64}
use borrow.Author.Rules.{rules}
use Rattle.ground.specs.Choice.{both}
use Rattle.ground.specs.Put.{between}
use Rattle.ground.specs.Look.{is_known}
use Rattle.ground.proofs.Parts.{take_rest}
use Rattle.text_places.specs.Lines.{Taken}
use Rattle.line.specs.declared.line.Line as line
use Rattle.line.specs.declared.line.Line.TheVariants as kinds
use Rattle.line.specs.Kinds.{line_of}
use Rattle.load_rule.specs.declared.Fate.{Fate}
use Rattle.load_rule.specs.declared.Fate.TheVariants as fate
use Rattle.load_rule.specs.declared.Fates.{Fates}
use Rattle.load_rule.specs.Comments.{signature_at}
use Rattle.load_rule.specs.Loading.{most_text}
use Rattle.load_rule.specs.Fates.{plus, one, comment_fate, fate_of, fault_of}
use Rattle.load_rule.proofs.Tally.{plus_none, plus_plus}
use Rattle.load_residual.specs.declared.residual.Passed.{Passed}
use Rattle.load_residual.specs.declared.residual.Looked.{Looked}
use Rattle.load_residual.specs.Inner.Passes.{passed_of, Passes, none, blank, applied, idle, Looks}
use Rattle.load_residual.proofs.Passing.{passes_inside, passes_few, part_there, taken_there}
use Rattle.load_scan.specs.declared.step.LineStep.{LineStep}
use Rattle.load_scan.specs.declared.step.Step.{Step}
use Rattle.load_scan.specs.declared.step.Step.TheVariants as steps
use Rattle.load_scan.specs.Inner.Steps.{is_entered, StepPassed, StepBy}
use Rattle.load_scan.proofs.Stepping.{step_fits, step_bounds, passed_there}
use Rattle.load_members.specs.declared.enter.Slot.{Slot}
use Rattle.load_members.specs.Inner.Passed.{passed_fates}
use Rattle.load_members.specs.Inner.Roles.{role_of}
use Rattle.load_members.specs.Inner.Enters.{Behind, EnterBy}
use Rattle.load_members.proofs.Filling.{Filling, filling_starts, filling_ends, filling_none, filling_fault, filling_text, filling_inside_text, filling_counted}
use Rattle.load_members.proofs.Adding.{filling_rest, filling_falls, filling_passed, filling_passes, filling_within, filling_room, filling_ready, filling_entered, filling_over}
use Rattle.table_pool.specs.declared.write.NoRoom.{NoRoom}

pub passed_counted : (f : Fates) (k : Passed) →
    record {
      lines = f.lines + (k.blank + k.applied + k.idle);
      blank = f.blank + k.blank;
      applied = f.applied + k.applied;
      idle = f.idle + k.idle;
      class = f.class;
      field = f.field;
      method = f.method;
      short = f.short;
    }
    ≡ plus f (passed_fates k)
passed_counted f k = simp add-zero

pub ruleset counting_passed = (passed_counted, rules)

-- Each is counted by its fate.
blank_more : (f : Fates) (k : Passed) (n : ℕ) → plus f (passed_fates (passed_of n (k.blank + 1) k.applied k.idle)) ≡ plus (plus f (passed_fates k)) (one fate.Blank)
blank_more f k n =
    let e : k.blank + 1 + k.applied + k.idle ≡ k.blank + k.applied + k.idle + 1 = omega arith in
    rw (plus_plus f (passed_fates k) (one fate.Blank), e) (simp add-zero)

applied_more : (f : Fates) (k : Passed) (n : ℕ) → plus f (passed_fates (passed_of n k.blank (k.applied + 1) k.idle)) ≡ plus (plus f (passed_fates k)) (one fate.Applied)
applied_more f k n =
    let e : k.blank + (k.applied + 1) + k.idle ≡ k.blank + k.applied + k.idle + 1 = omega arith in
    rw (plus_plus f (passed_fates k) (one fate.Applied), e) (simp add-zero)

idle_more : (f : Fates) (k : Passed) (n : ℕ) → plus f (passed_fates (passed_of n k.blank k.applied (k.idle + 1))) ≡ plus (plus f (passed_fates k)) (one fate.Idle)
idle_more f k n =
    let e : k.blank + k.applied + (k.idle + 1) ≡ k.blank + k.applied + k.idle + 1 = omega arith in
    rw (plus_plus f (passed_fates k) (one fate.Idle), e) (simp add-zero)

-- A line behind the place `n` that is a blank one or a comment is passed, with its fate.
module _ (s : List ℕ) (n : ℕ) (h : n ≤ length s) (classes : ℕ) (member : Bool) {at a e m : ℕ} (t : Taken (drop n s) at a e m) where
  passed_as : (k : line.Line) {v : Fate} → line_of (between (drop n s) a e) ≡ k → fault_of classes k ≡ 0 → is_entered k ≡ false →
      fate_of member (between (drop n s) a e) k ≡ v → StepPassed s (n + at) classes member (n + m) v
  passed_as k l z i f =
      let is : line_of (between s (n + a) (n + e)) ≡ k = ap line_of (sym (part_there s n a e)) ∙ l in
      let told = ap (fate_of member (between s (n + a) (n + e))) is ∙ ap (λ b. fate_of member b k) (sym (part_there s n a e)) ∙ f in
      rw told at (passed_there s (n + at) classes member (taken_there s n h t) (ap (fault_of classes) is ∙ z) (ap is_entered is ∙ i))

  blank_passed : line_of (between (drop n s) a e) ≡ kinds.Blank → StepPassed s (n + at) classes member (n + m) fate.Blank
  blank_passed l = passed_as kinds.Blank l refl refl refl

  comment_passed : {brace : Option ℕ} {b : Bool} → line_of (between (drop n s) a e) ≡ kinds.Comment brace →
      both member (is_known (signature_at (between (drop n s) a e) brace)) ≡ b → StepPassed s (n + at) classes member (n + m) (comment_fate b)
  comment_passed {brace} l g = passed_as (kinds.Comment brace) l refl refl (ap comment_fate g)

-- All that were passed.
module _ {s : List ℕ} {rows : List (List ℕ)} {index : List ℕ} {used : ℕ} {m₀ : List (List ℕ)} {p₀ : List ℕ}
    {at : ℕ} {t : Slot} {member : Bool} {f : Fates} {m : List (List ℕ)} {p : List ℕ}
    (i : Filling s rows index used m₀ p₀ at t member f m p) where
  none_read : Filling s rows index used m₀ p₀ (at + 0) t member (plus f (passed_fates (passed_of 0 0 0 0))) m p
  none_read = rw (add-zero at, plus_none f) i

  all_read_lem : (k : Passed) → Passes member (drop at s) k → Filling s rows index used m₀ p₀ (at + k.bytes) t member (plus f (passed_fates k)) m p
  all_read_lem k none = none_read
  all_read_lem k (blank j a e n w c l) =
      filling_passed (all_read_lem j w) (steps.Passed (at + n) fate.Blank) (blank_passed s at i.scanning.inside (plus f (passed_fates j)).class member c l) refl (blank_more f j n)
  all_read_lem k (applied j a e n brace w c l g) =
      filling_passed (all_read_lem j w) (steps.Passed (at + n) fate.Applied) (comment_passed s at i.scanning.inside (plus f (passed_fates j)).class member c l g) refl
      (applied_more f j n)
  all_read_lem k (idle j a e n brace w c l g) =
      filling_passed (all_read_lem j w) (steps.Passed (at + n) fate.Idle) (comment_passed s at i.scanning.inside (plus f (passed_fates j)).class member c l g) refl
      (idle_more f j n)

module _ {s : List ℕ} {rows : List (List ℕ)} {index : List ℕ} {used : ℕ} {m₀ : List (List ℕ)} {p₀ : List ℕ}
    {at : ℕ} {t : Slot} {member : Bool} {f : Fates} {m : List (List ℕ)} {p : List ℕ}
    (k : Filling s rows index used m₀ p₀ at t member f m p) (r : Step) (x : StepBy r s at f.class member) {y : LineStep} (q : r ≡ steps.Line y) where
  pub filling_after : length (between s y.next (length s)) ≤ most_text
  filling_after = let n = ap length (take_rest s y.next) ∙ length-drop y.next s in let h = k.short in omega arith

  module _ {n : Looked} (l : Looks y.has_member (between s y.next (length s)) n) where
    pub filling_given : Behind s y n.residual
    filling_given = record { gives = rw (take_rest s y.next) at l.gives }

    passes : Passes y.has_member (drop y.next s) n.passed
    passes = rw (take_rest s y.next) at l.passes

    past : (y.next + n.passed.bytes) ≤ length s
    past =
        let z = filling_rest k r x q in
        let i = passes_inside y.has_member (drop y.next s) n.passed passes in
        let d = length-drop y.next s in
        omega arith

    pub filling_few : n.passed.blank + n.passed.applied + n.passed.idle ≤ most_text
    filling_few =
        let i = passes_few y.has_member (drop y.next s) n.passed passes in
        let a = k.short in
        let b = past in
        omega arith

    pub filling_behind : Fits w64 (y.next + n.passed.bytes)
    filling_behind = let a = k.short in let b = past in omega arith

    pub filling_skips : at < length s → length s - (y.next + n.passed.bytes) < length s - at
    filling_skips i = let z = filling_falls k r x q i in let b = past in omega arith

    pub filling_read : {g : Fates} → g ≡ plus f (one y.fate) → (o : Result Slot NoRoom) (m₁ : List (List ℕ)) (p₁ : List ℕ) → EnterBy (role_of y.kind) o s rows y t m p m₁ p₁ →
        {t₁ : Slot} → o ≡ Ok t₁ → {v : Fates} → v ≡ plus g (passed_fates n.passed) →
        Filling s rows index used m₀ p₀ (y.next + n.passed.bytes) t₁ y.has_member v m₁ p₁
    filling_read sum o m₁ p₁ w e i = rw i (all_read_lem (filling_entered k r x q sum o m₁ p₁ w e) n.passed passes)

pub ruleset filling = (
  step_fits,
  step_bounds,
  filling_starts,
  filling_ends,
  filling_none,
  filling_fault,
  filling_text,
  filling_inside_text,
  filling_counted,
  filling_rest,
  filling_falls,
  filling_passed,
  filling_passes,
  filling_within,
  filling_room,
  filling_ready,
  filling_after,
  filling_given,
  filling_few,
  filling_behind,
  filling_over,
  rules,
)
