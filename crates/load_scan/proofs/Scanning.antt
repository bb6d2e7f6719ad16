-- All lines, one after the other. Assumes nothing.
use Rattle.std.specs.Prelude.{Ok}
use mathlib.Core.Path.{◌≡◌, sym, ◌∙◌, ap}
use mathlib.Core.Bool.{Bool}
use mathlib.Core.List.{List, [], ◌∷◌}
use Prim.Native.Nat.{ℕ, ◌+◌, ◌≤◌}
use native.Mathlib.Numerals.{add-one}
use native.Mathlib.Omega.{arith}
use lib.ListN.{length, drop}
use Rattle.text_places.specs.Lines.{lines}
use Rattle.line.specs.Kinds.{line_of}
use Rattle.load_rule.specs.declared.Fate.{Fate}
use Rattle.load_rule.specs.declared.Fate.TheVariants as fate
use Rattle.load_rule.specs.declared.Fates.{Fates}
use Rattle.load_rule.specs.Fates.{plus, one, fate_of, member_after, fates_from, fault_of, faults_from}
use Rattle.load_rule.proofs.Tally.{plus_none, plus_plus, fate_class}
use Rattle.load_scan.specs.declared.step.LineStep.{LineStep}
use Rattle.load_scan.specs.Inner.Bounds.{Within}
use Rattle.load_scan.specs.Inner.Steps.{scan_on, bytes_of, StepLine}

-- Bounds of one line's fate.
within_one : {b a i c f m s : ℕ} → b + a + i + c + f + m ≤ 1 → s ≤ m →
    Within (record { lines = 1; blank = b; applied = a; idle = i; class = c; field = f; method = m; short = s }) 1
within_one h k = record {
  lines = omega arith;
  blank = omega arith;
  applied = omega arith;
  idle = omega arith;
  class = omega arith;
  field = omega arith;
  method = omega arith;
  short = omega arith;
}

pub one_within : (k : Fate) → Within (one k) 1
one_within fate.Blank = within_one (omega arith) (omega arith)
one_within fate.Applied = within_one (omega arith) (omega arith)
one_within fate.Idle = within_one (omega arith) (omega arith)
one_within fate.Class = within_one (omega arith) (omega arith)
one_within fate.Field = within_one (omega arith) (omega arith)
one_within fate.Method = within_one (omega arith) (omega arith)
one_within fate.Short = within_one (omega arith) (omega arith)
one_within fate.Faulty = within_one (omega arith) (omega arith)

pub plus_within : (f g : Fates) (a n : ℕ) → Within f a → Within g 1 → a + 1 ≤ n → Within (plus f g) n
plus_within f g a n v w h = record {
  lines = omega (arith, v.lines, w.lines);
  blank = omega (arith, v.blank, w.blank);
  applied = omega (arith, v.applied, w.applied);
  idle = omega (arith, v.idle, w.idle);
  class = omega (arith, v.class, w.class);
  field = omega (arith, v.field, w.field);
  method = omega (arith, v.method, w.method);
  short = omega (arith, v.short, w.short);
}

-- One line more.
pub scan_line : (f : Fates) (member : Bool) (l : List ℕ) (ls : List (List ℕ)) → fault_of f.class (line_of l) ≡ 0 →
    scan_on f member (l ∷ ls) ≡ scan_on (plus f (one (fate_of member l (line_of l)))) (member_after member (line_of l)) ls
unfolding fates_from faults_from
scan_line f member l ls e =
    rw (e, plus_plus f (one (fate_of member l (line_of l))) (fates_from (member_after member (line_of l)) ls), ← fate_class member l (line_of l), add-one (f.lines + 1))

pub scan_end : (f : Fates) (member : Bool) → scan_on f member [] ≡ Ok f
unfolding fates_from faults_from
scan_end f member = ap Ok (plus_none f)

-- what is counted up to the place `at`, where the rest decides as the whole does
pub record Scanning (s : List ℕ) («from» : ℕ) (before : Fates) (has : Bool) (at : ℕ) (f : Fates) (member : Bool) : Type 0 where
  pub inside : at ≤ length s
  pub within : Within f at
  pub decides : scan_on f member (lines (drop at s)) ≡ scan_on before has (lines (drop «from» s))

-- one line more
pub scanned_more : {s : List ℕ} {«from» : ℕ} {before : Fates} {has : Bool} {at : ℕ} {f : Fates} {member : Bool} {x : LineStep} {g : Fates} →
    Scanning s «from» before has at f member → StepLine s at f.class member x → g ≡ plus f (one x.fate) →
    Scanning s «from» before has x.next g x.has_member
scanned_more {s} {«from»} {before} {has} {at} {f} {member} {x} {g} k t e =
    let l : List ℕ = bytes_of s x in
    let o = t.taken.past in
    let sum : g ≡ plus f (one (fate_of member l (line_of l))) = e ∙ ap (λ y. plus f (one y)) t.fate in
    record {
      inside = t.taken.inside;
      within = rw sum (plus_within f (one (fate_of member l (line_of l))) at x.next k.within (one_within (fate_of member l (line_of l))) (omega arith));
      decides =
          rw (sum, t.after) (sym (scan_line f member l (lines (drop x.next s)) t.clean)) ∙ sym (ap (scan_on f member) t.taken.split) ∙ k.decides;
    }
