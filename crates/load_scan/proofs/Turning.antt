-- The lines of a text taken one after the other, each into what became of those before it. Assumes nothing.
use Rattle.std.specs.Prelude.{Some, None, Result, Ok, Err}
use mathlib.Core.Path.{◌≡◌, refl, sym, ◌∙◌, ap}
use mathlib.Core.Bool.{Bool, true, false}
use mathlib.Core.List.{List, [], ◌∷◌}
use Prim.Native.Nat.{ℕ, ◌+◌, ◌-◌, ◌≤◌, ◌<◌}
use native.Mathlib.Omega.{arith}
use lib.Dec.{eqb}
use lib.ListN.{length, drop}
use mir.Val.{Fits}
use mir.Syntax.{w32}
use borrow.Author.Tests.{eqb-true, eqb-false}
use borrow.Author.Rules.{rules}
use Rattle.ground.specs.Choice.{pick}
use Rattle.ground.specs.Put.{between}
use Rattle.text_places.specs.Lines.{lines, Taken}
use Rattle.text_places.specs.Inner.NextLine.{next_line, taken_line}
use Rattle.text_places.proofs.Taking.{line_taken, none_taken}
use Rattle.line.specs.Kinds.{line_of}
use Rattle.load_rule.specs.declared.Fate.{Fate}
use Rattle.load_rule.specs.declared.Fates.{Fates}
use Rattle.load_rule.specs.Fates.{plus, one, fate_of, member_after, fault_of, fault_at}
use Rattle.load_rule.specs.Loading.{most_text}
use Rattle.load_scan.specs.declared.step.LineStep.{LineStep}
use Rattle.load_scan.specs.declared.step.Step.{Step}
use Rattle.load_scan.specs.declared.step.Step.TheVariants as steps
use Rattle.load_scan.specs.Inner.Bounds.{Within}
use Rattle.load_scan.specs.Inner.Steps.{scan_on, is_entered, line_step, step_of}
use Rattle.load_scan.specs.Inner.Turns.{Countable, with_line, scan_so_far, so_far}
use Rattle.load_scan.proofs.Stepping.{within_more, scan_fault, passed_stays}
use Rattle.load_scan.proofs.Scanning.{one_within, plus_within, scan_line, scan_end}
use Rattle.load_rule.specs.declared.Fault.{Fault}
use Rattle.load_scan.specs.declared.scan.SoFar.{SoFar}
use Rattle.text_places.specs.declared.lines.NextLine.{NextLine}

-- One line, by its step.
stepped : Fates → Bool → Step → Result SoFar Fault
stepped f m steps.End = Ok (so_far f m)
stepped f m (steps.Faulty number) = Err (fault_at number (f.lines + 1))
stepped f m (steps.Passed next fate) = Ok (so_far (plus f (one fate)) m)
stepped f m (steps.Line x) = Ok (so_far (plus f (one x.fate)) x.has_member)

step_turns : (f : Fates) (m : Bool) (l : List ℕ) (a e n : ℕ) → stepped f m (step_of l a e n f.class m) ≡ with_line (Ok (so_far f m)) l
unfolding stepped
step_turns f m l a e n = go (eqb (fault_of f.class (line_of l)) 0) (is_entered (line_of l)) refl
  where
    go : (b c : Bool) → is_entered (line_of l) ≡ c →
        stepped f m (pick b (pick c (steps.Line (line_step l a e n m)) (steps.Passed n (fate_of m l (line_of l)))) (steps.Faulty (fault_of f.class (line_of l))))
        ≡ pick b (Ok (so_far (plus f (one (fate_of m l (line_of l)))) (member_after m (line_of l)))) (Err (fault_at (fault_of f.class (line_of l)) (f.lines + 1)))
    go true true i = refl
    go true false i = ap (λ b. Ok (so_far (plus f (one (fate_of m l (line_of l)))) b)) (sym (passed_stays m (line_of l) i))
    go false c i = refl

pub end_faulty : {x : Result SoFar Fault} {y : Fault} → x ≡ Err y → Err (fault_at y.number y.line) ≡ scan_so_far x
end_faulty e = sym (ap scan_so_far e)

module _ {x : Result SoFar Fault} {v : SoFar} (o : x ≡ Ok v) where
  pub end_sound : Ok v.fates ≡ scan_so_far x
  end_sound = sym (ap scan_so_far o)

  pub turn_bounds : Countable x → Within v.fates most_text
  turn_bounds h = rw o at h

  pub turn_fits : (n : ℕ) → Countable x → n ≤ most_text → Fits w32 (v.fates.lines + n)
  turn_fits n h i = let w = turn_bounds h in omega (arith, w.lines)

  module _ (l : List ℕ) (a e n : ℕ) {t : Step} (w : t ≡ step_of l a e n v.fates.class v.has_member) where
    turned : {y : Step} → t ≡ y → stepped v.fates v.has_member y ≡ with_line x l
    turned q = ap (stepped v.fates v.has_member) (sym q ∙ w) ∙ step_turns v.fates v.has_member l a e n ∙ sym (ap (λ z. with_line z l) o)

    pub turn_end : t ≡ steps.End → Ok (so_far v.fates v.has_member) ≡ with_line x l
    unfolding stepped
    turn_end q = turned q

    pub turn_fault : {number : ℕ} → t ≡ steps.Faulty number → Err (fault_at number (v.fates.lines + 1)) ≡ with_line x l
    unfolding stepped
    turn_fault q = turned q

    pub turn_passed : {p : ℕ} {k : Fate} → t ≡ steps.Passed p k → {g : Fates} → g ≡ plus v.fates (one k) → Ok (so_far g v.has_member) ≡ with_line x l
    unfolding stepped
    turn_passed q u = ap (λ g. Ok (so_far g v.has_member)) u ∙ turned q

    pub turn_line : {y : LineStep} → t ≡ steps.Line y → {g : Fates} → g ≡ plus v.fates (one y.fate) → Ok (so_far g y.has_member) ≡ with_line x l
    unfolding stepped
    turn_line {y} q u = ap (λ g. Ok (so_far g y.has_member)) u ∙ turned q

pub ruleset turning = (end_faulty, end_sound, turn_bounds, turn_fits, turn_end, turn_fault, turn_passed, turn_line, rules)

-- All lines.
-- the answer for lines `ls` after those so far
abbrev decide : Result SoFar Fault → List (List ℕ) → Result Fates Fault
decide (Ok r) ls = scan_on r.fates r.has_member ls
decide (Err r) ls = Err (fault_at r.number r.line)

abbrev Bound : Result SoFar Fault → ℕ → Type 0
Bound (Ok r) at = Within r.fates at
Bound (Err r) at = Unit {0}

decide_line : (x : Result SoFar Fault) (l : List ℕ) (ls : List (List ℕ)) → decide x (l ∷ ls) ≡ decide (with_line x l) ls
decide_line (Err r) l ls = refl
decide_line (Ok r) l ls = go (eqb (fault_of r.fates.class (line_of l)) 0) refl
  where
    go : (b : Bool) → eqb (fault_of r.fates.class (line_of l)) 0 ≡ b →
        scan_on r.fates r.has_member (l ∷ ls)
        ≡ decide (pick b (Ok (so_far (plus r.fates (one (fate_of r.has_member l (line_of l)))) (member_after r.has_member (line_of l)))) (Err (fault_at (fault_of r.fates.class (line_of l)) (r.fates.lines + 1)))) ls
    go true e = scan_line r.fates r.has_member l ls (eqb-true (fault_of r.fates.class (line_of l)) 0 e)
    go false e = scan_fault r.fates r.has_member l ls (eqb-false (fault_of r.fates.class (line_of l)) 0 e)

decide_end : (x : Result SoFar Fault) → decide x [] ≡ scan_so_far x
decide_end (Ok r) = scan_end r.fates r.has_member
decide_end (Err r) = refl

bound_line : (x : Result SoFar Fault) (l : List ℕ) (at n : ℕ) → at < n → Bound x at → Bound (with_line x l) n
bound_line (Err r) l at n h b = tt
bound_line (Ok r) l at n h b = go (eqb (fault_of r.fates.class (line_of l)) 0)
  where
    go : (t : Bool) →
        Bound (pick t (Ok (so_far (plus r.fates (one (fate_of r.has_member l (line_of l)))) (member_after r.has_member (line_of l)))) (Err (fault_at (fault_of r.fates.class (line_of l)) (r.fates.lines + 1)))) n
    go true = plus_within r.fates (one (fate_of r.has_member l (line_of l))) at n b (one_within (fate_of r.has_member l (line_of l))) (omega arith)
    go false = tt

countable : (x : Result SoFar Fault) (at : ℕ) → at ≤ most_text → Bound x at → Countable x
countable (Ok r) at h b = within_more r.fates at most_text b h
countable (Err r) at h b = tt

-- `x` is what became of the lines up to the place `at`, where the rest decides as the whole does
pub record Turning (s : List ℕ) (all : Result Fates Fault) (at : ℕ) (x : Result SoFar Fault) : Type 0 where
  pub inside : at ≤ length s
  pub bound : Bound x at
  pub decides : decide x (lines (drop at s)) ≡ all

pub turning_starts : (s : List ℕ) (at : ℕ) (f : Fates) (m : Bool) → at ≤ length s → Within f at →
    Turning s (scan_on f m (lines (drop at s))) at (Ok (so_far f m))
turning_starts s at f m h w = record { inside = h; bound = w; decides = refl }

module _ {s : List ℕ} {all : Result Fates Fault} {at : ℕ} {x : Result SoFar Fault} (k : Turning s all at x) where
  pub turning_ends : next_line s at ≡ None → scan_so_far x ≡ all
  turning_ends z = sym (ap (decide x) (none_taken s at (sym z) refl) ∙ decide_end x) ∙ k.decides

  module _ {y : NextLine} (z : next_line s at ≡ Some y) where
    taken : Taken s at y.start y.«end» y.next
    taken = line_taken s at (sym z) refl

    pub turning_line : Turning s all y.next (with_line x (between s y.start y.«end»))
    turning_line = record {
      inside = taken.inside;
      bound = bound_line x (between s y.start y.«end») at y.next taken.past k.bound;
      decides = sym (decide_line x (between s y.start y.«end») (lines (drop y.next s))) ∙ sym (ap (decide x) taken.split) ∙ k.decides;
    }

    pub turning_asks : length s ≤ most_text → (y.start ≤ y.«end») × (y.«end» ≤ length s) × Countable x
    turning_asks h = let t = taken in (t.order, t.ends, countable x at (omega (arith, t.past, t.inside)) k.bound)

    pub turning_nearer : length s - y.next < length s - at
    turning_nearer = let t = taken in omega (arith, t.past, t.inside)
