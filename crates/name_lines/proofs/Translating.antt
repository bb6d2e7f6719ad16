-- From a raw line to a display line. Assumes nothing.
use Rattle.std.specs.Prelude.{Some, None}
use mathlib.Core.Path.{◌≡◌, sym, ◌∙◌, ap}
use mathlib.Core.Bool.{Bool, true, false, not}
use Prim.Native.Nat.{ℕ, ◌+◌, ◌-◌, ◌≤◌, min}
use native.Mathlib.Omega.{arith}
use mir.Val.{Fits}
use mir.Syntax.{w32}
use borrow.Author.Tests.{not-true, not-false}
use borrow.Author.Rules.{rules}
use Rattle.ground.specs.Choice.{within}
use Rattle.ground.proofs.Cases.{cases, within_both}
use Rattle.table_rows.specs.declared.rows.Ranges.{Ranges}
use Rattle.table_rows.specs.declared.rows.Ranges.TheVariants as ranges
use Rattle.name_lines.specs.declared.lines.RawLine.{RawLine}
use Rattle.name_lines.specs.LineNames.{display_line, holds_line, line_name}

pub ruleset comparing = (cases, rules)

module _ (n : RawLine) {g : Ranges} where
  pub line_none : g ≡ ranges.None → None ≡ line_name g n
  line_none e = sym (rw e)

  pub line_display : {a z : ℕ} → g ≡ ranges.Display a z → None ≡ line_name g n
  line_display e = sym (rw e)

  module _ {p q a z : ℕ} (e : g ≡ ranges.Both p q a z) {b : Bool} (w : b ≡ within p q n.0) where
    pub line_outside : not b ≡ true → None ≡ line_name g n
    line_outside h = sym (rw (e, sym w ∙ not-true b h))

    module _ (h : not b ≡ false) where
      held : within p q n.0 ≡ true
      held = sym w ∙ not-false b h

      pub line_from_lem : p ≤ n.0
      line_from_lem = (within_both p q n.0 held).0

      module _ {d : ℕ} (f : d ≡ z - a) {x : ℕ} (i : x ≡ min (n.0 - p) d) where
        is : x ≡ min (n.0 - p) (z - a)
        is = i ∙ ap (min (n.0 - p)) f

        pub line_fits : Fits w32 a → Fits w32 z → Fits w32 (a + x)
        line_fits u v = let y = is in omega arith

        pub line_shown_lem : Some (display_line (a + x)) ≡ line_name g n
        line_shown_lem = ap (λ y. Some (display_line (a + y))) is ∙ sym (rw (e, held))

pub ruleset translating = (line_none, line_display, line_outside, line_from_lem, line_fits, line_shown_lem, rules)

pub range_holds : (g : Ranges) (n : RawLine) {p q a e : ℕ} → g ≡ ranges.Both p q a e → {b : Bool} → b ≡ within p q n.0 → b ≡ holds_line g n
range_holds g n f w = w ∙ sym (rw f)

pub ruleset holding = (range_holds, rules)
