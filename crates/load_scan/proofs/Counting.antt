-- Counting one line more. Assumes nothing.
use mathlib.Core.Path.{◌≡◌}
use Prim.Native.Nat.{ℕ, ◌+◌}
use native.Mathlib.Nat.{add-zero}
use native.Mathlib.Omega.{arith}
use mir.Val.{Fits}
use mir.Syntax.{w32}
use borrow.Author.Rules.{rules}
use Rattle.load_rule.specs.declared.Fate.{Fate}
use Rattle.load_rule.specs.declared.Fate.TheVariants as fate
use Rattle.load_rule.specs.declared.Fates.{Fates}
use Rattle.load_rule.specs.Fates.{plus, one}
use Rattle.load_rule.specs.Loading.{most_text}
use Rattle.load_scan.specs.Inner.Bounds.{Within}

-- what is counted, in the order of its record
abbrev fates : ℕ → ℕ → ℕ → ℕ → ℕ → ℕ → ℕ → ℕ → Fates
fates l b a i c f m s = record { lines = l; blank = b; applied = a; idle = i; class = c; field = f; method = m; short = s }

-- Every count has room for one more.
module _ (f : Fates) (w : Within f most_text) where
  pub lines_fit : Fits w32 (f.lines + 1)
  lines_fit = omega (arith, w.lines)

  pub blank_fits : Fits w32 (f.blank + 1)
  blank_fits = omega (arith, w.lines, w.blank)

  pub applied_fits : Fits w32 (f.applied + 1)
  applied_fits = omega (arith, w.lines, w.applied)

  pub idle_fits : Fits w32 (f.idle + 1)
  idle_fits = omega (arith, w.lines, w.idle)

  pub class_fits : Fits w32 (f.class + 1)
  class_fits = omega (arith, w.lines, w.class)

  pub field_fits : Fits w32 (f.field + 1)
  field_fits = omega (arith, w.lines, w.field)

  pub method_fits : Fits w32 (f.method + 1)
  method_fits = omega (arith, w.lines, w.method)

  pub short_fits : Fits w32 (f.short + 1)
  short_fits = omega (arith, w.lines, w.short)

-- One line more of a fate.
module _ (f : Fates) {k : Fate} where
  pub blank_counted : k ≡ fate.Blank → fates (f.lines + 1) (f.blank + 1) f.applied f.idle f.class f.field f.method f.short ≡ plus f (one k)
  blank_counted e = rw e (simp add-zero)

  pub applied_counted : k ≡ fate.Applied → fates (f.lines + 1) f.blank (f.applied + 1) f.idle f.class f.field f.method f.short ≡ plus f (one k)
  applied_counted e = rw e (simp add-zero)

  pub idle_counted : k ≡ fate.Idle → fates (f.lines + 1) f.blank f.applied (f.idle + 1) f.class f.field f.method f.short ≡ plus f (one k)
  idle_counted e = rw e (simp add-zero)

  pub class_counted : k ≡ fate.Class → fates (f.lines + 1) f.blank f.applied f.idle (f.class + 1) f.field f.method f.short ≡ plus f (one k)
  class_counted e = rw e (simp add-zero)

  pub field_counted : k ≡ fate.Field → fates (f.lines + 1) f.blank f.applied f.idle f.class (f.field + 1) f.method f.short ≡ plus f (one k)
  field_counted e = rw e (simp add-zero)

  pub method_counted : k ≡ fate.Method → fates (f.lines + 1) f.blank f.applied f.idle f.class f.field (f.method + 1) f.short ≡ plus f (one k)
  method_counted e = rw e (simp add-zero)

  pub short_counted : k ≡ fate.Short → fates (f.lines + 1) f.blank f.applied f.idle f.class f.field (f.method + 1) (f.short + 1) ≡ plus f (one k)
  short_counted e = rw e (simp add-zero)

  pub faulty_counted : k ≡ fate.Faulty → fates (f.lines + 1) f.blank f.applied f.idle f.class f.field f.method f.short ≡ plus f (one k)
  faulty_counted e = rw e (simp add-zero)

pub ruleset counting = (
  lines_fit,
  blank_fits,
  applied_fits,
  idle_fits,
  class_fits,
  field_fits,
  method_fits,
  short_fits,
  blank_counted,
  applied_counted,
  idle_counted,
  class_counted,
  field_counted,
  method_counted,
  short_counted,
  faulty_counted,
  rules,
)
