-- Bounds of counts.
use Rattle.std.specs.Prelude.{ℕ, ◌≤◌}
use Rattle.load_rule.specs.declared.Fates.{Fates}

-- at most `n` lines are counted, and no count is above that of lines
pub record Within (f : Fates) (n : ℕ) : Type 0 where
  pub lines : f.lines ≤ n
  pub blank : f.blank ≤ f.lines
  pub applied : f.applied ≤ f.lines
  pub idle : f.idle ≤ f.lines
  pub class : f.class ≤ f.lines
  pub field : f.field ≤ f.lines
  pub method : f.method ≤ f.lines
  pub short : f.short ≤ f.lines
