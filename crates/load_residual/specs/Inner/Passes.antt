-- The blank lines and comments behind a class line or a member line, one after the other.
use Rattle.std.specs.Prelude.{◌≡◌, Bool, true, false, List, ℕ, ◌+◌, Option}
use Rattle.ground.specs.Choice.{both}
use Rattle.ground.specs.Put.{between}
use Rattle.ground.specs.Look.{is_known}
use Rattle.text_places.specs.Lines.{lines, Taken}
use Rattle.line.specs.declared.line.Line.TheVariants as kinds
use Rattle.line.specs.Kinds.{line_of}
use Rattle.load_rule.specs.Comments.{signature_at, residual_in}
use Rattle.load_residual.specs.declared.residual.Looked.{Looked}
use Rattle.load_residual.specs.declared.residual.Passed.{Passed}
use Rattle.load_residual.specs.Inner.Residuals.{Gives, heeded}

abbrev pub passed_of : ℕ → ℕ → ℕ → ℕ → Passed
passed_of bytes blank applied idle = record { bytes = bytes; blank = blank; applied = applied; idle = idle }

-- the first lines of the text `s` are counted so: none, or one more that is blank, a comment that gives a signature to a member, or one
-- that gives none
pub data Passes (member : Bool) (s : List ℕ) : Passed → Type 0 where
  none : Passes member s (passed_of 0 0 0 0)
  blank : (k : Passed) (a e n : ℕ) → Passes member s k → Taken s k.bytes a e n → line_of (between s a e) ≡ kinds.Blank →
      Passes member s (passed_of n (k.blank + 1) k.applied k.idle)
  applied : (k : Passed) (a e n : ℕ) (brace : Option ℕ) → Passes member s k → Taken s k.bytes a e n →
      line_of (between s a e) ≡ kinds.Comment brace → both member (is_known (signature_at (between s a e) brace)) ≡ true →
      Passes member s (passed_of n k.blank (k.applied + 1) k.idle)
  idle : (k : Passed) (a e n : ℕ) (brace : Option ℕ) → Passes member s k → Taken s k.bytes a e n →
      line_of (between s a e) ≡ kinds.Comment brace → both member (is_known (signature_at (between s a e) brace)) ≡ false →
      Passes member s (passed_of n k.blank k.applied (k.idle + 1))

-- what the lines of the text `s` give, and that those that are passed are its first ones
pub record Looks (member : Bool) (s : List ℕ) (r : Looked) : Type 0 where
  pub gives : Gives s r.residual (heeded member (residual_in (lines s)))
  pub passes : Passes member s r.passed
