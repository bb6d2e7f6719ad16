-- What the line at a place opens with.
use Rattle.std.specs.Prelude.{◌≡◌, List, ℕ, ◌-◌, ◌≤◌, ◌<◌, length, get_or, drop, Some}
use Rattle.ground.specs.Put.{between}
use Rattle.ground.specs.Look.{unknown}
use Rattle.text_places.specs.Lines.{lines, Taken}
use Rattle.text_places.specs.Inner.NextLine.{next_line, taken_line}
use Rattle.text_white.specs.Trim.{trim_start}
use Rattle.line.specs.declared.line.Line.TheVariants as kinds
use Rattle.line.specs.Kinds.{line_of}
use Rattle.load_rule.specs.Comments.{residual_in}
use Rattle.load_residual.specs.declared.residual.Opening.{Opening}
use Rattle.load_residual.specs.declared.residual.Opening.TheVariants.{Blank, Comment, Other}

-- the line at the place `at` is blank, and the following one starts at `next`
pub record BlankLine (s : List ℕ) (at next : ℕ) : Type 0 where
  pub «end» : ℕ
  pub taken : Taken s at at «end» next
  pub is : line_of (between s at «end») ≡ kinds.Blank

-- in the line at the place `at` stands a `#` at the place `hash`, and only white space before it: the line ends as what is left of it does
pub record HashLine (s : List ℕ) (at hash : ℕ) : Type 0 where
  pub goes : at ≤ hash
  pub inside : hash < length s
  pub stands : get_or s hash 0 ≡ 0x23
  pub takes : (e n : ℕ) → next_line s hash ≡ Some (taken_line hash e n) → Taken s at at e n
  pub trims : (e : ℕ) → hash < e → e ≤ length s → trim_start (between s at e) ≡ hash - at
  pub past : (e n : ℕ) → next_line s hash ≡ Some (taken_line hash e n) → hash < e

-- any other line gives nothing to the line before it
abbrev pub OpensBy : Opening → List ℕ → ℕ → Type 0
OpensBy (Blank next) s at = BlankLine s at next
OpensBy (Comment hash) s at = HashLine s at hash
OpensBy Other s at = residual_in (lines (drop at s)) ≡ unknown
