-- What is loaded, applied and written stays within the arrays that are lent. Assumes nothing.
use Rattle.std.specs.Prelude.{Option, Some, Result, Ok}
use mathlib.Core.Path.{◌≡◌, sym, ◌∙◌, ap}
use mathlib.Core.List.{List}
use Prim.Native.Nat.{ℕ, ◌≤◌}
use native.Mathlib.Omega.{arith}
use lib.ListN.{length, take}
use borrow.Author.Rules.{rules}
use Rattle.ground.proofs.Parts.{prefix_whole}
use Rattle.text_places.specs.Inner.NextLine.{next_line, taken_line}
use Rattle.text_places.proofs.Taking.{line_inside, line_starts, line_ends}
use Rattle.table_rows.specs.Tables.{Tables}
use Rattle.tables.specs.declared.check.Used.{Used}
use Rattle.apply_rule.specs.Applying.{apply_answer, apply_output}
use Rattle.apply_rule.proofs.Answers.{accepted_output, output_length}
use Rattle.text_places.specs.declared.lines.NextLine.{NextLine}
use Rattle.apply_rule.specs.declared.ApplyError.{ApplyError}

-- "An accepted apply returns the output's length.": there was room for it
module _ (t : Tables) (used : Used) (class file : List ℕ) (room : ℕ) {a : Result ℕ ApplyError} {n : ℕ} {out : List ℕ}
    (e : a ≡ apply_answer t used class file room) (o : out ≡ apply_output t used class file room) (d : a ≡ Ok n) where
  pub output_inside : n ≤ length out
  output_inside =
      let size : length out ≡ room = ap length o ∙ output_length t used class file room in
      let fits = (accepted_output t used class file room (sym e ∙ d)).1 in
      omega arith

  pub output_part : n ≡ length (take n out)
  output_part = prefix_whole out n output_inside

pub ruleset applying = (output_inside, output_part, rules)

-- a part up to the end of a line, as the class given is
pub line_part : (s : List ℕ) (at : ℕ) {x : NextLine} {t : Option NextLine} → t ≡ next_line s at → t ≡ Some x → x.«end» ≡ length (take x.«end» s)
line_part s at {x = x} p q = prefix_whole s x.«end» (line_ends s at p q)

pub ruleset asking = (line_inside, line_starts, line_ends, line_part, rules)
