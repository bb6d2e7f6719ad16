-- A line by the number of its line context. Assumes nothing.
use Rattle.std.specs.Prelude.{Some, Option, None}
use mathlib.Core.Path.{◌≡◌, sym, ◌∙◌, ap}
use mathlib.Core.List.{List, []}
use Prim.Native.Nat.{ℕ, zero, suc, ◌-◌, ◌≤◌, ◌<◌}
use native.Mathlib.Omega.{arith}
use lib.ListN.{get_or}
use borrow.Author.Rules.{rules}
use Rattle.ground.proofs.Cases.{above_zero}
use Rattle.table_rows.specs.Rows.{unpack_class}
use Rattle.tables.specs.Back.{text_in, read_back}
use Rattle.tables.specs.Search.{last_raw}
use Rattle.name_lines.specs.declared.lines.RawLine.{RawLine}
use Rattle.name_rule.specs.Mappings.{mapping, entries_back}
use Rattle.name_rule.specs.MemberNames.{line_of_method}
use Rattle.name_index.specs.Inner.Chains.{key_of_row, own_row}
use Rattle.apply_members.specs.Inner.Notes.{MeantBy, line_by}
use Rattle.name_lines.specs.declared.lines.DisplayLine.{DisplayLine}

module _ (classes rows : List (List ℕ)) (pool : List ℕ) (home : ℕ) {context : ℕ} where
  pub no_context : (n : RawLine) → context ≡ 0 → None ≡ line_by classes rows pool home context n
  no_context n e = sym (ap (λ x. line_by classes rows pool home x n) e)

  module _ (h : context ≡ 0 → ⊥) where
    pub context_some : 1 ≤ context
    context_some = above_zero context h

    module _ (k : MeantBy classes rows pool home context) where
      pub context_class : last_raw classes pool (text_in pool (unpack_class (get_or classes home [])).raw) ≡ Some home
      context_class = (k.meant (above_zero context h)).class_row_lem

      pub context_own : own_row classes rows pool (key_of_row classes rows pool home (context - 1)) ≡ Some (context - 1)
      context_own = (k.meant (above_zero context h)).own_row_lem

    pub context_is : (n : RawLine) {l : Option DisplayLine} →
        l ≡ line_of_method (mapping (read_back classes pool) (entries_back rows pool)) (key_of_row classes rows pool home (context - 1)) n →
        l ≡ line_by classes rows pool home context n
    context_is n e = e ∙ sym (go context (above_zero context h))
      where
        go : (x : ℕ) → 0 < x → line_by classes rows pool home x n ≡ line_of_method (mapping (read_back classes pool) (entries_back rows pool)) (key_of_row classes rows pool home (x - 1)) n
        go zero q = absurd (omega arith)
        go (suc x) q = let z : suc x - 1 ≡ x = omega arith in rw z

pub ruleset context_lines = (no_context, context_some, context_class, context_own, context_is, rules)
