-- A method's row by an index, as a number. Assumes nothing.
use Rattle.std.specs.Prelude.{Option, Some, None}
use mathlib.Core.Path.{◌≡◌, refl, sym, ◌∙◌, ap}
use mathlib.Core.Bool.{Bool, true, false, not}
use mathlib.Core.List.{List, []}
use Prim.Native.Nat.{ℕ, ◌+◌, ◌%◌, ◌≤◌}
use native.Mathlib.Omega.{arith}
use lib.ListN.{length, get_or, take, length-take}
use borrow.Author.Tests.{not-true}
use borrow.Author.Rules.{rules}
use Rattle.ground.proofs.Parts.{prefix_whole}
use Rattle.table_rows.specs.Rows.{unpack_class, most_members}
use Rattle.table_rows.specs.Tables.{tables}
use Rattle.tables.specs.declared.check.Used.{Used}
use Rattle.tables.specs.Back.{text_in, read_back}
use Rattle.tables.specs.Check.{used_by, well_formed}
use Rattle.tables.specs.Search.{last_raw}
use Rattle.tables.proofs.Checking.{formed, tested_formed, class_rows_lent, member_rows_lent}
use Rattle.name_rule.specs.MemberNames.{Key, key}
use Rattle.name_members.specs.declared.rows.Asked.TheVariants.{Method}
use Rattle.name_members.specs.MemberAnswers.{row_asked, answering}
use Rattle.name_members.proofs.Asking.{asked_none}
use Rattle.name_index.proofs.LastRows.{raw_has, raw_last}
use Rattle.name_probes.specs.Answers.{row_number, answer_number}
use Rattle.ground.proofs.Answered.{none_on}

-- The class is there, and has the raw descriptor.
module _ (classes rows : List (List ℕ)) (pool owner name descriptor : List ℕ) {o : Option ℕ} (f : o ≡ last_raw classes pool owner) where
  pub unknown_class : o ≡ None → None ≡ row_asked Method (read_back classes pool) (key owner name descriptor) rows pool
  unknown_class e = asked_none classes rows pool owner name descriptor f Method e

  module _ {i : ℕ} (e : o ≡ Some i) where
    has : text_in pool (unpack_class (get_or classes i [])).raw ≡ owner
    has = raw_has classes pool owner (sym f ∙ e)

    pub last_class : last_raw classes pool (text_in pool (unpack_class (get_or classes i [])).raw) ≡ Some i
    last_class = raw_last classes pool owner (sym f ∙ e)

    pub class_row_lem : {z : Option ℕ} → z ≡ row_asked Method (read_back classes pool) (key (text_in pool (unpack_class (get_or classes i [])).raw) name descriptor) rows pool →
        z ≡ row_asked Method (read_back classes pool) (key owner name descriptor) rows pool
    class_row_lem g = g ∙ ap (λ x. row_asked Method (read_back classes pool) (key x name descriptor) rows pool) has

pub ruleset probing_row = (unknown_class, last_class, class_row_lem, none_on, rules)

-- The number.
module _ (c m : List (List ℕ)) (p n : List ℕ) (k : Key) {u : Used} (e : u ≡ used_by n) {b : Bool} (w : b ≡ well_formed c m p u) where
  as_counted : (t : Used) → t ≡ used_by n → answer_number (answering Method (tables c m p) t k) ≡ answer_number (answering Method (tables c m p) (used_by n) k)
  as_counted t q = ap (λ x. answer_number (answering Method (tables c m p) x k)) q

  pub probe_malformed : not b ≡ true → 0 ≡ answer_number (answering Method (tables c m p) (used_by n) k)
  probe_malformed h =
      let x : answer_number (answering Method (tables c m p) u k) ≡ 0 = rw (sym w ∙ not-true b h) refl in
      sym x ∙ as_counted u e

  module _ (h : not b ≡ false) where
    pub member_rows_few : length (take u.members m) ≤ most_members
    member_rows_few = let f = (formed c m p u (tested_formed c m p u w h)).counts.member_rows in omega (arith, length-take u.members m)

    pub probe_row : {o : Option ℕ} → o ≡ row_asked Method (read_back (take u.classes c) p) k (take u.members m) p → {r : ℕ} → r ≡ row_number o →
        r ≡ answer_number (answering Method (tables c m p) (used_by n) k)
    probe_row {o} f g =
        let x : answer_number (answering Method (tables c m p) u k) ≡ row_number o = rw (tested_formed c m p u w h, ← f) refl in
        g ∙ sym x ∙ as_counted u e

pub ruleset probing = (prefix_whole, probe_malformed, class_rows_lent, member_rows_lent, member_rows_few, probe_row, rules)

pub row_number_lem : (o : Option ℕ) {i : ℕ} → o ≡ Some i → i % 4294967296 + 2 ≡ row_number o
row_number_lem o e = sym (rw e)

pub ruleset numbering = (row_number_lem, rules)
