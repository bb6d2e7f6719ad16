-- What is answered for a member, and 14. Assumes nothing.
use Rattle.std.specs.Prelude.{Option, Some, None, Result, Ok, Err}
use mathlib.Core.Path.{◌≡◌, sym, ◌∙◌, ap}
use mathlib.Core.Bool.{Bool, true, false, not}
use mathlib.Core.List.{List, []}
use Prim.Native.Nat.{ℕ, ◌<◌}
use native.Mathlib.Omega.{arith}
use lib.ListN.{length, get_or, take, length-take}
use mir.Val.{Fits}
use mir.Syntax.{w32}
use borrow.Author.Tests.{not-true}
use borrow.Author.Rules.{rules}
use Rattle.ground.specs.Choice.{pick}
use Rattle.ground.proofs.Answered.{none_on}
use Rattle.ground.proofs.Parts.{prefix_whole}
use Rattle.table_rows.specs.declared.rows.Member.{Member}
use Rattle.table_rows.specs.declared.rows.Ranges.{Ranges}
use Rattle.table_rows.specs.declared.rows.Text.{Text}
use Rattle.table_rows.specs.Classes.{Pair}
use Rattle.table_rows.specs.Rows.{unpack_member}
use Rattle.table_rows.specs.Tables.{Tables, tables}
use Rattle.tables.specs.declared.check.Malformed.{Malformed}
use Rattle.tables.specs.declared.check.Used.{Used}
use Rattle.tables.specs.Back.{read_back}
use Rattle.tables.specs.Check.{well_formed, malformed}
use Rattle.tables.proofs.Checking.{tested_formed, class_rows_lent, member_rows_lent}
use Rattle.name_lines.specs.declared.lines.RawLine.{RawLine}
use Rattle.name_lines.specs.declared.lines.DisplayLine.{DisplayLine}
use Rattle.name_lines.specs.LineNames.{line_name}
use Rattle.name_rule.specs.MemberNames.{Key}
use Rattle.name_rule.proofs.Rows.{field_found, method_found, line_found}
use Rattle.name_members.specs.declared.rows.Asked.{Asked}
use Rattle.name_members.specs.declared.rows.Asked.TheVariants as asked
use Rattle.name_members.specs.declared.names.MemberName.{MemberName}
use Rattle.name_members.specs.declared.names.MemberLine.{MemberLine}
use Rattle.name_members.specs.MemberAnswers.{row_asked, answering, name_of_row, name_answer, line_of_row, line_of_answer}

-- The row that answers is there.
row_inside : (a : Asked) (cs : List Pair) (k : Key) (rows : List (List ℕ)) (pool : List ℕ) {i : ℕ} → row_asked a cs k rows pool ≡ Some i → i < length rows
row_inside asked.Field cs k rows pool e = (field_found cs k rows pool e).0
row_inside asked.Method cs k rows pool e = (method_found cs k rows pool e).0
row_inside (asked.Line n) cs k rows pool e = (line_found cs k rows pool n e).0

-- The row, or why there is none.
module _ (a : Asked) (c m : List (List ℕ)) (p : List ℕ) (used : Used) (k : Key) {b : Bool} (w : b ≡ well_formed c m p used) where
  pub answering_malformed : not b ≡ true → Err malformed ≡ answering a (tables c m p) used k
  answering_malformed n = sym (rw (sym w ∙ not-true b n))

  module _ (n : not b ≡ false) where
    module _ {o : Option ℕ} (f : o ≡ row_asked a (read_back (take used.classes c) p) k (take used.members m) p) where
      pub answering_row : {i : ℕ} → o ≡ Some i → Ok (Some i) ≡ answering a (tables c m p) used k
      answering_row e = sym (rw (tested_formed c m p used w n, sym f ∙ e))

      -- a row's number is below a count of 32 bits
      pub row_fits : Fits w32 used.members → {i : ℕ} → o ≡ Some i → Fits w32 i
      row_fits h {i} e =
          let n = row_inside a (read_back (take used.classes c) p) k (take used.members m) p (sym f ∙ e) in
          omega (arith, length-take used.members m)

      pub answering_unknown : o ≡ None → Ok None ≡ answering a (tables c m p) used k
      answering_unknown e = sym (rw (tested_formed c m p used w n, sym f ∙ e))

pub ruleset answers = (prefix_whole, answering_malformed, class_rows_lent, member_rows_lent, answering_row, row_fits, answering_unknown, rules)

module _ (a : Asked) (t : Tables) (used : Used) (k : Key) where
  abbrev asked_row : Option ℕ
  asked_row = row_asked a (read_back (take used.classes t.classes) t.pool) k (take used.members t.members) t.pool

  -- an answer that is a row says that the tables are well formed, and which row it is
  pub row_answers : {i : ℕ} → answering a t used k ≡ Ok (Some i) → asked_row ≡ Some i
  row_answers {i} e = go (well_formed t.classes t.members t.pool used) asked_row e
    where
      go : (b : Bool) (o : Option ℕ) → pick {A = Result (Option ℕ) Malformed} b (Ok o) (Err malformed) ≡ Ok (Some i) → o ≡ Some i
      go true o q = cc
      go false o q = absurd (let z : ◌≡◌ {A = ℕ} 0 1 = cc in omega arith)

  pub answers_inside : {i : ℕ} → answering a t used k ≡ Ok (Some i) → i < length t.members
  answers_inside e =
      let h = row_inside a (read_back (take used.classes t.classes) t.pool) k (take used.members t.members) t.pool (row_answers e) in
      omega (arith, length-take used.members t.members)

module _ (a : Asked) (c m : List (List ℕ)) (p : List ℕ) (used : Used) (k : Key) {o : Result (Option ℕ) Malformed} (f : o ≡ answering a (tables c m p) used k) where
  module _ {r : Option ℕ} (e : o ≡ Ok r) {i : ℕ} (h : r ≡ Some i) where
    is_row : answering a (tables c m p) used k ≡ Ok (Some i)
    is_row = sym f ∙ e ∙ ap Ok h

    pub row_lent : i < length m
    row_lent = answers_inside a (tables c m p) used k is_row

    pub name_row_lem : {z : MemberName} → z ≡ name_of_row i (get_or m i []) → Ok (Some z) ≡ name_answer m (answering a (tables c m p) used k)
    name_row_lem g = ap (λ x. Ok (Some x)) g ∙ sym (ap (name_answer m) is_row)

    pub line_row_lem : (n : RawLine) {z : Option MemberLine} → z ≡ line_of_row i (get_or m i []) n → Ok z ≡ line_of_answer m n (answering a (tables c m p) used k)
    line_row_lem n g = ap Ok g ∙ sym (ap (line_of_answer m n) is_row)

  module _ {r : Option ℕ} (e : o ≡ Ok r) (h : r ≡ None) where
    is_none : answering a (tables c m p) used k ≡ Ok None
    is_none = sym f ∙ e ∙ ap Ok h

    pub name_unknown : Ok None ≡ name_answer m (answering a (tables c m p) used k)
    name_unknown = sym (ap (name_answer m) is_none)

    pub line_unknown : (n : RawLine) → Ok None ≡ line_of_answer m n (answering a (tables c m p) used k)
    line_unknown n = sym (ap (line_of_answer m n) is_none)

  module _ {d : Malformed} (e : o ≡ Err d) where
    pub name_malformed : Err malformed ≡ name_answer m (answering a (tables c m p) used k)
    name_malformed = sym (ap (name_answer m) (sym f ∙ e))

    pub line_malformed : (n : RawLine) → Err malformed ≡ line_of_answer m n (answering a (tables c m p) used k)
    line_malformed n = sym (ap (line_of_answer m n) (sym f ∙ e))

-- a refusal that `?` hands on
pub err_on : {A : Type 0} {r x : Result A Malformed} → r ≡ Err malformed → Err malformed ≡ x → r ≡ x
err_on e f = e ∙ f

pub ruleset naming = (row_lent, name_row_lem, name_unknown, name_malformed, err_on, rules)

pub ruleset lining = (row_lent, line_row_lem, line_unknown, line_malformed, err_on, rules)

-- What a row says.
abbrev name_at : ℕ → Text → MemberName
name_at i t = record { row = i; place = t.place; length = t.length }

pub name_of_row_lem : (i : ℕ) (r : List ℕ) {m : Member} → m ≡ unpack_member r → {t : Text} → t ≡ m.name → ◌≡◌ {A = MemberName} (record { row = i; place = t.place; length = t.length }) (name_of_row i r)
name_of_row_lem i r e f = ap (name_at i) (f ∙ ap (λ x. x.name) e)

module _ (i : ℕ) (r : List ℕ) (n : RawLine) {m : Member} (e : m ≡ unpack_member r) {g : Ranges} (q : g ≡ m.ranges) {o : Option DisplayLine} (f : o ≡ line_name g n) where
  is : line_name (unpack_member r).ranges n ≡ o
  is = ap (λ x. line_name x.ranges n) (sym e) ∙ ap (λ x. line_name x n) (sym q) ∙ sym f

  pub line_of_row_lem : {l : DisplayLine} → o ≡ Some l → Some (record { row = i; line = l }) ≡ line_of_row i r n
  line_of_row_lem h = sym (rw (is ∙ h))

  pub no_line_of_row : o ≡ None → None ≡ line_of_row i r n
  no_line_of_row h = sym (rw (is ∙ h))

pub ruleset rows_told = (name_of_row_lem, line_of_row_lem, no_line_of_row, none_on, rules)
