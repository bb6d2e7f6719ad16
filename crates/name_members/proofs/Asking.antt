-- The row that answers what is asked. Assumes nothing.
use Rattle.std.specs.Prelude.{Option, Some, None}
use mathlib.Core.Path.{◌≡◌, refl, sym, ◌∙◌, ap}
use mathlib.Core.Bool.{Bool, true, false}
use mathlib.Core.List.{List, []}
use Prim.Native.Nat.{ℕ, ◌<◌}
use native.Mathlib.Omega.{arith}
use lib.ListN.{length, get_or}
use borrow.Author.Rules.{rules}
use Rattle.ground.specs.Choice.{both}
use Rattle.ground.specs.Look.{known, unknown}
use Rattle.ground.proofs.Cases.{clash}
use Rattle.table_rows.specs.declared.rows.Class.{Class}
use Rattle.table_rows.specs.Classes.{Pair, shown}
use Rattle.table_rows.specs.Rows.{unpack_class}
use Rattle.tables.specs.Back.{text_in, read_back}
use Rattle.tables.specs.Search.{last_raw}
use Rattle.tables.proofs.Searching.{raw_found, raw_unknown}
use Rattle.name_lines.specs.declared.lines.RawLine.{RawLine}
use Rattle.name_rule.specs.MemberNames.{Key, key, is_field_kind, is_method_kind, owned_by}
use Rattle.name_rule.specs.MemberRows.{last_member, kind_holds}
use Rattle.name_rule.proofs.Rows.{none_found}
use Rattle.name_members.specs.declared.rows.Asked.{Asked}
use Rattle.name_members.specs.declared.rows.Asked.TheVariants as asked
use Rattle.name_members.specs.declared.rows.Sought.{Sought}
use Rattle.name_members.specs.declared.rows.Sought.TheVariants as sought
use Rattle.name_members.specs.Inner.Sought.{answers_by, first_sought, is_method_asked}
use Rattle.name_members.specs.MemberAnswers.{row_asked}

pub first_line_lem : (a : Asked) {n : RawLine} → a ≡ asked.Line n → sought.OwnLine n ≡ first_sought a
first_line_lem a e = sym (rw e)

pub ruleset firsts = (first_line_lem, rules)

-- of a class that no row has, no member answers
none_asked : (a : Asked) (cs : List Pair) (k : Key) (rows : List (List ℕ)) (pool : List ℕ) → shown cs k.owner ≡ unknown → None ≡ row_asked a cs k rows pool
none_asked asked.Field cs k rows pool u = sym (none_found cs k (λ e. is_field_kind e.kind) rows pool u)
none_asked asked.Method cs k rows pool u =
    sym (rw (none_found cs k (λ e. owned_by (shown cs k.owner) e.kind) rows pool u, none_found cs k (λ e. is_method_kind e.kind) rows pool u))
none_asked (asked.Line n) cs k rows pool u =
    sym (none_found cs k (λ e. both (owned_by (shown cs k.owner) e.kind) (kind_holds e.kind n)) rows pool u)

module _ (classes rows : List (List ℕ)) (pool owner name descriptor : List ℕ) {o : Option ℕ} (f : o ≡ last_raw classes pool owner) where
  abbrev cs : List Pair
  cs = read_back classes pool

  abbrev k : Key
  k = key owner name descriptor

  pub asked_none : (a : Asked) → o ≡ None → None ≡ row_asked a cs k rows pool
  asked_none a e = none_asked a cs k rows pool (raw_unknown classes pool owner (sym f ∙ e))

  module _ {i : ℕ} (e : o ≡ Some i) where
    pub asked_inside : i < length classes
    asked_inside = (raw_found classes pool owner (sym f ∙ e)).0

    -- no look-up needs this: it lets the wrong program that asks the first row be refused for its answer
    pub asked_some : 0 < length classes
    asked_some = let h = asked_inside in omega arith

    module _ {d : List ℕ} (h : d ≡ text_in pool (unpack_class (get_or classes i [])).display) where
      shows : shown cs owner ≡ known d
      shows = (raw_found classes pool owner (sym f ∙ e)).1 ∙ ap known (sym h)

      abbrev found : Sought → Option ℕ
      found t = last_member (answers_by t (known d) cs k) rows pool

      as_shown : (t : Sought) → found t ≡ last_member (answers_by t (shown cs owner) cs k) rows pool
      as_shown t = ap (λ l. last_member (answers_by t l cs k) rows pool) (sym shows)

      module _ (a : Asked) {t : Sought} (q : t ≡ first_sought a) {z : Option ℕ} (r : z ≡ found t) where
        first : z ≡ last_member (answers_by (first_sought a) (shown cs owner) cs k) rows pool
        first = r ∙ ap found q ∙ as_shown (first_sought a)

        pub asked_row : {j : ℕ} → z ≡ Some j → Some j ≡ row_asked a cs k rows pool
        asked_row {j} s = go a (sym (sym first ∙ s))
          where
            go : (b : Asked) → Some j ≡ last_member (answers_by (first_sought b) (shown cs owner) cs k) rows pool → Some j ≡ row_asked b cs k rows pool
            go asked.Field u = u
            go asked.Method u = sym (rw (sym u))
            go (asked.Line n) u = u

        module _ (s : z ≡ None) {b : Bool} (w : b ≡ is_method_asked a) where
          pub asked_other : b ≡ false → None ≡ row_asked a cs k rows pool
          asked_other u = go a (sym w ∙ u) (sym (sym first ∙ s))
            where
              go : (d : Asked) → is_method_asked d ≡ false → None ≡ last_member (answers_by (first_sought d) (shown cs owner) cs k) rows pool → None ≡ row_asked d cs k rows pool
              go asked.Field i u = u
              go asked.Method i u = clash refl i
              go (asked.Line n) i u = u

          pub asked_any : b ≡ true → {y : Option ℕ} → y ≡ found sought.Method → y ≡ row_asked a cs k rows pool
          asked_any u {y} v = v ∙ go a (sym w ∙ u) (sym (sym first ∙ s))
            where
              go : (d : Asked) → is_method_asked d ≡ true → None ≡ last_member (answers_by (first_sought d) (shown cs owner) cs k) rows pool →
                  found sought.Method ≡ row_asked d cs k rows pool
              go asked.Field i u = clash i refl
              go asked.Method i u = sym (rw (sym u))
              go (asked.Line n) i u = clash i refl

-- the display descriptor of a row, as the code reads it
pub display_read : (classes : List (List ℕ)) (pool : List ℕ) (i : ℕ) {c : Class} → c ≡ unpack_class (get_or classes i []) → {d : List ℕ} → d ≡ text_in pool c.display →
    d ≡ text_in pool (unpack_class (get_or classes i [])).display
display_read classes pool i g h = h ∙ ap (λ x. text_in pool x.display) g

pub ruleset display_reading = (display_read, rules)

pub ruleset asking = (asked_none, asked_inside, asked_some, asked_row, asked_other, asked_any, rules)
