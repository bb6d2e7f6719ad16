-- Lines by the last row of a method. Assumes nothing.
use Rattle.std.specs.Prelude.{Option, Some, None}
use mathlib.Core.Path.{◌≡◌, refl, sym, ◌∙◌, ap}
use mathlib.Core.Bool.{Bool, true, false}
use mathlib.Core.List.{List, []}
use Prim.Native.Nat.{ℕ, ◌+◌, ◌-◌, ◌≤◌, ◌<◌}
use native.Mathlib.Omega.{arith}
use lib.Dec.{eqb}
use lib.ListN.{length, get_or}
use mir.Val.{Fits}
use mir.Syntax.{w64}
use borrow.Author.Rules.{rules}
use Rattle.ground.specs.Choice.{pick, both}
use Rattle.ground.specs.Look.{Look, known}
use Rattle.ground.proofs.Cases.{both_left, both_right, both_more}
use Rattle.table_rows.specs.declared.rows.Member.{Member}
use Rattle.table_rows.specs.declared.rows.Ranges.{Ranges}
use Rattle.table_rows.specs.declared.rows.Text.{Text}
use Rattle.table_rows.specs.Classes.{Pair, shown}
use Rattle.table_rows.specs.Rows.{unpack_class, unpack_member}
use Rattle.tables.specs.Back.{text_in, read_back}
use Rattle.tables.specs.Search.{last_raw}
use Rattle.tables.proofs.Searching.{scanning_from, scanning_found, raw_found}
use Rattle.load_rule.specs.Members.{field, method, Entry}
use Rattle.name_lines.specs.declared.lines.RawLine.{RawLine}
use Rattle.name_lines.specs.LineNames.{holds_line, line_name}
use Rattle.name_rule.specs.Mappings.{kind_back, member_back, entry_back, entries_back, mapping}
use Rattle.name_rule.specs.MemberNames.{Key, key, matches, owned_by, owner_matches, line_of_method}
use Rattle.name_rule.specs.MemberRows.{last_member, kind_holds, line_matches, line_row}
use Rattle.name_rule.proofs.Rows.{line_found, line_unknown}
use Rattle.name_members.specs.declared.rows.Sought.TheVariants.{Own, OwnLine}
use Rattle.name_members.specs.Inner.Sought.{answers_by}
use Rattle.name_index.specs.Inner.Chains.{mark_at, Chained, Behind, key_of_row, own_row}
use Rattle.name_index.proofs.LastRows.{LastAt, last_told}
use Rattle.name_index.proofs.Walking.{mark_told, behind_more}
use Rattle.name_lines.specs.declared.lines.DisplayLine.{DisplayLine}

-- What a row says.
module _ (pool r : List ℕ) {m : Member} (e : m ≡ unpack_member r) where
  pub ranges_told : {g : Ranges} → g ≡ m.ranges → g ≡ (unpack_member r).ranges
  ranges_told f = f ∙ ap (λ x. x.ranges) e

  module _ {t : Text} {s : List ℕ} where
    pub name_told_lem : t ≡ m.raw_name → s ≡ text_in pool t → s ≡ text_in pool (unpack_member r).raw_name
    name_told_lem f g = g ∙ ap (text_in pool) f ∙ ap (λ x. text_in pool x.raw_name) e

    pub descriptor_told : t ≡ m.descriptor → s ≡ text_in pool t → s ≡ text_in pool (unpack_member r).descriptor
    descriptor_told f g = g ∙ ap (text_in pool) f ∙ ap (λ x. text_in pool x.descriptor) e

pub ruleset row_told = (ranges_told, name_told_lem, descriptor_told, rules)

-- a method that is owned, by its ranges
owned_holds : (look : Look) (b : Bool) (o : List ℕ) (g : Ranges) (n : RawLine) → owned_by look (pick b field (method o g)) ≡ true →
    kind_holds (pick b field (method o g)) n ≡ holds_line g n
owned_holds look true o g n e = absurd (let z : ◌≡◌ {A = ℕ} 0 1 = cc in omega arith)
owned_holds look false o g n e = refl

both_missing : (o m : Bool) → both (both o false) m ≡ false
both_missing true m = refl
both_missing false m = refl

all_three : (o h m : Bool) → both o m ≡ true → h ≡ true → both (both o h) m ≡ true
all_three o h m e f = rw (both_left o m e, f) (both_right o m e)

module _ (classes : List (List ℕ)) (rows : List (List ℕ)) (pool : List ℕ) (class row : ℕ) where
  abbrev cs : List Pair
  cs = read_back classes pool

  abbrev raw : List ℕ
  raw = text_in pool (unpack_class (get_or classes class [])).raw

  abbrev display : List ℕ
  display = text_in pool (unpack_class (get_or classes class [])).display

  abbrev m : Member
  m = unpack_member (get_or rows row [])

  abbrev k : Key
  k = key_of_row classes rows pool class row

  abbrev owns : List ℕ → Bool
  owns r = owner_matches cs k (entry_back pool r)

  pub home_inside : last_raw classes pool raw ≡ Some class → class < length classes
  home_inside e = (raw_found classes pool raw e).0

  module _ (own : own_row classes rows pool k ≡ Some row) where
    last_own : LastAt owns 0 rows row
    last_own = last_told owns 0 rows own

    here_is : row - 0 ≡ row
    here_is = omega arith

    pub own_inside : row < length rows
    own_inside = rw here_is at last_own.inside

    own_holds : owns (get_or rows row []) ≡ true
    own_holds = rw here_is at last_own.holds

    own_later : (j : ℕ) → row < j → j < length rows → owns (get_or rows j []) ≡ false
    own_later j l h = last_own.later j (omega (arith, here_is)) h

    module _ (n : RawLine) where
      abbrev holds : List ℕ → Bool
      holds r = line_matches cs k n (entry_back pool r)

      holds_later : (j : ℕ) → row + 1 ≤ j → j < length rows → holds (get_or rows j []) ≡ false
      holds_later j l h =
          let e : Entry = entry_back pool (get_or rows j []) in
          both_more (owned_by (shown cs raw) e.kind) (kind_holds e.kind n) (matches cs k e) (own_later j (omega arith) h)

      kind_is : kind_holds (kind_back pool m) n ≡ holds_line m.ranges n
      kind_is =
          owned_holds (shown cs raw) (eqb m.kind 0) (text_in pool m.owner) m.ranges n
          (both_left (owned_by (shown cs raw) (kind_back pool m)) (matches cs k (member_back pool m)) own_holds)

      add_sub : (i : ℕ) → i + 1 - 1 ≡ i
      add_sub i = omega arith

      module _ {g : Ranges} (e : g ≡ m.ranges) {b : Bool} (f : b ≡ holds_line g n) where
        -- the row itself holds the line
        pub line_here : b ≡ true → {l : Option DisplayLine} → l ≡ line_name g n → l ≡ line_of_method (mapping cs (entries_back rows pool)) k n
        line_here t {l} q =
            let inside = own_inside in
            let last : Some row ≡ line_row cs k n rows pool =
            ap Some (sym (add_sub row))
            ∙ scanning_found (scanning_from holds rows (row + 1) (omega arith) holds_later) (omega arith)
            (ap (λ i. holds (get_or rows i [])) (add_sub row) ∙ here) in
            q ∙ ap (λ x. line_name x n) e ∙ sym (line_found cs k rows pool n (sym last)).1
          where
            here : holds (get_or rows row []) ≡ true
            here =
                all_three (owned_by (shown cs raw) (kind_back pool m)) (kind_holds (kind_back pool m) n) (matches cs k (member_back pool m)) own_holds
                (kind_is ∙ ap (λ x. holds_line x n) (sym e) ∙ sym f ∙ t)

        pub line_missing : b ≡ false → holds_line m.ranges n ≡ false
        line_missing t = ap (λ x. holds_line x n) (sym e) ∙ sym f ∙ t

      -- it does not: the rows before it with the same mark are asked
      module _ (last : last_raw classes pool raw ≡ Some class) {d : List ℕ} (h : d ≡ display) {owner : List ℕ} (o : owner ≡ raw)
          {name : List ℕ} (i : name ≡ text_in pool m.raw_name) {descriptor : List ℕ} (j : descriptor ≡ text_in pool m.descriptor) where
        look : shown cs raw ≡ known d
        look = (raw_found classes pool raw last).1 ∙ ap known (sym h)

        key_is : key owner name descriptor ≡ k
        key_is = rw (o, i, j)

        as_asked : {A : Type 0} (f : Look → Key → A) → f (known d) (key owner name descriptor) ≡ f (shown cs raw) k
        as_asked f = ap (λ l. f l (key owner name descriptor)) (sym look) ∙ ap (f (shown cs raw)) key_is

        answers_is : (r : List ℕ) → answers_by (OwnLine n) (known d) cs (key owner name descriptor) (entry_back pool r) ≡ holds r
        answers_is r = as_asked (λ l q. answers_by (OwnLine n) l cs q (entry_back pool r))

        pub line_row_lem : {z : Option ℕ} → z ≡ last_member (answers_by (OwnLine n) (known d) cs (key owner name descriptor)) rows pool →
            z ≡ line_row cs k n rows pool
        line_row_lem a = a ∙ as_asked (λ l q. last_member (answers_by (OwnLine n) l cs q) rows pool)

        pub line_behind : {index : List ℕ} → Chained classes pool rows index (length rows) → holds_line m.ranges n ≡ false →
            {before : ℕ} → before ≡ get_or index (8192 + row) 0 →
            Behind classes pool rows (OwnLine n) (known d) owner name descriptor before
        line_behind {index} x t q =
            behind_more classes pool rows (OwnLine n) (known d) owner name descriptor x from_here (omega arith) refl
            (sym (ap (λ y. answers_by (OwnLine n) (known d) cs (key owner name descriptor) (member_back pool (unpack_member (get_or rows y [])))) (add_sub row)
            ∙ answers_is (get_or rows row []) ∙ missing)) refl
            (q ∙ ap (λ y. get_or index (8192 + y) 0) (sym (add_sub row)))
          where
            missing : holds (get_or rows row []) ≡ false
            missing = rw (kind_is ∙ t) (both_missing (owned_by (shown cs raw) (kind_back pool m)) (matches cs k (member_back pool m)))

            from_here : Behind classes pool rows (OwnLine n) (known d) owner name descriptor (row + 1)
            from_here =
                record {
                  inside = let z = own_inside in omega arith;
                  none = λ y l u. answers_is (get_or rows y []) ∙ holds_later y l u;
                  at_mark = λ l. ap (mark_at classes pool rows) (add_sub row)
                      ∙ mark_told classes pool rows Own (known d) owner name descriptor row
                      (as_asked (λ l q. answers_by Own l cs q (entry_back pool (get_or rows row []))) ∙ own_holds);
                }

    module _ {index : List ℕ} (x : Chained classes pool rows index (length rows)) where
      pub own_link : 8192 + row < length index
      own_link = let i = own_inside in let s = x.size in let f = x.few in omega arith

      pub own_link_fits : Fits w64 (8192 + row)
      own_link_fits = let i = own_inside in let f = x.few in omega arith

pub ruleset lining_before = (home_inside, own_inside, line_row_lem, line_behind, own_link, own_link_fits, rules)

-- What the row that answers says.
module _ (cs : List Pair) (k : Key) (n : RawLine) (rows : List (List ℕ)) (pool : List ℕ) {z : Option ℕ} (a : z ≡ line_row cs k n rows pool) where
  pub line_none : z ≡ None → None ≡ line_of_method (mapping cs (entries_back rows pool)) k n
  line_none u = sym (line_unknown cs k rows pool n (sym a ∙ u))

  module _ {t : ℕ} (u : z ≡ Some t) where
    pub line_inside : t < length rows
    line_inside = (line_found cs k rows pool n (sym a ∙ u)).0

    pub line_other : {y : Ranges} → y ≡ (unpack_member (get_or rows t [])).ranges → {l : Option DisplayLine} → l ≡ line_name y n →
        l ≡ line_of_method (mapping cs (entries_back rows pool)) k n
    line_other v q = q ∙ ap (λ w. line_name w n) v ∙ sym (line_found cs k rows pool n (sym a ∙ u)).1

pub ruleset lining = (own_inside, line_here, line_missing, line_none, line_inside, line_other, rules)
