-- Rows of one mark, chained: a table of two parts. The first 8,192 numbers say for each mark which row is the last with it, the 32,768
-- behind them for each row which one before it is the last with the same mark. The number of a row is its place and one more, and 0 where
-- there is none.
use Rattle.std.specs.Prelude.{◌≡◌, Bool, false, List, [], ℕ, zero, suc, ◌+◌, ◌-◌, ◌≤◌, ◌<◌, eqb, length, get_or, set, Option, Some}
use Rattle.ground.specs.Choice.{pick}
use Rattle.ground.specs.Look.{Look}
use Rattle.table_rows.specs.declared.rows.Member.{Member}
use Rattle.table_rows.specs.Classes.{Pair}
use Rattle.table_rows.specs.Rows.{unpack_class, unpack_member, most_members}
use Rattle.tables.specs.Back.{text_in, read_back}
use Rattle.tables.specs.Search.{or_row}
use Rattle.table_index.specs.Inner.Marks.{mark_count, mark_from}
use Rattle.load_rule.specs.Members.{Entry}
use Rattle.name_rule.specs.Mappings.{entry_back}
use Rattle.name_rule.specs.MemberNames.{Key, key, field_matches, owner_matches, method_matches}
use Rattle.name_rule.specs.MemberRows.{last_member}
use Rattle.name_members.specs.declared.rows.Sought.{Sought}
use Rattle.name_members.specs.declared.rows.Sought.TheVariants.{Field, Method, Own}
use Rattle.name_members.specs.Inner.Sought.{answers_by}

abbrev pub member_index_size : ℕ
member_index_size = 40960

-- the mark of a member: of the raw descriptor of its class, its raw name and its raw descriptor, one after the other
abbrev pub member_mark : List ℕ → List ℕ → List ℕ → ℕ
member_mark raw name descriptor = mark_from (mark_from (mark_from 0 raw) name) descriptor

-- the part of it that a class row gives
abbrev pub class_mark : List (List ℕ) → List ℕ → ℕ → ℕ
class_mark classes pool class = mark_from 0 (text_in pool (unpack_class (get_or classes class [])).raw)

abbrev pub row_mark : List (List ℕ) → List ℕ → Member → ℕ
row_mark classes pool m =
    member_mark (text_in pool (unpack_class (get_or classes m.class [])).raw) (text_in pool m.raw_name) (text_in pool m.descriptor)

-- the mark of the row `i`
abbrev pub mark_at : List (List ℕ) → List ℕ → List (List ℕ) → ℕ → ℕ
mark_at classes pool rows i = row_mark classes pool (unpack_member (get_or rows i []))

-- the number of the last row below `n` with the mark `h`, where `f` says the mark of each row
unfoldable pub last_below : (ℕ → ℕ) → ℕ → ℕ → ℕ
last_below f h zero = 0
last_below f h (suc n) = pick (eqb (f n) h) (suc n) (last_below f h n)

-- the table with one row more, of the mark `m`: it is linked to the row that was the last with that mark, and is the last itself
abbrev pub chained : List ℕ → ℕ → ℕ → List ℕ
chained index m row = set (set index (mark_count + row) (get_or index m 0)) m (row + 1)

-- the rows below `k` are chained
pub record Chained (classes : List (List ℕ)) (pool : List ℕ) (rows : List (List ℕ)) (index : List ℕ) (k : ℕ) : Type 0 where
  pub few : length rows ≤ most_members
  pub inside : k ≤ length rows
  pub size : length index ≡ member_index_size
  pub starts : (h : ℕ) → h < mark_count → get_or index h 0 ≡ last_below (mark_at classes pool rows) h k
  pub links : (i : ℕ) → i < k → get_or index (mark_count + i) 0 ≡ last_below (mark_at classes pool rows) (mark_at classes pool rows i) i

-- What is sought, in a class with the display descriptor `display`: no row from the number `count` on answers, and the one before has the
-- mark of what is looked for.
pub record Behind
    (classes : List (List ℕ))
    (pool : List ℕ)
    (rows : List (List ℕ))
    (sought : Sought)
    (display : Look)
    (owner name descriptor : List ℕ)
    (count : ℕ) : Type 0 where
  pub inside : count ≤ length rows
  pub none : (i : ℕ) → count ≤ i → i < length rows →
      answers_by sought display (read_back classes pool) (key owner name descriptor) (entry_back pool (get_or rows i [])) ≡ false
  pub at_mark : 0 < count → mark_at classes pool rows (count - 1) ≡ member_mark owner name descriptor

-- A field, or else a method, is wanted: what answers first, and what answers else.
abbrev pub first_wanted : Bool → Sought
first_wanted field = pick field Field Own

abbrev pub else_wanted : Bool → Sought
else_wanted field = pick field Field Method

abbrev pub wanted_by : Bool → List Pair → Key → Entry → Bool
wanted_by field cs k e = pick field (field_matches cs k e) (method_matches cs k e)

-- the row that answers, in a class with the display descriptor `display`
abbrev pub wanted_row : Bool → Look → List Pair → Key → List (List ℕ) → List ℕ → Option ℕ
wanted_row field display cs k rows pool =
    or_row (last_member (answers_by (first_wanted field) display cs k) rows pool)
    (last_member (answers_by (else_wanted field) display cs k) rows pool)

-- So far no row answers first, and `any` is the number of the last that answers else, or 0 where there is none yet.
pub record Walked
    (classes : List (List ℕ))
    (pool : List ℕ)
    (rows : List (List ℕ))
    (field : Bool)
    (display : Look)
    (owner name descriptor : List ℕ)
    (any count : ℕ) : Type 0 where
  pub first : Behind classes pool rows (first_wanted field) display owner name descriptor count
  pub none : any ≤ 0 → Behind classes pool rows (else_wanted field) display owner name descriptor count
  pub some : 0 < any →
      Some (any - 1) ≡ last_member (answers_by (else_wanted field) display (read_back classes pool) (key owner name descriptor)) rows pool

-- the member of a row, in the class of a class row, as what is looked for
abbrev pub key_of_row : List (List ℕ) → List (List ℕ) → List ℕ → ℕ → ℕ → Key
key_of_row classes rows pool class row =
    key (text_in pool (unpack_class (get_or classes class [])).raw) (text_in pool (unpack_member (get_or rows row [])).raw_name)
    (text_in pool (unpack_member (get_or rows row [])).descriptor)

-- the last row of a method whose display owner is the class's display
abbrev pub own_row : List (List ℕ) → List (List ℕ) → List ℕ → Key → Option ℕ
own_row classes rows pool k = last_member (owner_matches (read_back classes pool) k) rows pool
