-- The table: rows in order, the head of each row, where the shelf of each head starts and ends, and for each mark the number of its head.
use Rattle.std.specs.Prelude.{◌≡◌, List, ℕ, zero, suc, ◌+◌, ◌≤◌, ◌<◌, length, get_or, set}
use Rattle.table_rows.specs.Rows.{most_classes}
use Rattle.tables.specs.declared.search.Side.{Side}
use Rattle.table_index.specs.Inner.Marks.{mark_count, marks_of}
use Rattle.table_index.specs.Inner.Keys.{keys_of}
use Rattle.table_index.specs.Inner.Heads.{first_with, head_of, count_with, count_below}
use Rattle.table_index.specs.Inner.Shelves.{Shelf, Inserted}

-- where each part of the table starts; the order of the rows stands before them
abbrev pub heads_at : ℕ
heads_at = 4096

abbrev pub starts_at : ℕ
starts_at = 8192

abbrev pub ends_at : ℕ
ends_at = 12288

abbrev pub marks_at : ℕ
marks_at = 16384

abbrev pub index_size : ℕ
index_size = 24576

-- the table with one row more, which has that head
abbrev pub joined : List ℕ → ℕ → ℕ → List ℕ
joined index row head = set (set index (heads_at + row) head) (ends_at + head) (get_or index (ends_at + head) 0 + 1)

-- the table with one shelf more, which starts there and is empty
abbrev pub placed : List ℕ → ℕ → ℕ → List ℕ
placed index head start = set (set index (starts_at + head) start) (ends_at + head) start

-- Of `n` rows with the marks `ms` those below `k` have their head, and each shelf says how many of them it will have.
pub record Grouped (n : ℕ) (ms index : List ℕ) (k : ℕ) : Type 0 where
  pub few : n ≤ most_classes
  pub inside : k ≤ n
  pub size : length index ≡ index_size
  pub firsts : (m : ℕ) → m < mark_count → get_or index (marks_at + m) 0 ≡ first_with ms m k
  pub heads : (r : ℕ) → r < k → get_or index (heads_at + r) 0 ≡ head_of ms r
  pub counts : (f : ℕ) → f < most_classes → get_or index (ends_at + f) 0 ≡ count_with ms f k

-- how many rows the shelves before that of the head `f` will have
unfoldable pub rows_before : List ℕ → ℕ → ℕ
rows_before index zero = 0
rows_before index (suc f) = rows_before index f + get_or index (ends_at + f) 0

-- Of `n` shelves those of the heads below `g` have their place: `sum` rows will stand on them. The rest of the table `old` is as it was.
pub record Laid (old : List ℕ) (n : ℕ) (index : List ℕ) (g sum : ℕ) : Type 0 where
  pub few : n ≤ most_classes
  pub inside : g ≤ n
  pub bounded : rows_before old n ≤ most_classes
  pub size : length index ≡ index_size
  pub firsts : (m : ℕ) → m < mark_count → get_or index (marks_at + m) 0 ≡ get_or old (marks_at + m) 0
  pub heads : (r : ℕ) → r < most_classes → get_or index (heads_at + r) 0 ≡ get_or old (heads_at + r) 0
  pub starts : (f : ℕ) → f < g → get_or index (starts_at + f) 0 ≡ rows_before old f
  pub ends : (f : ℕ) → f < g → get_or index (ends_at + f) 0 ≡ rows_before old f
  pub counts : (f : ℕ) → g ≤ f → f < most_classes → get_or index (ends_at + f) 0 ≡ get_or old (ends_at + f) 0
  pub summed : sum ≡ rows_before old g

-- The rows below `k` stand on the shelves of their heads, in the order of their texts.
pub record Shelved (n : ℕ) (keys : List (List ℕ)) (ms index : List ℕ) (k : ℕ) : Type 0 where
  pub few : n ≤ most_classes
  pub inside : k ≤ n
  pub size : length index ≡ index_size
  pub firsts : (m : ℕ) → m < mark_count → get_or index (marks_at + m) 0 ≡ first_with ms m n
  pub heads : (r : ℕ) → r < n → get_or index (heads_at + r) 0 ≡ head_of ms r
  pub starts : (f : ℕ) → f < n → get_or index (starts_at + f) 0 ≡ count_below ms f n
  pub ends : (f : ℕ) → f < n → get_or index (ends_at + f) 0 ≡ count_below ms f n + count_with ms f k
  pub shelves : (f : ℕ) → f < n → Shelf keys ms index k f (count_below ms f n) (count_below ms f n + count_with ms f k)

-- the shelf of the head `f` starts at the place `a` and ends at the place `b`
pub record ShelfAt (index : List ℕ) (f a b : ℕ) : Type 0 where
  pub starts : a ≡ get_or index (starts_at + f) 0
  pub ends : b ≡ get_or index (ends_at + f) 0

-- `row` stands at the place `p` of the shelf of the head `f`, which ended at the place `b`
pub record Filed (old new : List ℕ) (p b row f : ℕ) : Type 0 where
  pub middle : List ℕ
  pub inserted : Inserted old middle p b row
  pub is : new ≡ set middle (ends_at + f) (b + 1)

-- of class rows, by their descriptors on one side
abbrev pub GroupedClasses : Side → List (List ℕ) → List ℕ → List ℕ → ℕ → Type 0
GroupedClasses side rows pool index k = Grouped (length rows) (marks_of (keys_of side rows pool)) index k

abbrev pub ShelvedClasses : Side → List (List ℕ) → List ℕ → List ℕ → ℕ → Type 0
ShelvedClasses side rows pool index k =
    Shelved (length rows) (keys_of side rows pool) (marks_of (keys_of side rows pool)) index k

-- A table of that size is an index of all of them. One of any other size is none: rows are asked one by one then.
pub record IndexBy (side : Side) (rows : List (List ℕ)) (pool index : List ℕ) : Type 0 where
  pub shelved : length index ≡ index_size → ShelvedClasses side rows pool index (length rows)
