-- Rows in the order of their texts, `keys`, and rows of one text in their own: the numbers of `order` from the place `a` to the place `b`.
use Rattle.std.specs.Prelude.{◌≡◌, true, false, List, [], ℕ, ◌-◌, ◌≤◌, ◌<◌, length, get_or, Option, Some, None}
use Rattle.table_index.specs.Inner.Order.{at_most}
use Rattle.table_index.specs.Inner.Heads.{head_of}

-- the text of the row at a place
abbrev pub key_at : List (List ℕ) → List ℕ → ℕ → List ℕ
key_at keys order i = get_or keys (get_or order i 0) []

-- all of them are rows below `k`
pub record Ranked (keys : List (List ℕ)) (order : List ℕ) (k a b : ℕ) : Type 0 where
  pub goes : a ≤ b
  pub room : b ≤ length order
  pub only : (i : ℕ) → a ≤ i → i < b → get_or order i 0 < k
  pub sorted : (i j : ℕ) → a ≤ i → i < j → j < b → at_most (key_at keys order i) (key_at keys order j) ≡ true
  pub stable : (i j : ℕ) → a ≤ i → i < j → j < b → key_at keys order i ≡ key_at keys order j → get_or order i 0 < get_or order j 0

-- a row stands there
pub record Seat (order : List ℕ) (a b row : ℕ) : Type 0 where
  pub place : ℕ
  pub after : a ≤ place
  pub before : place < b
  pub here : get_or order place 0 ≡ row

-- and all rows below `k` with the head `f` do
pub record Shelf (keys : List (List ℕ)) (ms order : List ℕ) (k f a b : ℕ) : Type 0 where
  pub ranked : Ranked keys order k a b
  pub all : (r : ℕ) → r < k → head_of ms r ≡ f → Seat order a b r

-- the rows before the place `p` are those whose text stands at or before the text `t`
pub record Bound (keys : List (List ℕ)) (order : List ℕ) (a b : ℕ) (t : List ℕ) (p : ℕ) : Type 0 where
  pub after : a ≤ p
  pub before : p ≤ b
  pub below : (i : ℕ) → a ≤ i → i < p → at_most (key_at keys order i) t ≡ true
  pub above : (i : ℕ) → p ≤ i → i < b → at_most (key_at keys order i) t ≡ false

-- `row` at the place `p`, and what stood from there to the place `b` one place further
pub record Inserted (old new : List ℕ) (p b row : ℕ) : Type 0 where
  pub size : length new ≡ length old
  pub front : (k : ℕ) → k < p → get_or new k 0 ≡ get_or old k 0
  pub here : get_or new p 0 ≡ row
  pub back : (k : ℕ) → p < k → k ≤ b → get_or new k 0 ≡ get_or old (k - 1) 0
  pub rest : (k : ℕ) → b < k → get_or new k 0 ≡ get_or old k 0

-- `row` is the last one there that has the text `t`
pub record LastSeat (keys : List (List ℕ)) (order : List ℕ) (a b : ℕ) (t : List ℕ) (row : ℕ) : Type 0 where
  pub place : ℕ
  pub after : a ≤ place
  pub before : place < b
  pub here : get_or order place 0 ≡ row
  pub has : get_or keys row [] ≡ t
  pub later : (i : ℕ) → place < i → i < b → key_at keys order i ≡ t → ⊥

-- the last row there that has the text, or none
abbrev pub LastOn : Option ℕ → List (List ℕ) → List ℕ → ℕ → ℕ → List ℕ → Type 0
LastOn (Some row) keys order a b t = LastSeat keys order a b t row
LastOn None keys order a b t = (i : ℕ) → a ≤ i → i < b → key_at keys order i ≡ t → ⊥
