-- What is written of one new name: its text, and its row.
use Rattle.std.specs.Prelude.{◌≡◌, List, ℕ, ◌+◌, ◌*◌, ◌-◌, ◌≤◌, ◌<◌, length, Result, Ok, Err}
use Rattle.ground.specs.Put.{put}
use Rattle.table_rows.specs.Rows.{text}
use Rattle.tables.specs.declared.search.Side.TheVariants.{Raw}
use Rattle.table_index.specs.Inner.Index.{IndexBy}
use Rattle.tree_rule.specs.declared.TreeCounts.{TreeCounts}
use Rattle.tree_rule.specs.Words.{word_at}
use Rattle.tree_rule.specs.Files.{names_start, file_length, text_at, name_row_bytes}
use Rattle.apply_rule.specs.Applying.{most_tree}
use Rattle.apply_pieces.specs.Inner.Notes.{NoteSays}
use Rattle.apply_plans.specs.Inner.Entries.{entry_at, planned_text}
use Rattle.apply_output.specs.Inner.Plan.{PlanReady}
use Rattle.table_pool.specs.declared.write.NoRoom.{NoRoom}

-- The new name `k` is planned, and all that its plan can mean is there: the tree, the index, and the notes about names.
pub record BodyReady
    (index : List ℕ)
    (classes : List (List ℕ))
    (pool : List ℕ)
    (c : TreeCounts)
    (f : List ℕ)
    (k : ℕ)
    (out : List ℕ) : Type 0 where
  pub file : file_length c ≤ length f
  pub indexed : IndexBy Raw classes pool index
  pub notes : (n : ℕ) → n < c.names →
      NoteSays (word_at out (names_start c + 8 * n)) (word_at out (names_start c + 8 * n + 4)) classes pool (text_at c f n)
  pub plan : PlanReady c out k

-- Its row stands before the place `bytes`, where the name bytes of the tree start, and the texts of the names before it end at `end`.
pub record NameReady
    (index : List ℕ)
    (classes : List (List ℕ))
    (pool : List ℕ)
    (c : TreeCounts)
    (f : List ℕ)
    (bytes k «end» : ℕ)
    (out : List ℕ) : Type 0 where
  pub body : BodyReady index classes pool c f k out
  pub most : length out ≤ most_tree
  pub row : entry_at c k + 8 ≤ bytes
  pub before : bytes ≤ «end»
  pub room : «end» ≤ length out

-- its text ends at the place `past`, and its row stands in the place of its plan
pub record NamePut
    (past : ℕ)
    (classes : List (List ℕ))
    (pool : List ℕ)
    (c : TreeCounts)
    (f : List ℕ)
    (bytes k «end» : ℕ)
    (old new : List ℕ) : Type 0 where
  pub behind : past ≡ «end» + length (planned_text classes pool c f old k)
  pub room : «end» + length (planned_text classes pool c f old k) ≤ length old
  pub is : new ≡ put (put old «end» (planned_text classes pool c f old k)) (entry_at c k)
      (name_row_bytes (text («end» - bytes) (length (planned_text classes pool c f old k))))

-- there is no room for its text
pub record NameOver (classes : List (List ℕ)) (pool : List ℕ) (c : TreeCounts) (f : List ℕ) (k «end» : ℕ) (old : List ℕ) : Type 0 where
  pub full : length old < «end» + length (planned_text classes pool c f old k)

abbrev pub NameBy : Result ℕ NoRoom → (classes : List (List ℕ)) (pool : List ℕ) (c : TreeCounts) (f : List ℕ) (bytes k «end» : ℕ)
    (old new : List ℕ) → Type 0
NameBy (Ok past) classes pool c f bytes k «end» old new = NamePut past classes pool c f bytes k «end» old new
NameBy (Err _) classes pool c f bytes k «end» old new = NameOver classes pool c f k «end» old
