-- What is written of the new names, and of a whole tree.
use Rattle.std.specs.Prelude.{◌≡◌, List, ◌++◌, map, ℕ, ◌+◌, ◌*◌, ◌≤◌, ◌<◌, length, take, drop, Result, Ok, Err}
use Rattle.ground.specs.Join.{join}
use Rattle.ground.specs.Put.{put, between}
use Rattle.tables.specs.declared.search.Side.TheVariants.{Raw}
use Rattle.table_index.specs.Inner.Index.{IndexBy}
use Rattle.tree_rule.specs.declared.TreeCounts.{TreeCounts}
use Rattle.tree_rule.specs.Words.{word_at}
use Rattle.tree_rule.specs.Files.{
  tree_counts,
  nodes_start,
  tokens_start,
  names_start,
  bytes_start,
  file_length,
  bytes_in,
  text_at,
  name_row_bytes,
  count_bytes,
}
use Rattle.tree_rule.specs.Theorems.{FormedBy}
use Rattle.apply_rule.specs.Applying.{name_rows, most_tree}
use Rattle.apply_rule.specs.Inner.Plans.{laid_from}
use Rattle.apply_pieces.specs.Inner.Notes.{NoteSays}
use Rattle.apply_plans.specs.Inner.Entries.{planned_names, PlansFit}
use Rattle.table_pool.specs.declared.write.NoRoom.{NoRoom}

-- All token rows stand in the output, in the place of each name row of the tree a note about the name, and in the place of each of the
-- `count` new name rows the plan of the name.
pub record Ready
    (index : List ℕ)
    (classes : List (List ℕ))
    (pool : List ℕ)
    (c : TreeCounts)
    (f : List ℕ)
    (count : ℕ)
    (out : List ℕ) : Type 0 where
  pub formed : FormedBy c f
  pub room : file_length c ≤ length out
  pub most : length out ≤ most_tree
  pub rows : bytes_start c + 8 * count ≤ length out
  pub indexed : IndexBy Raw classes pool index
  pub notes : (n : ℕ) → n < c.names →
      NoteSays (word_at out (names_start c + 8 * n)) (word_at out (names_start c + 8 * n + 4)) classes pool (text_at c f n)
  pub plans : PlansFit c out count

-- What comes out: the token rows as they stand in `old`, and the names that are planned there.
abbrev pub output_from : (classes : List (List ℕ)) (pool : List ℕ) (c : TreeCounts) (f : List ℕ) (count : ℕ) (old : List ℕ) → List ℕ
output_from classes pool c f count old =
    laid_from c f (between old (tokens_start c) (names_start c)) (planned_names classes pool c f old count)

-- Where `count` names are new, the name bytes of the tree start behind all name rows, and the texts of the new names behind those.
abbrev pub texts_start : TreeCounts → ℕ → ℕ
texts_start c count = bytes_start c + 8 * count + c.bytes

-- there is room for all but the texts of the new names
pub record NamesReady
    (index : List ℕ)
    (classes : List (List ℕ))
    (pool : List ℕ)
    (c : TreeCounts)
    (f : List ℕ)
    (count : ℕ)
    (out : List ℕ) : Type 0 where
  pub ready : Ready index classes pool c f count out
  pub rows_room : texts_start c count ≤ length out

-- The first `k` of the `count` new names have their rows, and their texts, which end at the place `end`. What stands before the rows, and
-- behind that place, is as it was.
pub record NamesBelow
    (k : ℕ)
    (classes : List (List ℕ))
    (pool : List ℕ)
    (c : TreeCounts)
    (f : List ℕ)
    (count «end» : ℕ)
    (old new : List ℕ) : Type 0 where
  pub size : length new ≡ length old
  pub past : «end» ≡ texts_start c count + length (join (planned_names classes pool c f old k))
  pub room : «end» ≤ length old
  pub rows : between new (bytes_start c) (bytes_start c + 8 * k) ≡
      join (map name_row_bytes (name_rows c.bytes (planned_names classes pool c f old k)))
  pub texts : between new (texts_start c count) «end» ≡ join (planned_names classes pool c f old k)
  pub before : take (bytes_start c) new ≡ take (bytes_start c) old
  pub behind : drop «end» new ≡ drop «end» old

-- the output needs more room
pub record OutputOver (classes : List (List ℕ)) (pool : List ℕ) (c : TreeCounts) (f : List ℕ) (count : ℕ) (old : List ℕ) : Type 0 where
  pub over : length old < length (output_from classes pool c f count old)

abbrev pub NamesBy : Result ℕ NoRoom → (classes : List (List ℕ)) (pool : List ℕ) (c : TreeCounts) (f : List ℕ) (count : ℕ) (old new : List ℕ) →
    Type 0
NamesBy (Ok «end») classes pool c f count old new = NamesBelow count classes pool c f count «end» old new
NamesBy (Err _) classes pool c f count old new = OutputOver classes pool c f count old

-- The output has room for `count` names and `size` bytes of text that are added.
pub record FinishReady (c : TreeCounts) (f : List ℕ) (count size : ℕ) (out : List ℕ) : Type 0 where
  pub file : length f ≡ file_length c
  pub room : texts_start c count + size ≤ length out
  pub most : length out ≤ most_tree

-- All that stands as it did in the tree, and the counts: `count` names are added, and `size` bytes of text.
abbrev pub finished : TreeCounts → List ℕ → (count size : ℕ) → List ℕ → List ℕ
finished c f count size out =
    put (put (put (put out 0 (count_bytes (tree_counts c.nodes c.tokens (c.names + count) (c.bytes + size)))) nodes_start
    (between f nodes_start (tokens_start c))) (names_start c) (between f (names_start c) (bytes_start c))) (bytes_start c + 8 * count)
    (bytes_in c f)

-- The whole output is written; its length is `end`.
pub record OutputIs
    («end» : ℕ)
    (classes : List (List ℕ))
    (pool : List ℕ)
    (c : TreeCounts)
    (f : List ℕ)
    (count : ℕ)
    (old new : List ℕ) : Type 0 where
  pub past : «end» ≡ length (output_from classes pool c f count old)
  pub room : «end» ≤ length old
  pub is : new ≡ output_from classes pool c f count old ++ drop «end» old

abbrev pub OutputBy : Result ℕ NoRoom → (classes : List (List ℕ)) (pool : List ℕ) (c : TreeCounts) (f : List ℕ) (count : ℕ) (old new : List ℕ) →
    Type 0
OutputBy (Ok «end») classes pool c f count old new = OutputIs «end» classes pool c f count old new
OutputBy (Err _) classes pool c f count old new = OutputOver classes pool c f count old
