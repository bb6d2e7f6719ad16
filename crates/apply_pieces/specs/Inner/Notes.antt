-- Notes about the names of a tree: in place of each name row the first piece of its text that is known.
use Rattle.std.specs.Prelude.{◌≡◌, false, List, ℕ, zero, suc, ◌+◌, ◌*◌, ◌≤◌, ◌<◌, length, take, drop}
use Rattle.tree_rule.specs.declared.TreeCounts.{TreeCounts}
use Rattle.tree_rule.specs.Words.{word_at}
use Rattle.tree_rule.specs.Files.{names_start, bytes_start, file_length, text_at}
use Rattle.apply_pieces.specs.declared.note.Note.{Note}
use Rattle.apply_pieces.specs.Inner.Known.{one_known, KnownAt}

-- the two numbers of a note: one more than the place where the piece starts, and its row; where no piece is known the first one is 0
abbrev pub NoteSays : ℕ → ℕ → List (List ℕ) → List ℕ → List ℕ → Type 0
NoteSays zero row classes pool text = one_known classes pool text ≡ false
NoteSays (suc start) row classes pool text = KnownAt classes pool text 0 start row

-- a note about a text, in numbers of 32 bits
pub record NoteBy (note : Note) (classes : List (List ℕ)) (pool text : List ℕ) : Type 0 where
  pub says : NoteSays note.start note.row classes pool text
  pub start_small : note.start < 4294967296
  pub row_small : note.row < 4294967296

-- the notes about the names below `count` of the file `f` are made, and what stands before the name rows and behind the file is as it was:
-- the room of the name bytes is free until the output is written
pub record NotedBelow (count : ℕ) (c : TreeCounts) (f : List ℕ) (classes : List (List ℕ)) (pool old new : List ℕ) : Type 0 where
  pub size : length new ≡ length old
  pub before : take (names_start c) new ≡ take (names_start c) old
  pub behind : drop (file_length c) new ≡ drop (file_length c) old
  pub notes : (n : ℕ) → n < count →
      NoteSays (word_at new (names_start c + 8 * n)) (word_at new (names_start c + 8 * n + 4)) classes pool (text_at c f n)

abbrev pub Noted : TreeCounts → List ℕ → List (List ℕ) → List ℕ → List ℕ → List ℕ → Type 0
Noted c f classes pool old new = NotedBelow c.names c f classes pool old new

-- The notes about all names stand in the output.
pub record NotesTold (classes : List (List ℕ)) (pool : List ℕ) (c : TreeCounts) (f out : List ℕ) : Type 0 where
  pub room : bytes_start c ≤ length out
  pub says : (n : ℕ) → n < c.names →
      NoteSays (word_at out (names_start c + 8 * n)) (word_at out (names_start c + 8 * n + 4)) classes pool (text_at c f n)
