-- The first known piece of a text from a place on, however the text is cut behind it.
use Rattle.std.specs.Prelude.{◌≡◌, false, List, ℕ, zero, suc, ◌+◌, ◌≤◌, ◌<◌, length, take, drop}
use Rattle.table_rows.specs.Rows.{most_classes}
use Rattle.tables.specs.declared.search.Side.TheVariants.{Raw}
use Rattle.table_index.specs.Inner.Index.{IndexBy}
use Rattle.apply_rule.specs.Applying.{most_tree}
use Rattle.apply_pieces.specs.declared.note.Note.{Note}
use Rattle.apply_pieces.specs.Inner.Known.{raw_of, one_known, KnownAt}

-- no raw descriptor of the rows below `n` is longer than `longest`
pub record RawsTo (n : ℕ) (classes : List (List ℕ)) (pool : List ℕ) (longest : ℕ) : Type 0 where
  pub each : (row : ℕ) → row < n → length (raw_of classes pool row) ≤ longest

-- what a search in a text rests on
pub record Seekable (index : List ℕ) (classes : List (List ℕ)) (pool : List ℕ) (longest : ℕ) (text : List ℕ) : Type 0 where
  pub few : length classes ≤ most_classes
  pub short : length text ≤ most_tree
  pub raws : RawsTo (length classes) classes pool longest
  pub indexed : IndexBy Raw classes pool index

-- no piece from `a` on is known, up to whichever place the text is taken
pub record NeverKnown (classes : List (List ℕ)) (pool text : List ℕ) (a : ℕ) : Type 0 where
  pub never : (e : ℕ) → a ≤ e → e ≤ length text → one_known classes pool (drop a (take e text)) ≡ false

-- The first known piece from `a` on starts at `start` and has that row: in the text up to any place not before the piece's end. Up to one
-- before it no piece is known.
pub record FirstKnown (classes : List (List ℕ)) (pool text : List ℕ) (a start row : ℕ) : Type 0 where
  pub ends : start + length (raw_of classes pool row) ≤ length text
  pub short : (e : ℕ) → a ≤ e → e < start + length (raw_of classes pool row) → one_known classes pool (drop a (take e text)) ≡ false
  pub long : (e : ℕ) → start + length (raw_of classes pool row) ≤ e → e ≤ length text → KnownAt classes pool (take e text) a start row

-- the two numbers of a note, as in `NoteSays`
abbrev pub SoughtSays : ℕ → ℕ → List (List ℕ) → List ℕ → List ℕ → ℕ → Type 0
SoughtSays zero row classes pool text a = NeverKnown classes pool text a
SoughtSays (suc start) row classes pool text a = FirstKnown classes pool text a start row

pub record Sought (note : Note) (classes : List (List ℕ)) (pool text : List ℕ) (a : ℕ) : Type 0 where
  pub says : SoughtSays note.start note.row classes pool text a
  pub start_small : note.start < 4294967296
  pub row_small : note.row < 4294967296

abbrev pub note_at : ℕ → ℕ → Note
note_at start row = record { start = start + 1; row = row }
