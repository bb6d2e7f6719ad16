-- The first class piece of a descriptor, the first one that is known as a raw descriptor, and the row that shows it.
use Rattle.std.specs.Prelude.{◌≡◌, Bool, true, false, List, [], ◌++◌, ℕ, ◌+◌, ◌≤◌, ◌<◌, length, get_or, drop, Some, Option, None}
use Rattle.ground.specs.Choice.{either}
use Rattle.ground.specs.Look.{Look, is_known, look_or}
use Rattle.ground.specs.Put.{between}
use Rattle.table_rows.specs.Rows.{unpack_class}
use Rattle.table_rows.specs.Classes.{shown}
use Rattle.tables.specs.Back.{text_in, read_back}
use Rattle.tables.specs.Search.{last_raw}
use Rattle.descriptor.specs.Pieces.{parts_from, turn}
use Rattle.apply_rule.specs.Changes.{piece_known}
use Rattle.apply_pieces.specs.declared.known.KnownPiece.{KnownPiece}
use Rattle.apply_pieces.specs.declared.known.NextPiece.{NextPiece}

abbrev pub piece_of_row : ℕ → ℕ → KnownPiece
piece_of_row start row = record { start = start; row = row }

abbrev pub piece_between : ℕ → ℕ → NextPiece
piece_between a e = record { start = a; «end» = e }

-- The first class piece from the place `from` on ends before the place `end`: whichever classes there are, it is turned, what stands before
-- it stays, and the rest is turned.
pub record PieceAt (text : List ℕ) («from» start «end» : ℕ) : Type 0 where
  pub after : «from» ≤ start
  pub some : start < «end»
  pub inside : «end» ≤ length text
  pub one : (look : List ℕ → Look) → piece_known look (parts_from [] (drop «from» text)) ≡
      either (is_known (look (between text start «end»))) (piece_known look (parts_from [] (drop «end» text)))
  pub turns : (look : List ℕ → Look) → turn look (drop «from» text) ≡
      between text «from» start ++ (look_or (between text start «end») (look (between text start «end»)) ++ turn look (drop «end» text))

abbrev pub PieceBy : Option NextPiece → List ℕ → ℕ → Type 0
PieceBy (Some r) text «from» = PieceAt text «from» r.start r.«end»
PieceBy None text «from» = (look : List ℕ → Look) → piece_known look (parts_from [] (drop «from» text)) ≡ false

-- the descriptors of a class row
abbrev pub raw_of : List (List ℕ) → List ℕ → ℕ → List ℕ
raw_of classes pool row = text_in pool (unpack_class (get_or classes row [])).raw

abbrev pub display_of : List (List ℕ) → List ℕ → ℕ → List ℕ
display_of classes pool row = text_in pool (unpack_class (get_or classes row [])).display

-- "one piece is known"
abbrev pub one_known : List (List ℕ) → List ℕ → List ℕ → Bool
one_known classes pool text = piece_known (shown (read_back classes pool)) (parts_from [] text)

-- each piece that is known, turned to its display
abbrev pub all_shown : List (List ℕ) → List ℕ → List ℕ → List ℕ
all_shown classes pool text = turn (shown (read_back classes pool)) text

-- from the place `from` on: what stands before the piece stays, the row's display descriptor stands for the piece, and the rest is turned;
-- the row is the last that has the piece as its raw descriptor
pub record KnownAt (classes : List (List ℕ)) (pool text : List ℕ) («from» start row : ℕ) : Type 0 where
  pub after : «from» ≤ start
  pub inside : row < length classes
  pub filled : 0 < length (raw_of classes pool row)
  pub ends : start + length (raw_of classes pool row) ≤ length text
  pub last : last_raw classes pool (between text start (start + length (raw_of classes pool row))) ≡ Some row
  pub one : one_known classes pool (drop «from» text) ≡ true
  pub turns : all_shown classes pool (drop «from» text) ≡
      between text «from» start ++
      (display_of classes pool row ++ all_shown classes pool (drop (start + length (raw_of classes pool row)) text))

abbrev pub KnownBy : Option KnownPiece → List (List ℕ) → List ℕ → List ℕ → ℕ → Type 0
KnownBy (Some r) classes pool text «from» = KnownAt classes pool text «from» r.start r.row
KnownBy None classes pool text «from» = one_known classes pool (drop «from» text) ≡ false
