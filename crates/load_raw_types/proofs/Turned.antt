-- Class pieces turned to raw, one after the other. Assumes nothing.
use Rattle.std.specs.Prelude.{Option, Some, None, Result, Ok, Err}
use mathlib.Core.Path.{◌≡◌, sym, ◌∙◌, ap}
use mathlib.Core.Bool.{Bool}
use mathlib.Core.List.{List, [], ◌∷◌, ◌++◌}
use Prim.Native.Nat.{ℕ, ◌+◌, ◌-◌, ◌^◌, ◌≤◌, ◌<◌}
use native.Mathlib.Omega.{arith}
use lib.ListN.{length, get_or, take, drop}
use lib.Seq.{drop-drop}
use mir.Val.{Fits}
use mir.Syntax.{w64}
use borrow.Author.Rules.{rules}
use Rattle.ground.specs.Put.{between}
use Rattle.ground.proofs.Parts.{take_rest}
use Rattle.text_places.specs.Places.{first_where, starts}
use Rattle.text_places.proofs.PlaceLaws.{seeking_starts, seeking_ends, seeking_found, byte_here, from_here, from_inside}
use Rattle.ground.specs.Look.{Look, look_or}
use Rattle.table_rows.specs.Classes.{back}
use Rattle.descriptor.specs.Pieces.{turn}
use Rattle.table_pool.specs.Inner.Wrote.{Written, WroteBy, no_room}
use Rattle.table_pool.proofs.Writes.{wrote_told, none_then, wrote_none, wrote_as}
use Rattle.table_rows.specs.declared.rows.Class.{Class}
use Rattle.table_rows.specs.Rows.{unpack_class}
use Rattle.tables.specs.Back.{text_in, read_back}
use Rattle.tables.specs.Search.{last_display}
use Rattle.tables.proofs.Searching.{display_found, display_unknown}
use Rattle.table_pool.specs.Inner.Named.{name_bytes, class_piece}
use Rattle.load_raw_types.specs.Inner.Behind.{Indexed}
use Rattle.load_raw_types.specs.Inner.Stretches.{inside_piece, outside_piece, Stretched}
use Rattle.load_raw_types.proofs.Pieces.{piece_whole, piece_first, plain_first, plain_all}
use Rattle.load_raw_types.proofs.Indexing.{indexed_finds}
use Rattle.table_pool.specs.declared.write.NoRoom.{NoRoom}

-- One piece.
module _ (rows : List (List ℕ)) (pool p : List ℕ) (r : Option ℕ) (f : r ≡ last_display rows pool p) where
  pub found_inside : {i : ℕ} → r ≡ Some i → i < length rows
  found_inside e = (display_found rows pool p (sym f ∙ e)).0

  pub found_below : {index : List ℕ} {at : ℕ} → Indexed rows pool index at → {i : ℕ} → r ≡ Some i →
      {c : Class} → c ≡ unpack_class (get_or rows i []) → {a n : ℕ} → a ≡ c.raw.place → n ≡ c.raw.length → a + n ≤ at
  found_below x {i} e z g h =
      let b = x.below.raw_below i (found_inside e) in
      let p = ap (λ y. y.raw.place) z in
      let q = ap (λ y. y.raw.length) z in
      omega arith

  pub found_put : {i : ℕ} → r ≡ Some i → {c : Class} → c ≡ unpack_class (get_or rows i []) → {a n : ℕ} → a ≡ c.raw.place → n ≡ c.raw.length →
      (t : Result ℕ NoRoom) (at : ℕ) (d : List ℕ) → WroteBy t pool at (take n (drop a pool)) d → WroteBy t pool at (look_or p (back (read_back rows pool) p)) d
  found_put {i} e z {a} {n} g h t at d w =
      let is : take n (drop a pool) ≡ text_in pool (unpack_class (get_or rows i [])).raw = rw (g, h, z) in
      wrote_as t pool at d (is ∙ ap (look_or p) (sym (display_found rows pool p (sym f ∙ e)).1)) w

  pub unknown_put : r ≡ None → (t : Result ℕ NoRoom) (at : ℕ) (d : List ℕ) → WroteBy t pool at p d → WroteBy t pool at (look_or p (back (read_back rows pool) p)) d
  unknown_put e t at d w = wrote_as t pool at d (ap (look_or p) (sym (display_unknown rows pool p (sym f ∙ e)))) w

pub ruleset turning_one = (indexed_finds, found_inside, found_below, found_put, unknown_put, rules)

-- A byte that may stand first.
module _ (b : ℕ) (s : List ℕ) where
  pub none_left : length s ≡ 0 → None ≡ first_where (starts b) s
  none_left h = seeking_ends (seeking_starts (starts b) s) (omega arith)

  pub stands_first : (length s ≡ 0 → ⊥) → get_or s 0 0 ≡ b → Some 0 ≡ first_where (starts b) s
  stands_first n e = seeking_found (seeking_starts (starts b) s) (omega arith) (byte_here b s 0 (omega arith) e)

pub ruleset standing = (none_left, stands_first, rules)

rest_of : (text : List ℕ) (at n m : ℕ) → at + n ≡ m → drop n (drop at text) ≡ drop m text
rest_of text at n m e = drop-drop n at text ∙ ap (λ k. drop k text) e

-- A byte that is looked for from a place on.
module _ (b : ℕ) (text : List ℕ) (start : ℕ) (i : start ≤ length text) {p : Option ℕ} (e : p ≡ first_where (starts b) (between text start (length text))) where
  module _ {n : ℕ} (f : p ≡ Some n) where
    pub gap_fits : length text < 2 ^ 64 → Fits w64 (start + n)
    gap_fits z = let r = from_inside b text start i e f in omega arith

    pub gap_inside : start + n ≤ length text
    gap_inside = let r = from_inside b text start i e f in omega arith

    pub gap_fits_past : length text < 2 ^ 64 → Fits w64 (start + n + 1)
    gap_fits_past z = let r = from_inside b text start i e f in omega arith

-- The piece that begins before `start`.
module _ (look : List ℕ → Look) (dots : Bool) (text : List ℕ) (start : ℕ) (i : start ≤ length text) {p : Option ℕ} (e : p ≡ first_where (starts 0x3B) (between text start (length text))) (r : Result ℕ NoRoom) (pool : List ℕ) (at : ℕ) (d : List ℕ) where
  module _ (f : p ≡ None) (w : WroteBy r pool at (look_or (class_piece dots (between text start (length text))) (look (class_piece dots (between text start (length text))))) d) where
    all_written : WroteBy r pool at (inside_piece look dots text start) d
    all_written = wrote_as r pool at d (rw (take_rest text start) (sym (piece_whole look dots (drop start text) (sym (from_here 0x3B text start e) ∙ f)))) w

    pub last_piece : {q : ℕ} → r ≡ Ok q → Written q pool at (inside_piece look dots text start) d
    last_piece g = wrote_told r pool at (inside_piece look dots text start) d all_written g

    pub last_piece_no_room : r ≡ Err no_room → length pool < at + length (inside_piece look dots text start)
    last_piece_no_room g = wrote_none r pool at (inside_piece look dots text start) d all_written g

  module _ {n : ℕ} (f : p ≡ Some n) (w : WroteBy r pool at (look_or (class_piece dots (between text start (start + n))) (look (class_piece dots (between text start (start + n))))) d) where
    piece : List ℕ
    piece = look_or (class_piece dots (between text start (start + n))) (look (class_piece dots (between text start (start + n))))

    split : inside_piece look dots text start ≡ piece ++ outside_piece look dots text (start + n + 1)
    unfolding piece
    split =
        let z : start + n - start ≡ n = omega arith in
        rw z (piece_first look dots (drop start text) (sym (from_here 0x3B text start e) ∙ f)
        ∙ ap (λ l. look_or (class_piece dots (take n (drop start text))) (look (class_piece dots (take n (drop start text)))) ++ turn look (name_bytes dots l ++ (0x3B ∷ []))) (rest_of text start (n + 1) (start + n + 1) (omega arith)))

    pub first_piece : {q : ℕ} → r ≡ Ok q → Stretched q (start + n + 1) start (length text) (inside_piece look dots text start) (outside_piece look dots text (start + n + 1)) pool at d
    unfolding piece
    first_piece g = record {
      past = omega arith;
      inside = let j = from_inside 0x3B text start i e f in omega arith;
      done = piece;
      written = wrote_told r pool at piece d w g;
      splits = split;
    }

    pub first_piece_no_room : r ≡ Err no_room → length pool < at + length (inside_piece look dots text start)
    unfolding piece
    first_piece_no_room g = rw split (none_then pool at piece (outside_piece look dots text (start + n + 1)) (wrote_none r pool at piece d w g))

pub ruleset first_pieces = (gap_fits, gap_inside, gap_fits_past, last_piece, last_piece_no_room, first_piece, first_piece_no_room, rules)

-- Between pieces.
module _ (dots : Bool) (text : List ℕ) (start : ℕ) (i : start ≤ length text) {p : Option ℕ} (e : p ≡ first_where (starts 0x4C) (between text start (length text))) (r : Result ℕ NoRoom) (pool : List ℕ) (at : ℕ) (d : List ℕ) where
  module _ (f : p ≡ None) (w : WroteBy r pool at (name_bytes dots (between text start (length text)) ++ (0x3B ∷ [])) d) (look : List ℕ → Look) where
    all_plain : WroteBy r pool at (outside_piece look dots text start) d
    all_plain = wrote_as r pool at d (rw (take_rest text start) (sym (plain_all look dots (drop start text) (sym (from_here 0x4C text start e) ∙ f)))) w

    pub last_plain : {q : ℕ} → r ≡ Ok q → Written q pool at (outside_piece look dots text start) d
    last_plain g = wrote_told r pool at (outside_piece look dots text start) d all_plain g

    pub last_plain_no_room : r ≡ Err no_room → length pool < at + length (outside_piece look dots text start)
    last_plain_no_room g = wrote_none r pool at (outside_piece look dots text start) d all_plain g

  module _ {n : ℕ} (f : p ≡ Some n) (w : WroteBy r pool at (name_bytes dots (between text start (start + n))) d) (look : List ℕ → Look) where
    split_plain : outside_piece look dots text start ≡ name_bytes dots (between text start (start + n)) ++ inside_piece look dots text (start + n + 1)
    split_plain =
        let z : start + n - start ≡ n = omega arith in
        rw z (plain_first look dots (drop start text) (sym (from_here 0x4C text start e) ∙ f)
        ∙ ap (λ l. name_bytes dots (take n (drop start text)) ++ turn look (class_piece dots l)) (rest_of text start (n + 1) (start + n + 1) (omega arith)))

    pub first_plain : {q : ℕ} → r ≡ Ok q → Stretched q (start + n + 1) start (length text) (outside_piece look dots text start) (inside_piece look dots text (start + n + 1)) pool at d
    first_plain g = record {
      past = omega arith;
      inside = let j = from_inside 0x4C text start i e f in omega arith;
      done = name_bytes dots (between text start (start + n));
      written = wrote_told r pool at (name_bytes dots (between text start (start + n))) d w g;
      splits = split_plain;
    }

    pub first_plain_no_room : r ≡ Err no_room → length pool < at + length (outside_piece look dots text start)
    first_plain_no_room g =
        rw split_plain (none_then pool at (name_bytes dots (between text start (start + n))) (inside_piece look dots text (start + n + 1)) (wrote_none r pool at (name_bytes dots (between text start (start + n))) d w g))

pub ruleset plains = (gap_fits, gap_inside, gap_fits_past, last_plain, last_plain_no_room, first_plain, first_plain_no_room, rules)
