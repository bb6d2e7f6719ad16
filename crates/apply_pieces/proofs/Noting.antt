-- A note about each name of a tree. Assumes nothing.
use Rattle.std.specs.Prelude.{Option, Some, None}
use mathlib.Core.Path.{◌≡◌, refl, ◌∙◌, ap}
use mathlib.Core.List.{List}
use mathlib.Core.Logic.{◌⊎◌, inl, inr}
use Prim.Native.Nat.{ℕ, ◌+◌, ◌*◌, ◌-◌, ◌≤◌, ◌<◌}
use native.Mathlib.Numerals.{add-one}
use native.Mathlib.Omega.{arith}
use lib.ListN.{length, take, drop, length-take, length-drop}
use mir.Val.{Fits}
use mir.Syntax.{w32, w64}
use borrow.Author.Rules.{rules}
use Rattle.ground.specs.Put.{put}
use Rattle.ground.proofs.Cases.{le_or_lt}
use Rattle.ground.proofs.PutLaws.{length_put}
use Rattle.table_rows.specs.Rows.{most_classes}
use Rattle.tree_rule.specs.declared.TreeCounts.{TreeCounts}
use Rattle.tree_rule.specs.Words.{word_at, word_bytes}
use Rattle.tree_rule.specs.Files.{names_start, bytes_start, file_length, name_at, bytes_in, text_at}
use Rattle.tree_rule.proofs.WordLaws.{bytes_length}
use Rattle.tree_rule.proofs.PutWords.{take_put, drop_put, word_before, word_put}
use Rattle.apply_rule.specs.Applying.{most_tree}
use Rattle.apply_pieces.specs.declared.note.Note.{Note}
use Rattle.apply_pieces.specs.Inner.Known.{KnownAt, KnownBy, piece_of_row}
use Rattle.apply_pieces.specs.Inner.Notes.{NoteSays, NoteBy, NotedBelow}
use Rattle.apply_pieces.specs.declared.known.KnownPiece.{KnownPiece}

-- The note about one text.
module _ (classes : List (List ℕ)) (pool text : List ℕ) (p : Option KnownPiece) (k : KnownBy p classes pool text 0) where
  pub note_none : p ≡ None → NoteBy (record { start = 0; row = 0 }) classes pool text
  note_none e = record { says = rw e at k; start_small = omega arith; row_small = omega arith }

  module _ (short : length text ≤ most_tree) (few : length classes ≤ most_classes) {x : KnownPiece} (e : p ≡ Some x) where
    found : KnownAt classes pool text 0 x.start x.row
    found = rw e at k

    small : x.start + 1 ≤ most_tree
    small =
        let a = found.filled in
        let b = found.ends in
        omega arith

    pub note_place_fits : Fits w64 (x.start + 1)
    note_place_fits = let a = small in omega arith

    pub note_place_narrow : Fits w32 (x.start + 1)
    note_place_narrow = let a = small in omega arith

    pub note_row_narrow : Fits w32 x.row
    note_row_narrow = let a = found.inside in omega arith

    pub note_found : NoteBy (record { start = x.start + 1; row = x.row }) classes pool text
    note_found = record {
      says = rw (add-one x.start) found;
      start_small = let a = small in omega arith;
      row_small = let a = found.inside in omega arith;
    }

pub ruleset note_taking = (note_none, note_place_fits, note_place_narrow, note_row_narrow, note_found, rules)

-- Two numbers, one after the other.
pub two_put : (d : List ℕ) (at a b : ℕ) {x y : List ℕ} → x ≡ put d at (word_bytes a) → y ≡ put x (at + 4) (word_bytes b) →
    y ≡ put (put d at (word_bytes a)) (at + 4) (word_bytes b)
two_put d at a b e f = rw (← e) f

pub ruleset note_putting = (two_put, rules)

module _ (d : List ℕ) (at : ℕ) (fits : at + 8 ≤ length d) (a b : ℕ) where
  abbrev one : List ℕ
  one = put d at (word_bytes a)

  abbrev two : List ℕ
  two = put one (at + 4) (word_bytes b)

  fits_one : at + length (word_bytes a) ≤ length d
  fits_one = omega (arith, bytes_length a)

  one_size : length one ≡ length d
  one_size = length_put d at (word_bytes a) fits_one

  fits_two : at + 4 + length (word_bytes b) ≤ length one
  fits_two = omega (arith, one_size, bytes_length b)

  pub two_size : length two ≡ length d
  two_size = length_put one (at + 4) (word_bytes b) fits_two ∙ one_size

  pub two_before : (e : ℕ) → e ≤ at → take e two ≡ take e d
  two_before e h = take_put one (at + 4) (word_bytes b) fits_two e (omega arith) ∙ take_put d at (word_bytes a) fits_one e h

  pub two_behind : (e : ℕ) → at + 8 ≤ e → drop e two ≡ drop e d
  two_behind e h =
      drop_put one (at + 4) (word_bytes b) fits_two e (omega (arith, bytes_length b))
      ∙ drop_put d at (word_bytes a) fits_one e (omega (arith, bytes_length a))

  pub two_word : (e : ℕ) → e + 4 ≤ at → word_at two e ≡ word_at d e
  two_word e h = word_before one (at + 4) (word_bytes b) fits_two e (omega arith) ∙ word_before d at (word_bytes a) fits_one e h

  pub first_word : a < 4294967296 → word_at two at ≡ a
  first_word h = word_before one (at + 4) (word_bytes b) fits_two at (omega arith) ∙ word_put d at a h fits_one

  pub second_word : b < 4294967296 → word_at two (at + 4) ≡ b
  second_word h = word_put one (at + 4) b h fits_two

-- The names below `n` have their notes.
pub record Noting (c : TreeCounts) (f : List ℕ) (classes : List (List ℕ)) (pool old new : List ℕ) (n : ℕ) : Type 0 where
  pub inside : n ≤ c.names
  pub noted : NotedBelow n c f classes pool old new

pub noting_starts : (c : TreeCounts) (f : List ℕ) (classes : List (List ℕ)) (pool old : List ℕ) → Noting c f classes pool old old 0
noting_starts c f classes pool old = record {
  inside = omega arith;
  noted = record { size = refl; before = refl; behind = refl; notes = λ n h. absurd (omega arith) };
}

-- a name is not longer than the file
pub name_short : (c : TreeCounts) (f : List ℕ) (n : ℕ) → length f ≤ most_tree → {t : List ℕ} → t ≡ text_at c f n → length t ≤ most_tree
name_short c f n h e =
    let a = length-take (name_at c f n).length (drop (name_at c f n).place (bytes_in c f)) in
    let b = length-drop (name_at c f n).place (bytes_in c f) in
    let d = length-take (file_length c - bytes_start c) (drop (bytes_start c) f) in
    let g = length-drop (bytes_start c) f in
    omega (arith, ap length e)

module _
    {c : TreeCounts} {f : List ℕ} {classes : List (List ℕ)} {pool old new : List ℕ} {n : ℕ}
    (k : Noting c f classes pool old new n) where
  pub noting_ends : c.names ≤ n → NotedBelow c.names c f classes pool old new
  noting_ends h = let z : n ≡ c.names = let i = k.inside in omega arith in rw z at k.noted

  module _ (room : file_length c ≤ length old) (h : n < c.names) {s : ℕ} (e : s ≡ names_start c) where
    pub note_inside : s + 8 * n + 8 ≤ length new
    note_inside = omega (arith, k.noted.size)

    module _ {t : List ℕ} (g : t ≡ text_at c f n) {note : Note} (w : NoteBy note classes pool t) where
      abbrev place : ℕ
      place = names_start c + 8 * n

      fits : place + 8 ≤ length new
      fits = omega (arith, k.noted.size)

      abbrev made : List ℕ
      made = put (put new place (word_bytes note.start)) (place + 4) (word_bytes note.row)

      this_note : NoteSays (word_at made place) (word_at made (place + 4)) classes pool (text_at c f n)
      this_note =
          rw (
            first_word new place fits note.start note.row w.start_small,
            second_word new place fits note.start note.row w.row_small,
            ← g,
          ) w.says

      each_note : (i : ℕ) → i < n + 1 →
          NoteSays (word_at made (names_start c + 8 * i)) (word_at made (names_start c + 8 * i + 4)) classes pool (text_at c f i)
      each_note i l = go (le_or_lt n i)
        where
          go : (n ≤ i) ⊎ (i < n) →
              NoteSays (word_at made (names_start c + 8 * i)) (word_at made (names_start c + 8 * i + 4)) classes pool (text_at c f i)
          go (inl q) = let z : i ≡ n = omega arith in rw z this_note
          go (inr q) =
              rw (
                two_word new place fits note.start note.row (names_start c + 8 * i) (omega arith),
                two_word new place fits note.start note.row (names_start c + 8 * i + 4) (omega arith),
              ) (k.noted.notes i q)

      noted_more : Noting c f classes pool old made (n + 1)
      noted_more = record {
        inside = omega arith;
        noted = record {
          size = two_size new place fits note.start note.row ∙ k.noted.size;
          before = two_before new place fits note.start note.row (names_start c) (omega arith) ∙ k.noted.before;
          behind = two_behind new place fits note.start note.row (file_length c) (omega arith) ∙ k.noted.behind;
          notes = each_note;
        };
      }

      pub noting_more : {d : List ℕ} → d ≡ put (put new (s + 8 * n) (word_bytes note.start)) (s + 8 * n + 4) (word_bytes note.row) →
          Noting c f classes pool old d (n + 1)
      noting_more j = rw (j, e) noted_more

pub ruleset noting = (noting_starts, name_short, noting_ends, note_inside, noting_more, rules)
