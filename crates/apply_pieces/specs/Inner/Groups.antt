-- What stands ahead of each group of 64 bytes, as words in bytes.
use Rattle.std.specs.Prelude.{◌≡◌, List, ℕ, ◌+◌, ◌*◌, ◌/◌, ◌≤◌, ◌<◌, length, take, drop}
use Rattle.ground.specs.Put.{put}
use Rattle.tree_rule.specs.Words.{word_at, word_bytes}
use Rattle.tree_rule.specs.declared.TreeCounts.{TreeCounts}
use Rattle.tree_rule.specs.Files.{bytes_start, file_length, bytes_in}
use Rattle.apply_pieces.specs.declared.note.Note.{Note}
use Rattle.apply_pieces.specs.declared.ahead.Ahead.{Ahead}
use Rattle.apply_pieces.specs.Inner.Sought.{Seekable}
use Rattle.apply_pieces.specs.Inner.Ahead.{AheadBy}

abbrev pub ahead_at : List ℕ → ℕ → Ahead
ahead_at out at = record {
  known = record { start = word_at out at; row = word_at out (at + 4) };
  past = word_at out (at + 8);
  after = record { start = word_at out (at + 12); row = word_at out (at + 16) };
}

abbrev pub note_put : List ℕ → ℕ → Note → List ℕ
note_put out at note = put (put out at (word_bytes note.start)) (at + 4) (word_bytes note.row)

abbrev pub ahead_put : List ℕ → ℕ → Ahead → List ℕ
ahead_put out at ahead =
    note_put (put (note_put out at ahead.known) (at + 8) (word_bytes ahead.past)) (at + 12) ahead.after

-- the whole groups from `low` on are told of, in `out` from the place `room` on
pub record Told (low : ℕ) (classes : List (List ℕ)) (pool text : List ℕ) (room : ℕ) (out : List ℕ) : Type 0 where
  pub each : (g : ℕ) → low ≤ g → g < length text / 64 → AheadBy (ahead_at out (room + 64 * g)) classes pool text (64 * g)

-- all of them, and all but the text's room is as it was
pub record GroupsTold (classes : List (List ℕ)) (pool text : List ℕ) (room : ℕ) (old new : List ℕ) : Type 0 where
  pub size : length new ≡ length old
  pub before : take room new ≡ take room old
  pub behind : drop (room + length text) new ≡ drop (room + length text) old
  pub told : Told 0 classes pool text room new

-- the name bytes of the file `f` are told of in their room
pub record GroupsReady
    (c : TreeCounts) (f index : List ℕ) (classes : List (List ℕ)) (pool : List ℕ) (longest : ℕ) (out : List ℕ) : Type 0 where
  pub file : file_length c ≤ length f
  pub room : file_length c ≤ length out
  pub seekable : Seekable index classes pool longest (bytes_in c f)
  pub told : Told 0 classes pool (bytes_in c f) (bytes_start c) out
