-- Notes about names by what stands ahead of each group of name bytes. Assumes nothing.
use mathlib.Core.Path.{◌≡◌, refl, sym, ◌∙◌, ap}
use mathlib.Core.List.{List}
use mathlib.Core.Logic.{◌⊎◌, inl, inr}
use Prim.Native.Nat.{ℕ, ◌+◌, ◌*◌, ◌-◌, ◌^◌, ◌≤◌, ◌<◌}
use native.Mathlib.Omega.{arith}
use lib.ListN.{length, take, drop, length-take, length-drop}
use lib.Seq.{take_all, take-take, length-take-le}
use mir.Val.{Fits}
use mir.Syntax.{w64}
use borrow.Author.Rules.{rules}
use Rattle.ground.specs.Put.{put}
use Rattle.ground.proofs.Cases.{le_or_lt}
use Rattle.table_rows.specs.declared.rows.Text.{Text}
use Rattle.table_rows.specs.Rows.{most_classes}
use Rattle.tables.specs.declared.search.Side.TheVariants.{Raw}
use Rattle.table_index.specs.Inner.Index.{IndexBy}
use Rattle.tree_rule.specs.declared.TreeCounts.{TreeCounts}
use Rattle.tree_rule.specs.Words.{word_bytes}
use Rattle.tree_rule.specs.Files.{names_start, bytes_start, file_length, name_row, name_at, bytes_in, text_at}
use Rattle.apply_rule.specs.Applying.{most_tree}
use Rattle.apply_pieces.specs.declared.note.Note.{Note}
use Rattle.apply_pieces.specs.Inner.Notes.{NoteBy, NotedBelow}
use Rattle.apply_pieces.specs.Inner.Sought.{RawsTo, Seekable}
use Rattle.apply_pieces.specs.Inner.Groups.{Told, GroupsTold, GroupsReady}
use Rattle.apply_pieces.proofs.Noting.{two_size, two_behind, Noting, noting_starts, noting_ends, note_inside, noting_more}
use Rattle.apply_pieces.proofs.Telling.{told_same}

bytes_size : (c : TreeCounts) (f : List ℕ) → file_length c ≤ length f → length (bytes_in c f) ≡ c.bytes
bytes_size c f h =
    let z : file_length c - bytes_start c ≡ c.bytes = omega arith in
    length-take-le (file_length c - bytes_start c) (drop (bytes_start c) f) (omega (arith, length-drop (bytes_start c) f)) ∙ z

-- a part is so many bytes as it has
taken : (n : ℕ) (l : List ℕ) → take (length (take n l)) l ≡ take n l
taken n l = go (le_or_lt (length l) n)
  where
    go : (length l ≤ n) ⊎ (n < length l) → take (length (take n l)) l ≡ take n l
    go (inl h) =
        let z : length (take n l) ≡ length l = omega (arith, length-take n l) in
        ap (λ k. take k l) z ∙ take_all (length l) l (omega arith) ∙ sym (take_all n l h)
    go (inr h) = ap (λ k. take k l) (length-take-le n l (omega arith))

-- One name.
module _
    {c : TreeCounts} {f index : List ℕ} {classes : List (List ℕ)} {pool : List ℕ} {longest : ℕ} {out : List ℕ}
    (k : GroupsReady c f index classes pool longest out) where
  size : length (bytes_in c f) ≡ c.bytes
  size = bytes_size c f k.file

  module _ {bytes : List ℕ} (g : bytes ≡ bytes_in c f) where
    pub bytes_seekable : Seekable index classes pool longest bytes
    bytes_seekable = rw g k.seekable

    pub bytes_short : length bytes ≤ most_tree
    bytes_short = bytes_seekable.short

    module _ {room : ℕ} (e : room ≡ bytes_start c) where
      pub bytes_room : room + length bytes ≤ length out
      bytes_room = omega (arith, e, ap length g, size, k.room)

      pub bytes_told : Told 0 classes pool bytes room out
      bytes_told = rw (g, e) k.told

  module _ {name : ℕ} (h : name < c.names) where
    module _ {s : ℕ} (e : s ≡ names_start c) where
      pub row_fits : length f < 2 ^ 64 → Fits w64 (s + 8 * name)
      row_fits z = omega (arith, e, k.file)

      pub row_inside : s + 8 * name + 8 ≤ length f
      row_inside = omega (arith, e, k.file)

    module _ {t : List ℕ} (g : t ≡ text_at c f name) where
      text_size : length t ≡ length (take (name_at c f name).length (drop (name_at c f name).place (bytes_in c f)))
      text_size = ap length g

      pub name_is_short : length t ≤ most_tree
      name_is_short =
          let a = length-take (name_at c f name).length (drop (name_at c f name).place (bytes_in c f)) in
          let b = length-drop (name_at c f name).place (bytes_in c f) in
          omega (arith, text_size, k.seekable.short)

      pub name_direct : {note : Note} → NoteBy note classes pool t → NoteBy note classes pool (text_at c f name)
      name_direct w = rw g at w

      module _ (long : 256 < length t) {s : ℕ} (e : s ≡ names_start c) {row : Text} (q : row ≡ name_row f (s + 8 * name)) where
        is_row : row ≡ name_at c f name
        is_row = q ∙ ap (λ n. name_row f (n + 8 * name)) e

        inside : (name_at c f name).place + length t ≤ length (bytes_in c f)
        inside =
            let a = length-take (name_at c f name).length (drop (name_at c f name).place (bytes_in c f)) in
            let b = length-drop (name_at c f name).place (bytes_in c f) in
            omega (arith, text_size)

        module _ {bytes : List ℕ} (d : bytes ≡ bytes_in c f) where
          pub name_inside_lem : row.place + length t ≤ length bytes
          name_inside_lem = rw (is_row, d) inside

          pub name_starts : row.place ≤ length bytes
          name_starts = let a = name_inside_lem in omega arith

          pub name_cut : {note : Note} → NoteBy note classes pool (take (length t) (drop row.place bytes)) →
              NoteBy note classes pool (text_at c f name)
          name_cut {note} w =
              let same : take (length t) (drop (name_at c f name).place (bytes_in c f)) ≡ text_at c f name =
              ap (λ n. take n (drop (name_at c f name).place (bytes_in c f))) text_size
              ∙ taken (name_at c f name).length (drop (name_at c f name).place (bytes_in c f)) in
              rw (is_row, d, same) at w

pub ruleset naming = (
  bytes_seekable,
  bytes_short,
  bytes_room,
  bytes_told,
  row_fits,
  row_inside,
  name_is_short,
  name_direct,
  name_inside_lem,
  name_starts,
  name_cut,
  rules,
)

-- The names below `n` have their notes, and the groups are told of as before.
pub record GroupNoting
    (c : TreeCounts) (f index : List ℕ) (classes : List (List ℕ)) (pool : List ℕ) (longest : ℕ) (old new : List ℕ) (n : ℕ) : Type 0 where
  pub noting : Noting c f classes pool old new n
  pub ready : GroupsReady c f index classes pool longest new

pub by_groups_starts : {c : TreeCounts} {f index : List ℕ} {classes : List (List ℕ)} {pool : List ℕ} {longest : ℕ} {old : List ℕ} →
    GroupsReady c f index classes pool longest old → GroupNoting c f index classes pool longest old old 0
by_groups_starts {c} {f} {classes = classes} {pool = pool} {old = old} k = record { noting = noting_starts c f classes pool old; ready = k }

module _
    {c : TreeCounts} {f index : List ℕ} {classes : List (List ℕ)} {pool : List ℕ} {longest : ℕ} {old new : List ℕ} {n : ℕ}
    (k : GroupNoting c f index classes pool longest old new n) where
  room : file_length c ≤ length old
  room = omega (arith, k.ready.room, k.noting.noted.size)

  pub by_groups_ends : c.names ≤ n → NotedBelow c.names c f classes pool old new
  by_groups_ends h = noting_ends k.noting h

  pub by_groups_ready : GroupsReady c f index classes pool longest new
  by_groups_ready = k.ready

  module _ (h : n < c.names) {s : ℕ} (e : s ≡ names_start c) where
    pub by_groups_inside : s + 8 * n + 8 ≤ length new
    by_groups_inside = note_inside k.noting room h e

    pub by_groups_more : {note : Note} → NoteBy note classes pool (text_at c f n) → {d : List ℕ} →
        d ≡ put (put new (s + 8 * n) (word_bytes note.start)) (s + 8 * n + 4) (word_bytes note.row) →
        GroupNoting c f index classes pool longest old d (n + 1)
    by_groups_more {note} w {d} j = record {
      noting = noting_more k.noting room h e refl w j;
      ready = record {
        file = k.ready.file;
        room = omega (arith, ap length j, two_size new (s + 8 * n) by_groups_inside note.start note.row, k.ready.room);
        seekable = k.ready.seekable;
        told = told_same k.ready.told
            (ap (drop (bytes_start c)) j
            ∙ two_behind new (s + 8 * n) by_groups_inside note.start note.row (bytes_start c) (omega (arith, e)));
      };
    }

pub ruleset noting_by_groups = (by_groups_starts, by_groups_ends, by_groups_ready, by_groups_inside, by_groups_more, rules)

-- The rows are gone through.
pub record Going (count n : ℕ) : Type 0 where
  pub inside : n ≤ count

pub going_starts : (count : ℕ) → Going count 0
going_starts count = record { inside = omega arith }

pub going_more : (count : ℕ) {n : ℕ} → n < count → Going count (n + 1)
going_more count h = record { inside = omega arith }

pub row_there : (c : TreeCounts) (f : List ℕ) → file_length c ≤ length f → (n : ℕ) → n < c.names → {s : ℕ} → s ≡ names_start c →
    s + 8 * n + 8 ≤ length f
row_there c f h n i e = omega (arith, e)

pub ruleset going = (going_starts, going_more, row_there, rules)

-- All names, by groups.
module _
    (c : TreeCounts) (f : List ℕ) (file : file_length c ≤ length f) (short : length f ≤ most_tree) {bytes : List ℕ} (g : bytes ≡ bytes_in c f)
  where
    pub names_seekable : {index : List ℕ} {classes : List (List ℕ)} {pool : List ℕ} {longest : ℕ} → length classes ≤ most_classes →
        RawsTo (length classes) classes pool longest → IndexBy Raw classes pool index → Seekable index classes pool longest bytes
    names_seekable few raws i = record { few = few; short = omega (arith, ap length g, bytes_size c f file); raws = raws; indexed = i }

    module _ {room : ℕ} (e : room ≡ bytes_start c) where
      ends : room + length bytes ≡ file_length c
      ends = omega (arith, e, ap length g, bytes_size c f file)

      module _ (old : List ℕ) (fits : file_length c ≤ length old) where
        pub names_room : room + length bytes ≤ length old
        names_room = omega (arith, ends)

        module _ {classes : List (List ℕ)} {pool mid : List ℕ} (t : GroupsTold classes pool bytes room old mid) where
          pub names_ready : {index : List ℕ} {longest : ℕ} → length classes ≤ most_classes →
              RawsTo (length classes) classes pool longest → IndexBy Raw classes pool index → GroupsReady c f index classes pool longest mid
          names_ready few raws i = record {
            file = file;
            room = omega (arith, t.size);
            seekable = rw g at (names_seekable few raws i);
            told = rw (g, e) at t.told;
          }

          pub names_done : {new : List ℕ} → NotedBelow c.names c f classes pool mid new → NotedBelow c.names c f classes pool old new
          names_done {new} n = record {
            size = n.size ∙ t.size;
            before =
                n.before ∙ sym (take-take (names_start c) room mid (omega (arith, e))) ∙ ap (take (names_start c)) t.before
                ∙ take-take (names_start c) room old (omega (arith, e));
            behind = n.behind ∙ (rw ends at t.behind);
            notes = n.notes;
          }

pub ruleset all_names = (names_seekable, names_room, names_ready, names_done, rules)
