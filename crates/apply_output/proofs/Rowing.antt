-- Numbers put one after the other are a row. Assumes nothing.
use Rattle.std.specs.Prelude.{Result, Ok, Err}
use mathlib.Core.Path.{◌≡◌, ◌∙◌, ap}
use mathlib.Core.List.{List, ◌++◌, append_assoc}
use Prim.Native.Nat.{ℕ, ◌+◌, ◌-◌, ◌≤◌}
use native.Mathlib.Omega.{arith}
use lib.ListN.{length, drop, length-drop}
use lib.Seq.{length-take-le}
use borrow.Author.Rules.{rules}
use Rattle.ground.specs.Put.{put, between}
use Rattle.ground.proofs.PutLaws.{length_put}
use Rattle.table_rows.specs.Rows.{text}
use Rattle.table_pool.specs.Inner.Wrote.{WroteBy}
use Rattle.tree_rule.specs.declared.TreeCounts.{TreeCounts}
use Rattle.tree_rule.specs.Words.{word_bytes}
use Rattle.tree_rule.specs.Files.{three_words, name_row_bytes, count_bytes}
use Rattle.tree_rule.proofs.WordLaws.{bytes_length}
use Rattle.tree_rule.proofs.ReadWritten.{three_length}
use Rattle.apply_plans.proofs.Rowing.{word_more, three_put}
use Rattle.table_pool.specs.declared.write.NoRoom.{NoRoom}

-- The row of a name.
module _ (d : List ℕ) (at : ℕ) (h : at + 8 ≤ length d) (place size : ℕ) where
  pub name_room : {a : List ℕ} → a ≡ put d at (word_bytes place) → at + 4 + 4 ≤ length a
  name_room g =
      let long = length_put d at (word_bytes place) (omega (arith, bytes_length place)) in
      rw g (omega (arith, long))

  pub name_put : {a b : List ℕ} → a ≡ put d at (word_bytes place) → b ≡ put a (at + 4) (word_bytes size) →
      b ≡ put d at (name_row_bytes (text place size))
  name_put {a} {b} g i =
      let all : b ≡ put (put d at (word_bytes place)) (at + 4) (word_bytes size) = rw (← g) i in
      all ∙ word_more d at (word_bytes place) size 4 (bytes_length place) (omega arith)

pub ruleset name_rows_lem = (name_room, name_put, rules)

-- Counts.
pub counts_put : (d : List ℕ) → 16 ≤ length d → (c : TreeCounts) {a b e g : List ℕ} → a ≡ put d 0 (word_bytes c.nodes) →
    b ≡ put a 4 (word_bytes c.tokens) → e ≡ put b 8 (word_bytes c.names) → g ≡ put e 12 (word_bytes c.bytes) →
    g ≡ put d 0 (count_bytes c)
counts_put d h c {a} {b} {e} {g} i j k l =
    let x = c.nodes in
    let y = c.tokens in
    let z = c.names in
    let w = c.bytes in
    let three : e ≡ put d 0 (three_words x y z) = k ∙ rw (j, i) (three_put d 0 (omega arith) x y z) in
    let long : length (three_words x y z) ≡ 12 = three_length x y z in
    let whole : three_words x y z ++ word_bytes w ≡ count_bytes c = simp append_assoc in
    l ∙ rw three (word_more d 0 (three_words x y z) w 12 long (omega arith)) ∙ ap (put d 0) whole

pub ruleset count_rows = (counts_put, rules)

-- A part of the tree.
pub part_put : (d : List ℕ) (at : ℕ) (f : List ℕ) (start «end» : ℕ) → start ≤ «end» → «end» ≤ length f →
    at + («end» - start) ≤ length d → (r : Result ℕ NoRoom) (e : List ℕ) → WroteBy r d at (between f start «end») e →
    e ≡ put d at (between f start «end»)
part_put d at f start «end» i j h (Ok q) e w = w.is
part_put d at f start «end» i j h (Err _) e w =
    let size = length-take-le («end» - start) (drop start f) (omega (arith, length-drop start f)) in
    absurd (omega arith)

pub ruleset part_rows = (part_put, rules)
