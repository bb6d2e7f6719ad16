-- The new names below a number: their texts, their rows, and what stands as it did while they are written. Assumes nothing.
use mathlib.Core.Path.{◌≡◌, sym, ◌∙◌, ap}
use mathlib.Core.List.{List, [], ◌∷◌, ◌++◌, map, append-nil}
use Prim.Native.Nat.{ℕ, zero, suc, ◌+◌, ◌*◌, ◌-◌, ◌≤◌, ◌<◌}
use native.Mathlib.Omega.{arith}
use lib.ListN.{length, take, length-append}
use Rattle.ground.specs.Join.{join}
use Rattle.ground.proofs.Joins.{join_append}
use Rattle.table_rows.specs.Rows.{text}
use Rattle.tree_rule.specs.declared.TreeCounts.{TreeCounts}
use Rattle.tree_rule.specs.Words.{word_at, list_from}
use Rattle.tree_rule.specs.Files.{names_start, bytes_start, name_row_bytes}
use Rattle.tree_rule.proofs.RowLaws.{list_append}
use Rattle.tree_rule.proofs.PutWords.{word_take}
use Rattle.apply_rule.specs.Applying.{name_rows}
use Rattle.apply_pieces.specs.Inner.Notes.{NoteSays}
use Rattle.apply_plans.specs.Inner.Entries.{planned_text, planned_names, EntryFits}
use Rattle.apply_output.proofs.Listing.{join_join, rows_append}

-- One name more.
module _ (classes : List (List ℕ)) (pool : List ℕ) (c : TreeCounts) (f out : List ℕ) where
  abbrev below : ℕ → List (List ℕ)
  below n = planned_names classes pool c f out n

  abbrev this : ℕ → List ℕ
  this n = planned_text classes pool c f out n

  names_more : (n : ℕ) → below (n + 1) ≡ below n ++ (this n ∷ [])
  unfolding list_from
  names_more n = let z : 0 + n ≡ n = omega arith in list_append this 0 n 1 ∙ ap (λ i. below n ++ (this i ∷ [])) z

  pub texts_more : (n : ℕ) → join (below (n + 1)) ≡ join (below n) ++ this n
  unfolding join
  texts_more n =
      ap join (names_more n) ∙ join_join (below n) (this n ∷ []) ∙ ap (λ l. join (below n) ++ l) (append-nil (this n))

  pub rows_more : (n : ℕ) →
      join (map name_row_bytes (name_rows c.bytes (below (n + 1)))) ≡
      join (map name_row_bytes (name_rows c.bytes (below n))) ++
      name_row_bytes (text (c.bytes + length (join (below n))) (length (this n)))
  unfolding name_rows join
  rows_more n =
      let place : ℕ = c.bytes + length (join (below n)) in
      ap (λ l. join (map name_row_bytes (name_rows c.bytes l))) (names_more n)
      ∙ ap (λ l. join (map name_row_bytes l)) (rows_append c.bytes (below n) (this n ∷ []))
      ∙ join_append name_row_bytes (name_rows c.bytes (below n)) (name_rows place (this n ∷ []))
      ∙ ap (λ l. join (map name_row_bytes (name_rows c.bytes (below n))) ++ l) (append-nil (name_row_bytes (text place (length (this n)))))

  -- its text is no longer than those that are left
  pub texts_left : (n count : ℕ) → n < count → length (join (below n)) + length (this n) ≤ length (join (below count))
  texts_left n count h =
      let z : n + 1 + (count - (n + 1)) ≡ count = omega arith in
      let rest : List (List ℕ) = list_from this (0 + (n + 1)) (count - (n + 1)) in
      let split : below count ≡ below (n + 1) ++ rest = ap below (sym z) ∙ list_append this 0 (n + 1) (count - (n + 1)) in
      let a = ap (λ l. length (join l)) split
      ∙ ap length (join_join (below (n + 1)) rest) ∙ length-append (join (below (n + 1))) (join rest) in
      let b = ap length (texts_more n) ∙ length-append (join (below n)) (this n) in
      omega arith

-- Notes stand before all that is written.
module _ (c : TreeCounts) (old new : List ℕ) (before : take (bytes_start c) new ≡ take (bytes_start c) old) where
  same_word : (p : ℕ) → p + 4 ≤ bytes_start c → word_at new p ≡ word_at old p
  same_word p h = sym (word_take new (bytes_start c) p h) ∙ ap (λ l. word_at l p) before ∙ word_take old (bytes_start c) p h

  pub note_kept : (classes : List (List ℕ)) (pool s : List ℕ) (n : ℕ) → n < c.names →
      NoteSays (word_at old (names_start c + 8 * n)) (word_at old (names_start c + 8 * n + 4)) classes pool s →
      NoteSays (word_at new (names_start c + 8 * n)) (word_at new (names_start c + 8 * n + 4)) classes pool s
  note_kept classes pool s n h k =
      rw (same_word (names_start c + 8 * n) (omega arith), same_word (names_start c + 8 * n + 4) (omega arith)) k

  pub entry_kept : (a b : ℕ) → EntryFits c old a b → EntryFits c new a b
  entry_kept zero name h =
      let l = h.0 in
      (h.0, rw (same_word (names_start c + 8 * name) (omega arith)) h.1)
  entry_kept (suc place) size h = h
