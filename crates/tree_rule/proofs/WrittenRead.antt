-- A well-formed file, read and written, is the file. Assumes nothing.
use mathlib.Core.Path.{◌≡◌, refl, sym, ◌∙◌, ap}
use mathlib.Core.Bool.{Bool, true, false}
use mathlib.Core.List.{List, ◌++◌, map, append_assoc}
use Prim.Native.Nat.{ℕ, zero, suc, ◌+◌, ◌*◌, ◌≤◌, ◌<◌}
use native.Mathlib.Omega.{arith}
use lib.Dec.{eqb}
use lib.ListN.{length, get_or, drop}
use borrow.Author.Tests.{eqb-true, eqb-false}
use Rattle.ground.specs.Join.{join}
use Rattle.tree_rule.specs.declared.TreeCounts.{TreeCounts}
use Rattle.tree_rule.specs.Words.{word_at, word_bytes, list_from, sum_from}
use Rattle.tree_rule.specs.Files.{
  counts_in,
  tokens_start,
  names_start,
  bytes_start,
  parent_at,
  token_count_at,
  token_by,
  token_at,
  name_at,
  bytes_in,
  parent_by,
  nodes_from,
  tree_by,
  read_tree,
  all_tokens,
  parent_word,
  node_row_bytes,
  three_words,
  token_row_bytes,
  name_row_bytes,
  count_bytes,
  counts_of,
  written_tree,
}
use Rattle.tree_rule.specs.Theorems.{FormedBy, FormedTree}
use Rattle.tree_rule.proofs.WordLaws.{word_part}
use Rattle.tree_rule.proofs.RowLaws.{list_length, list_append}
use Rattle.tree_rule.proofs.Reading.{bytes_rest, bytes_count}

pub map_list : {A B : Type 0} (enc : A → B) (g : ℕ → A) (i n : ℕ) → map enc (list_from g i n) ≡ list_from (λ k. enc (g k)) i n
unfolding list_from
map_list enc g i zero = refl
map_list enc g i (suc n) = rw (map_list enc g (suc i) n)

-- A stretch of rows is cut row by row.
rows_cut : (h : ℕ → List ℕ) (f : List ℕ) (place : ℕ → ℕ) (i n : ℕ) →
    ((k : ℕ) → k < i + n → drop (place k) f ≡ h k ++ drop (place (suc k)) f) →
    drop (place i) f ≡ join (list_from h i n) ++ drop (place (i + n)) f
unfolding list_from join
rows_cut h f place i zero cut = let z : i + 0 ≡ i = omega arith in rw z
rows_cut h f place i (suc n) cut =
    let z : i + suc n ≡ suc i + n = omega arith in
    cut i (omega arith) ∙ ap (λ l. h i ++ l) (rows_cut h f place (suc i) n (λ k l. cut k (omega arith)))
    ∙ sym (append_assoc (h i) (join (list_from h (suc i) n)) (drop (place (suc i + n)) f)) ∙ rw z

-- a parent that was read is written as it stood
parent_kept : (w : ℕ) → parent_word (parent_by w) ≡ w
parent_kept w = go (eqb w 4294967295) refl
  where
    go : (b : Bool) → eqb w 4294967295 ≡ b → parent_word (parent_by w) ≡ w
    go true e = rw e (sym (eqb-true w 4294967295 e))
    go false e = rw e

-- a token of one of the four kinds is written as it stood
token_kept : (kind a b : ℕ) → kind ≤ 3 → token_row_bytes (token_by kind a b) ≡ three_words kind a b
token_kept kind a b e = go (eqb kind 1) refl (eqb kind 2) refl (eqb kind 3) refl
  where
    go : (q : Bool) → eqb kind 1 ≡ q → (r : Bool) → eqb kind 2 ≡ r → (s : Bool) → eqb kind 3 ≡ s →
        token_row_bytes (token_by kind a b) ≡ three_words kind a b
    go true h r i s j = rw (eqb-true kind 1 h)
    go false h true i s j = rw (eqb-true kind 2 i)
    go false h false i true j = rw (eqb-true kind 3 j)
    go false h false i false j =
        let none : kind ≡ 0 = let x = eqb-false kind 1 h in let y = eqb-false kind 2 i in let z = eqb-false kind 3 j in omega arith in
        rw none

module _ (f : List ℕ) (small : (i : ℕ) → get_or f i 0 < 256) where
  pub two_cut : (at : ℕ) → at + 8 ≤ length f →
      drop at f ≡ (word_bytes (word_at f at) ++ word_bytes (word_at f (at + 4))) ++ drop (at + 8) f
  two_cut at h =
      let z : at + 4 + 4 ≡ at + 8 = omega arith in
      word_part f small at (omega arith)
      ∙ ap (λ l. word_bytes (word_at f at) ++ l) (word_part f small (at + 4) (omega arith)
      ∙ ap (λ n. word_bytes (word_at f (at + 4)) ++ drop n f) z)
      ∙ sym (append_assoc (word_bytes (word_at f at)) (word_bytes (word_at f (at + 4))) (drop (at + 8) f))

  three_cut : (at : ℕ) → at + 12 ≤ length f →
      drop at f ≡ three_words (word_at f at) (word_at f (at + 4)) (word_at f (at + 8)) ++ drop (at + 12) f
  three_cut at h =
      let z : at + 4 + 4 ≡ at + 8 = omega arith in
      let y : at + 4 + 8 ≡ at + 12 = omega arith in
      word_part f small at (omega arith)
      ∙ ap (λ l. word_bytes (word_at f at) ++ l) (two_cut (at + 4) (omega arith)
      ∙ ap (λ n. (word_bytes (word_at f (at + 4)) ++ word_bytes (word_at f n)) ++ drop (at + 4 + 8) f) z
      ∙ ap (λ n. (word_bytes (word_at f (at + 4)) ++ word_bytes (word_at f (at + 8))) ++ drop n f) y)
      ∙ sym (append_assoc (word_bytes (word_at f at)) (word_bytes (word_at f (at + 4)) ++ word_bytes (word_at f (at + 8))) (drop (at + 12) f))

-- Nodes that were read.
module _ (c : TreeCounts) (f : List ℕ) where
  abbrev nodeWords : ℕ → List ℕ
  nodeWords k = word_bytes (parent_at f k) ++ word_bytes (token_count_at f k)

  pub nodes_length : (i t n : ℕ) → length (nodes_from c f i t n) ≡ n
  unfolding nodes_from
  nodes_length i t zero = refl
  nodes_length i t (suc n) = rw (nodes_length (suc i) (t + token_count_at f i) n)

  nodes_written : (i t n : ℕ) → map node_row_bytes (nodes_from c f i t n) ≡ list_from nodeWords i n
  unfolding nodes_from list_from
  nodes_written i t zero = refl
  nodes_written i t (suc n) =
      rw (parent_kept (parent_at f i), list_length (token_at c f) t (token_count_at f i), nodes_written (suc i) (t + token_count_at f i) n)

  -- the tokens of all nodes are those of the file, in order
  pub nodes_tokens : (i t n : ℕ) → all_tokens (nodes_from c f i t n) ≡ list_from (token_at c f) t (sum_from (token_count_at f) i n)
  unfolding nodes_from all_tokens sum_from list_from
  nodes_tokens i t zero = refl
  nodes_tokens i t (suc n) =
      ap (λ l. list_from (token_at c f) t (token_count_at f i) ++ l) (nodes_tokens (suc i) (t + token_count_at f i) n)
      ∙ sym (list_append (token_at c f) t (token_count_at f i) (sum_from (token_count_at f) (suc i) n))

  -- The stretches of a well-formed file.
  module _ (small : (i : ℕ) → get_or f i 0 < 256) (k : FormedBy c f) where
    node_stretch : drop 16 f ≡ join (map node_row_bytes (nodes_from c f 0 0 c.nodes)) ++ drop (tokens_start c) f
    node_stretch =
        let z : 16 + 8 * 0 ≡ 16 = omega arith in
        let y : 16 + 8 * (0 + c.nodes) ≡ tokens_start c = omega arith in
        let cut : drop (16 + 8 * 0) f ≡ join (list_from nodeWords 0 c.nodes) ++ drop (16 + 8 * (0 + c.nodes)) f =
        rows_cut nodeWords f (λ i. 16 + 8 * i) 0 c.nodes (λ i h. let next : 16 + 8 * suc i ≡ 16 + 8 * i + 8 = omega arith in
        rw next (two_cut f small (16 + 8 * i) (omega (arith, k.size)))) in
        ap (λ n. drop n f) (sym z) ∙ cut ∙ ap (λ n. join (list_from nodeWords 0 c.nodes) ++ drop n f) y
        ∙ ap (λ l. join l ++ drop (tokens_start c) f) (sym (nodes_written 0 0 c.nodes))

    token_stretch : drop (tokens_start c) f ≡ join (map token_row_bytes (list_from (token_at c f) 0 c.tokens)) ++ drop (names_start c) f
    token_stretch =
        let z : tokens_start c + 12 * 0 ≡ tokens_start c = omega arith in
        let y : tokens_start c + 12 * (0 + c.tokens) ≡ names_start c = omega arith in
        let h : ℕ → List ℕ = λ i. token_row_bytes (token_at c f i) in
        let cut : drop (tokens_start c + 12 * 0) f ≡ join (list_from h 0 c.tokens) ++ drop (tokens_start c + 12 * (0 + c.tokens)) f =
        rows_cut h f (λ i. tokens_start c + 12 * i) 0 c.tokens
        (λ i l. let next : tokens_start c + 12 * suc i ≡ tokens_start c + 12 * i + 12 = omega arith in
        let at : ℕ = tokens_start c + 12 * i in
        rw next (three_cut f small at (omega (arith, k.size)) ∙ ap (λ b. b ++ drop (at + 12) f)
        (sym (token_kept (word_at f at) (word_at f (at + 4)) (word_at f (at + 8)) (k.kinds i (omega arith)))))) in
        ap (λ n. drop n f) (sym z) ∙ cut ∙ ap (λ n. join (list_from h 0 c.tokens) ++ drop n f) y
        ∙ ap (λ l. join l ++ drop (names_start c) f) (sym (map_list token_row_bytes (token_at c f) 0 c.tokens))

    name_stretch : drop (names_start c) f ≡ join (map name_row_bytes (list_from (name_at c f) 0 c.names)) ++ drop (bytes_start c) f
    name_stretch =
        let z : names_start c + 8 * 0 ≡ names_start c = omega arith in
        let y : names_start c + 8 * (0 + c.names) ≡ bytes_start c = omega arith in
        let h : ℕ → List ℕ = λ i. name_row_bytes (name_at c f i) in
        let cut : drop (names_start c + 8 * 0) f ≡ join (list_from h 0 c.names) ++ drop (names_start c + 8 * (0 + c.names)) f =
        rows_cut h f (λ i. names_start c + 8 * i) 0 c.names (λ i l. let next : names_start c + 8 * suc i ≡ names_start c + 8 * i + 8 =
        omega arith in
        rw next (two_cut f small (names_start c + 8 * i) (omega (arith, k.size)))) in
        ap (λ n. drop n f) (sym z) ∙ cut ∙ ap (λ n. join (list_from h 0 c.names) ++ drop n f) y
        ∙ ap (λ l. join l ++ drop (bytes_start c) f) (sym (map_list name_row_bytes (name_at c f) 0 c.names))

    pub counts_kept : counts_of (tree_by c f) ≡ c
    counts_kept =
        rw (
          nodes_length 0 0 c.nodes,
          nodes_tokens 0 0 c.nodes,
          list_length (token_at c f) 0 (sum_from (token_count_at f) 0 c.nodes),
          k.sums,
          list_length (name_at c f) 0 c.names,
          bytes_count c f k.size,
        )

    all_tokens_lem : all_tokens (nodes_from c f 0 0 c.nodes) ≡ list_from (token_at c f) 0 c.tokens
    all_tokens_lem = nodes_tokens 0 0 c.nodes ∙ ap (list_from (token_at c f) 0) k.sums

    -- what stands behind the counts
    pub body_kept : drop 16 f ≡ join (map node_row_bytes (tree_by c f).nodes) ++
        (join (map token_row_bytes (all_tokens (tree_by c f).nodes)) ++ (join (map name_row_bytes (tree_by c f).names) ++ bytes_in c f))
    body_kept = rw (all_tokens_lem, bytes_rest c f k.size, ← name_stretch, ← token_stretch) node_stretch

head_kept : (f : List ℕ) → ((i : ℕ) → get_or f i 0 < 256) → 16 ≤ length f → f ≡ count_bytes (counts_in f) ++ drop 16 f
head_kept f small h =
    let front : List ℕ = word_bytes (word_at f 0) ++ word_bytes (word_at f 4) in
    let back : List ℕ = word_bytes (word_at f 8) ++ word_bytes (word_at f 12) in
    two_cut f small 0 (omega arith) ∙ ap (λ l. front ++ l) (two_cut f small 8 (omega arith)) ∙ simp append_assoc

pub written_read : (f : List ℕ) → ((i : ℕ) → get_or f i 0 < 256) → FormedTree f → written_tree (read_tree f) ≡ f
written_read f small k =
    let c : TreeCounts = counts_in f in
    ap (λ n. count_bytes n ++ (join (map node_row_bytes (tree_by c f).nodes) ++
    (join (map token_row_bytes (all_tokens (tree_by c f).nodes)) ++ (join (map name_row_bytes (tree_by c f).names) ++ bytes_in c f))))
    (counts_kept c f small k)
    ∙ ap (λ l. count_bytes c ++ l) (sym (body_kept c f small k)) ∙ sym (head_kept f small (omega (arith, k.size)))
