-- A tree that was written is read again. Assumes nothing.
use mathlib.Core.Path.{◌≡◌, refl, sym, ◌∙◌, ap}
use mathlib.Core.List.{List, [], ◌∷◌, ◌++◌, map, append_assoc}
use Prim.Native.Nat.{ℕ, suc, ◌+◌, ◌*◌, ◌-◌}
use native.Mathlib.Nat.{mul-suc}
use native.Mathlib.Omega.{arith}
use lib.ListN.{length, drop, length-append}
use lib.Seq.{drop-drop, drop_at, take_all}
use borrow.Author.Tests.{ne_eqb}
use Rattle.ground.specs.Join.{join}
use Rattle.ground.proofs.Joins.{join_append}
use Rattle.table_rows.specs.declared.rows.Text.{Text}
use Rattle.tree_rule.specs.declared.TreeCounts.{TreeCounts}
use Rattle.tree_rule.specs.declared.Token.{Token}
use Rattle.tree_rule.specs.declared.Token.TheVariants.{Other, MemberName, Descriptor, SourceLine}
use Rattle.tree_rule.specs.Words.{word_at, word_bytes, list_from}
use Rattle.tree_rule.specs.Trees.{Parent, no_parent, parent_row, Node, Tree}
use Rattle.tree_rule.specs.Files.{
  counts_in,
  tokens_start,
  names_start,
  bytes_start,
  file_length,
  parent_at,
  token_count_at,
  token_by,
  token_row,
  token_at,
  name_row,
  name_at,
  bytes_in,
  parent_by,
  nodes_from,
  tree_by,
  read_tree,
  all_tokens,
  parent_word,
  node_row_bytes,
  three_words,
  token_row_bytes,
  name_row_bytes,
  count_bytes,
  counts_of,
  written_tree,
}
use Rattle.tree_rule.specs.Theorems.{Word, ParentFits, TokenFits, NameFits, Every, every_none, every_one, Writable}
use Rattle.tree_rule.proofs.WordLaws.{word_written, past_word_lem}

pub every_front : {A : Type 0} {P : A → Type 0} (a b : List A) → Every P (a ++ b) → Every P a
every_front [] b e = every_none
every_front (x ∷ a) b (every_one p e) = every_one p (every_front a b e)

pub every_back : {A : Type 0} {P : A → Type 0} (a b : List A) → Every P (a ++ b) → Every P b
every_back [] b e = e
every_back (x ∷ a) b (every_one p e) = every_back a b e

-- Rows of `w` bytes from the place `base` on, that are read one by one.
module _ {A : Type 0} (enc : A → List ℕ) (w base : ℕ) (f : List ℕ) (size : (x : A) → length (enc x) ≡ w) where
  -- behind the first row
  pub rows_next : (i : ℕ) (x : A) (l : List A) (r : List ℕ) → drop (base + w * i) f ≡ join (map enc (x ∷ l)) ++ r →
      (drop (base + w * i) f ≡ enc x ++ (join (map enc l) ++ r)) × (drop (base + w * suc i) f ≡ join (map enc l) ++ r)
  unfolding join
  rows_next i x l r e =
      let here : drop (base + w * i) f ≡ enc x ++ (join (map enc l) ++ r) = e ∙ append_assoc (enc x) (join (map enc l)) r in
      let more : base + w * suc i ≡ base + w * i + w = omega (arith, mul-suc w i) in (
        here,
        ap (λ n. drop n f) more ∙ sym (drop-drop w (base + w * i) f) ∙ ap (drop w) here
            ∙ drop_at (enc x) (join (map enc l) ++ r) w (size x),
      )

  pub rows_past : (l : List A) (i : ℕ) (r : List ℕ) → drop (base + w * i) f ≡ join (map enc l) ++ r →
      drop (base + w * (i + length l)) f ≡ r
  unfolding join
  rows_past [] i r e = let z : i + 0 ≡ i = omega arith in rw z e
  rows_past (x ∷ l) i r e = let z : i + suc (length l) ≡ suc i + length l = omega arith in
      rw z (rows_past l (suc i) r (rows_next i x l r e).1)

  pub rows_read : (dec : List ℕ → ℕ → A) (P : A → Type 0) (law : (at : ℕ) (x : A) (r : List ℕ) → P x →
      drop at f ≡ enc x ++ r → dec f at ≡ x)
      (l : List A) (i : ℕ) (r : List ℕ) → Every P l → drop (base + w * i) f ≡ join (map enc l) ++ r →
      list_from (λ k. dec f (base + w * k)) i (length l) ≡ l
  unfolding list_from
  rows_read dec P law [] i r p e = refl
  rows_read dec P law (x ∷ l) i r (every_one p q) e =
      let n = rows_next i x l r e in
      rw (law (base + w * i) x (join (map enc l) ++ r) p n.0, rows_read dec P law l (suc i) r q n.1)

module _ (f : List ℕ) where
  -- two numbers, one after the other
  pub two_read : (at x y : ℕ) (r : List ℕ) → Word x → Word y → drop at f ≡ (word_bytes x ++ word_bytes y) ++ r →
      (word_at f at ≡ x) × (word_at f (at + 4) ≡ y)
  two_read at x y r p q e =
      let first : drop at f ≡ word_bytes x ++ (word_bytes y ++ r) = e ∙ append_assoc (word_bytes x) (word_bytes y) r in
      let second : drop (at + 4) f ≡ word_bytes y ++ r = past_word_lem f at x (word_bytes y ++ r) first in
      (word_written f at x (word_bytes y ++ r) p first, word_written f (at + 4) y r q second)

  -- three of them
  pub three_read : (at x y z : ℕ) (r : List ℕ) → Word x → Word y → Word z → drop at f ≡ three_words x y z ++ r →
      (word_at f at ≡ x) × (word_at f (at + 4) ≡ y) × (word_at f (at + 8) ≡ z)
  three_read at x y z r p q h e =
      let first : drop at f ≡ word_bytes x ++ ((word_bytes y ++ word_bytes z) ++ r) = e
      ∙ append_assoc (word_bytes x) (word_bytes y ++ word_bytes z) r in
      let rest = two_read (at + 4) y z r q h (past_word_lem f at x ((word_bytes y ++ word_bytes z) ++ r) first) in
      let four : at + 4 + 4 ≡ at + 8 = omega arith in
      (word_written f at x ((word_bytes y ++ word_bytes z) ++ r) p first, rest.0, ap (word_at f) (sym four) ∙ rest.1)

  by_words : (at kind a b : ℕ) (r : List ℕ) → Word kind → Word a → Word b → drop at f ≡ three_words kind a b ++ r →
      token_row f at ≡ token_by kind a b
  by_words at kind a b r p q h e = let w = three_read at kind a b r p q h e in rw (w.0, w.1, w.2)

  pub token_read : (at : ℕ) (t : Token) (r : List ℕ) → TokenFits t → drop at f ≡ token_row_bytes t ++ r → token_row f at ≡ t
  token_read at (Other a b) r p e = by_words at 0 a b r (omega arith) p.0 p.1 e
  token_read at (MemberName a b) r p e = by_words at 1 a b r (omega arith) p.0 p.1 e
  token_read at (Descriptor a b) r p e = by_words at 2 a b r (omega arith) p.0 p.1 e
  token_read at (SourceLine a b) r p e = by_words at 3 a b r (omega arith) p.0 p.1 e

  pub name_read : (at : ℕ) (n : Text) (r : List ℕ) → NameFits n → drop at f ≡ name_row_bytes n ++ r → name_row f at ≡ n
  name_read at n r p e = let w = two_read at n.place n.length r p.0 p.1 e in rw (w.0, w.1)

pub two_length : (x y : ℕ) → length (word_bytes x ++ word_bytes y) ≡ 8
unfolding word_bytes
two_length x y = refl

pub three_length : (x y z : ℕ) → length (three_words x y z) ≡ 12
unfolding word_bytes
three_length x y z = refl

pub token_length : (t : Token) → length (token_row_bytes t) ≡ 12
token_length (Other a b) = three_length 0 a b
token_length (MemberName a b) = three_length 1 a b
token_length (Descriptor a b) = three_length 2 a b
token_length (SourceLine a b) = three_length 3 a b

pub node_length : (n : Node) → length (node_row_bytes n) ≡ 8
node_length n = two_length (parent_word n.parent) (length n.tokens)

pub name_length : (n : Text) → length (name_row_bytes n) ≡ 8
name_length n = two_length n.place n.length

-- a parent
parent_again : (p : Parent) → ParentFits p → parent_by (parent_word p) ≡ p
parent_again no_parent h = refl
parent_again (parent_row p) h = rw (ne_eqb p 4294967295 (λ e. let z : p ≡ 4294967295 = e in omega arith))

parent_word_lem : (p : Parent) → ParentFits p → Word (parent_word p)
parent_word_lem no_parent h = omega arith
parent_word_lem (parent_row p) h = omega arith

-- Nodes, with the tokens of each.
module _ (c : TreeCounts) (f : List ℕ) where
  abbrev tokensFrom : ℕ → ℕ → List Token
  tokensFrom t n = list_from (token_at c f) t n

  tokens_read : (l : List Token) (t : ℕ) (r : List ℕ) → Every TokenFits l →
      drop (tokens_start c + 12 * t) f ≡ join (map token_row_bytes l) ++ r →
      tokensFrom t (length l) ≡ l
  tokens_read l t r p e = rows_read token_row_bytes 12 (tokens_start c) f token_length token_row TokenFits (token_read f) l t r p e

  tokens_past : (l : List Token) (t : ℕ) (r : List ℕ) → drop (tokens_start c + 12 * t) f ≡ join (map token_row_bytes l) ++ r →
      drop (tokens_start c + 12 * (t + length l)) f ≡ r
  tokens_past l t r e = rows_past token_row_bytes 12 (tokens_start c) f token_length l t r e

  pub nodes_read : (ns : List Node) (i t : ℕ) (r q : List ℕ) → Every (λ n. ParentFits n.parent) ns →
      Every TokenFits (all_tokens ns) →
      Word (length (all_tokens ns)) → drop (16 + 8 * i) f ≡ join (map node_row_bytes ns) ++ r →
      drop (tokens_start c + 12 * t) f ≡ join (map token_row_bytes (all_tokens ns)) ++ q → nodes_from c f i t (length ns) ≡ ns
  unfolding nodes_from all_tokens join
  nodes_read [] i t r q ps ts h e g = refl
  nodes_read (n ∷ ns) i t r q (every_one p ps) ts h e g =
      let first : drop (16 + 8 * i) f ≡ node_row_bytes n ++ (join (map node_row_bytes ns) ++ r) = e
      ∙ append_assoc (node_row_bytes n) (join (map node_row_bytes ns)) r in
      let fits : Word (length n.tokens) = omega (arith, length-append n.tokens (all_tokens ns)) in
      let words = two_read f (16 + 8 * i) (parent_word n.parent) (length n.tokens) (join (map node_row_bytes ns) ++ r)
      (parent_word_lem n.parent p) fits first in
      let parent : parent_by (parent_at f i) ≡ n.parent = ap parent_by words.0 ∙ parent_again n.parent p in
      let more : 16 + 8 * suc i ≡ 16 + 8 * i + 8 = omega arith in
      let next : drop (16 + 8 * suc i) f ≡ join (map node_row_bytes ns) ++ r =
      ap (λ k. drop k f) more ∙ sym (drop-drop 8 (16 + 8 * i) f) ∙ ap (drop 8) first
      ∙ drop_at (node_row_bytes n) (join (map node_row_bytes ns) ++ r) 8 (node_length n) in
      let split : drop (tokens_start c + 12 * t) f ≡ join (map token_row_bytes n.tokens) ++
      (join (map token_row_bytes (all_tokens ns)) ++ q) =
      g ∙ ap (λ l. l ++ q) (join_append token_row_bytes n.tokens (all_tokens ns))
      ∙ append_assoc (join (map token_row_bytes n.tokens)) (join (map token_row_bytes (all_tokens ns))) q in
      let tokens : tokensFrom t (token_count_at f i) ≡ n.tokens =
      ap (tokensFrom t) words.1
      ∙ tokens_read n.tokens t (join (map token_row_bytes (all_tokens ns)) ++ q) (every_front n.tokens (all_tokens ns) ts) split in
      let onward : drop (tokens_start c + 12 * (t + length n.tokens)) f ≡ join (map token_row_bytes (all_tokens ns)) ++ q =
      tokens_past n.tokens t (join (map token_row_bytes (all_tokens ns)) ++ q) split in
      let rest : nodes_from c f (suc i) (t + token_count_at f i) (length ns) ≡ ns =
      ap (λ k. nodes_from c f (suc i) (t + k) (length ns)) words.1 ∙ nodes_read ns (suc i) (t + length n.tokens) r q ps
      (every_back n.tokens (all_tokens ns) ts) (omega (arith, length-append n.tokens (all_tokens ns))) next onward in
      rw (parent, tokens, rest)

-- The counts at the head, and what stands behind them.
module _ (f : List ℕ) (c : TreeCounts) (r : List ℕ) (e : f ≡ count_bytes c ++ r) where
  abbrev last : List ℕ
  last = word_bytes c.bytes ++ r

  abbrev third : List ℕ
  third = word_bytes c.names ++ last

  abbrev second : List ℕ
  second = word_bytes c.tokens ++ third

  four_words : drop 0 f ≡ word_bytes c.nodes ++ second
  four_words = e ∙ simp append_assoc

  after_one : drop 4 f ≡ second
  after_one = past_word_lem f 0 c.nodes second four_words

  after_two : drop 8 f ≡ third
  after_two = past_word_lem f 4 c.tokens third after_one

  after_three : drop 12 f ≡ last
  after_three = past_word_lem f 8 c.names last after_two

  pub after_counts : drop 16 f ≡ r
  after_counts = past_word_lem f 12 c.bytes r after_three

  pub counts_read : Word c.nodes → Word c.tokens → Word c.names → Word c.bytes → counts_in f ≡ c
  counts_read h₁ h₂ h₃ h₄ =
      rw (
        word_written f 0 c.nodes second h₁ four_words,
        word_written f 4 c.tokens third h₂ after_one,
        word_written f 8 c.names last h₃ after_two,
        word_written f 12 c.bytes r h₄ after_three,
      )

-- The whole.
module _ (t : Tree) where
  abbrev nodePart : List ℕ
  nodePart = join (map node_row_bytes t.nodes)

  abbrev tokenPart : List ℕ
  tokenPart = join (map token_row_bytes (all_tokens t.nodes))

  abbrev namePart : List ℕ
  namePart = join (map name_row_bytes t.names)

  abbrev f : List ℕ
  f = written_tree t

  abbrev c : TreeCounts
  c = counts_of t

  at_nodes : drop (16 + 8 * 0) f ≡ nodePart ++ (tokenPart ++ (namePart ++ t.bytes))
  at_nodes = after_counts f c (nodePart ++ (tokenPart ++ (namePart ++ t.bytes))) refl

  pub at_tokens : drop (tokens_start c + 12 * 0) f ≡ tokenPart ++ (namePart ++ t.bytes)
  at_tokens =
      let z : tokens_start c + 12 * 0 ≡ 16 + 8 * (0 + length t.nodes) = omega arith in
      ap (λ n. drop n f) z ∙ rows_past node_row_bytes 8 16 f node_length t.nodes 0 (tokenPart ++ (namePart ++ t.bytes)) at_nodes

  at_names : drop (names_start c + 8 * 0) f ≡ namePart ++ t.bytes
  at_names =
      let z : names_start c + 8 * 0 ≡ tokens_start c + 12 * (0 + length (all_tokens t.nodes)) = omega arith in
      ap (λ n. drop n f) z
      ∙ rows_past token_row_bytes 12 (tokens_start c) f token_length (all_tokens t.nodes) 0 (namePart ++ t.bytes) at_tokens

  at_bytes : drop (bytes_start c) f ≡ t.bytes
  at_bytes =
      let z : bytes_start c ≡ names_start c + 8 * (0 + length t.names) = omega arith in
      ap (λ n. drop n f) z ∙ rows_past name_row_bytes 8 (names_start c) f name_length t.names 0 t.bytes at_names

  bytes_read : bytes_in c f ≡ t.bytes
  bytes_read = rw at_bytes (take_all (file_length c - bytes_start c) t.bytes (omega arith))

  -- its counts are those at the head of its file
  pub counts_again : Writable t → counts_in f ≡ c
  counts_again w =
      counts_read f c (nodePart ++ (tokenPart ++ (namePart ++ t.bytes))) refl w.node_count w.token_count w.name_count
      w.byte_count

  pub tree_again : Writable t → tree_by (counts_of t) (written_tree t) ≡ t
  tree_again w =
      let nodes : nodes_from c f 0 0 (length t.nodes) ≡ t.nodes =
      nodes_read c f t.nodes 0 0 (tokenPart ++ (namePart ++ t.bytes)) (namePart ++ t.bytes) w.parents w.tokens
      w.token_count at_nodes at_tokens in
      let names : list_from (name_at c f) 0 (length t.names) ≡ t.names =
      rows_read name_row_bytes 8 (names_start c) f name_length name_row NameFits (name_read f) t.names 0 t.bytes w.names at_names in
      rw (nodes, names, bytes_read)

  pub read_written : Writable t → read_tree (written_tree t) ≡ t
  read_written w = ap (λ k. tree_by k f) (counts_again w) ∙ tree_again w
