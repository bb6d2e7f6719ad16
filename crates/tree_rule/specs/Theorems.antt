-- The words of the theorems about tree files. No rule cites them.
use Rattle.std.specs.Prelude.{◌≡◌, Bool, true, false, List, [], ◌∷◌, ℕ, zero, suc, ◌+◌, ◌*◌, ◌≤◌, ◌<◌, length, get_or}
use Rattle.table_rows.specs.declared.rows.Text.{Text}
use Rattle.tables.specs.Back.{text_in}
use Rattle.text_utf8.specs.Utf8.{is_utf8}
use Rattle.tree_rule.specs.declared.TreeCounts.{TreeCounts}
use Rattle.tree_rule.specs.declared.Token.{Token}
use Rattle.tree_rule.specs.declared.Token.TheVariants.{Other, MemberName, Descriptor, SourceLine}
use Rattle.tree_rule.specs.Words.{word_at, sum_from}
use Rattle.tree_rule.specs.Trees.{Parent, no_parent, parent_row, Node, Tree}
use Rattle.tree_rule.specs.Files.{counts_in, file_length, tokens_start, parent_at, token_count_at, token_at, name_at, text_at, all_tokens}

-- The names of a token are rows.
abbrev pub NamesBelow : ℕ → Token → Type 0
NamesBelow names (Other a b) = 0 ≤ 0
NamesBelow names (MemberName raw display) = (raw < names) × (display < names)
NamesBelow names (Descriptor raw display) = (raw < names) × (display < names)
NamesBelow names (SourceLine raw display) = 0 ≤ 0

-- What the checks say, as plain facts: a file with these counts is well formed.
pub record FormedBy (c : TreeCounts) (f : List ℕ) : Type 0 where
  pub size : length f ≡ file_length c
  pub some : 1 ≤ c.nodes
  pub root : parent_at f 0 ≡ 4294967295
  pub lower : (i : ℕ) → 1 ≤ i → i < c.nodes → parent_at f i < i
  pub sums : sum_from (token_count_at f) 0 c.nodes ≡ c.tokens
  pub kinds : (i : ℕ) → i < c.tokens → word_at f (tokens_start c + 12 * i) ≤ 3
  pub tokens : (i : ℕ) → i < c.tokens → NamesBelow c.names (token_at c f i)
  pub inside : (i : ℕ) → i < c.names → (name_at c f i).place + (name_at c f i).length ≤ c.bytes
  pub utf8 : (i : ℕ) → i < c.names → is_utf8 (text_at c f i) ≡ true

abbrev pub FormedTree : List ℕ → Type 0
FormedTree f = FormedBy (counts_in f) f

-- Every number of a tree can be written in 32 bits.
abbrev pub Word : ℕ → Type 0
Word x = x < 4294967296

-- the number that says "no parent" is no row
abbrev pub ParentFits : Parent → Type 0
ParentFits no_parent = 0 ≤ 0
ParentFits (parent_row p) = p < 4294967295

abbrev pub TokenFits : Token → Type 0
TokenFits (Other a b) = Word a × Word b
TokenFits (MemberName raw display) = Word raw × Word display
TokenFits (Descriptor raw display) = Word raw × Word display
TokenFits (SourceLine raw display) = Word raw × Word display

abbrev pub NameFits : Text → Type 0
NameFits n = Word n.place × Word n.length

-- a statement about every element of a list
pub data Every {A : Type 0} (P : A → Type 0) : List A → Type 0 where
  every_none : Every P []
  every_one : {x : A} {l : List A} → P x → Every P l → Every P (x ∷ l)

pub record Writable (t : Tree) : Type 0 where
  pub node_count : Word (length t.nodes)
  pub token_count : Word (length (all_tokens t.nodes))
  pub name_count : Word (length t.names)
  pub byte_count : Word (length t.bytes)
  pub parents : Every (λ n. ParentFits n.parent) t.nodes
  pub tokens : Every TokenFits (all_tokens t.nodes)
  pub names : Every NameFits t.names

-- Of `n` rows from row `i` on, row `k` is the first of which `p` does not hold.
pub record FaultyRow (p : ℕ → Bool) (i n k : ℕ) : Type 0 where
  pub «from» : i ≤ k
  pub below : k < i + n
  pub fails : p k ≡ false
  pub before : (j : ℕ) → i ≤ j → j < k → p j ≡ true

-- What the checks say of the tree itself: the tree of a file that passes them is sound, and the file of a sound tree passes them.

-- "row 0's parent is FFFFFFFF, any other's a lower row"
abbrev pub ParentSound : ℕ → Parent → Type 0
ParentSound zero no_parent = 0 ≤ 0
ParentSound zero (parent_row p) = ⊥
ParentSound (suc i) no_parent = ⊥
ParentSound (suc i) (parent_row p) = p < suc i

abbrev pub no_node : Node
no_node = record { parent = no_parent; tokens = [] }

pub record SoundTree (t : Tree) : Type 0 where
  pub some : 1 ≤ length t.nodes
  pub parents : (i : ℕ) → i < length t.nodes → ParentSound i (get_or t.nodes i no_node).parent
  pub tokens : Every (NamesBelow (length t.names)) (all_tokens t.nodes)
  pub inside : Every (λ n. n.place + n.length ≤ length t.bytes) t.names
  pub utf8 : Every (λ n. is_utf8 (text_in t.bytes n) ≡ true) t.names
