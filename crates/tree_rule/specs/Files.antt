-- Document 01 "Tree file (added)": "counts N, T, S, B; N node rows (parent, token count); T token rows (kind, a, b) in node order; S name
-- rows (place among the name bytes, length); B name bytes." A file is read to a tree, and a tree is written to a file.
use Rattle.std.specs.Prelude.{List, [], ◌∷◌, ◌++◌, map, ℕ, zero, suc, ◌+◌, ◌*◌, eqb, length}
use Rattle.ground.specs.Choice.{pick}
use Rattle.ground.specs.Join.{join}
use Rattle.ground.specs.Put.{between}
use Rattle.table_rows.specs.declared.rows.Text.{Text}
use Rattle.table_rows.specs.Rows.{text}
use Rattle.tables.specs.Back.{text_in}
use Rattle.tree_rule.specs.declared.TreeCounts.{TreeCounts}
use Rattle.tree_rule.specs.declared.Token.{Token}
use Rattle.tree_rule.specs.declared.Token.TheVariants.{Other, MemberName, Descriptor, SourceLine}
use Rattle.tree_rule.specs.Words.{word_at, word_bytes, list_from}
use Rattle.tree_rule.specs.Trees.{Parent, no_parent, parent_row, Node, Tree}

-- "counts N, T, S, B"
abbrev pub tree_counts : ℕ → ℕ → ℕ → ℕ → TreeCounts
tree_counts n t s b = record { nodes = n; tokens = t; names = s; bytes = b }

abbrev pub counts_in : List ℕ → TreeCounts
counts_in f = tree_counts (word_at f 0) (word_at f 4) (word_at f 8) (word_at f 12)

-- where each stretch starts: four numbers, then rows of two, of three and of two numbers, then bytes
abbrev pub nodes_start : ℕ
nodes_start = 16

abbrev pub tokens_start : TreeCounts → ℕ
tokens_start c = nodes_start + 8 * c.nodes

abbrev pub names_start : TreeCounts → ℕ
names_start c = tokens_start c + 12 * c.tokens

abbrev pub bytes_start : TreeCounts → ℕ
bytes_start c = names_start c + 8 * c.names

abbrev pub file_length : TreeCounts → ℕ
file_length c = bytes_start c + c.bytes

-- "N node rows (parent, token count)"
abbrev pub parent_at : List ℕ → ℕ → ℕ
parent_at f i = word_at f (nodes_start + 8 * i)

abbrev pub token_count_at : List ℕ → ℕ → ℕ
token_count_at f i = word_at f (nodes_start + 8 * i + 4)

-- "T token rows (kind, a, b)": "kind 1 member name and 2 descriptor (raw name, display name ..), 3 source line (raw, display), 0 anything
-- else"
abbrev pub token_by : ℕ → ℕ → ℕ → Token
token_by kind a b =
    pick (eqb kind 1) (MemberName a b)
    (pick (eqb kind 2) (Descriptor a b)
    (pick (eqb kind 3) (SourceLine a b) (Other a b)))

abbrev pub token_row : List ℕ → ℕ → Token
token_row f at = token_by (word_at f at) (word_at f (at + 4)) (word_at f (at + 8))

abbrev pub token_at : TreeCounts → List ℕ → ℕ → Token
token_at c f i = token_row f (tokens_start c + 12 * i)

-- "S name rows (place among the name bytes, length)"
abbrev pub name_row : List ℕ → ℕ → Text
name_row f at = text (word_at f at) (word_at f (at + 4))

abbrev pub name_at : TreeCounts → List ℕ → ℕ → Text
name_at c f i = name_row f (names_start c + 8 * i)

-- "B name bytes"
abbrev pub bytes_in : TreeCounts → List ℕ → List ℕ
bytes_in c f = between f (bytes_start c) (file_length c)

abbrev pub text_at : TreeCounts → List ℕ → ℕ → List ℕ
text_at c f i = text_in (bytes_in c f) (name_at c f i)

-- Reading. It answers any bytes: what a file that fails a check is read to, nobody asks.

abbrev pub parent_by : ℕ → Parent
parent_by w = pick (eqb w 0xFFFFFFFF) no_parent (parent_row w)

-- "T token rows .. in node order": `n` nodes from row `i` on, the first of which has its tokens from token `t` on
unfoldable pub nodes_from : TreeCounts → List ℕ → ℕ → ℕ → ℕ → List Node
nodes_from c f i t zero = []
nodes_from c f i t (suc n) =
    record { parent = parent_by (parent_at f i); tokens = list_from (token_at c f) t (token_count_at f i) } ∷
    nodes_from c f (suc i) (t + token_count_at f i) n

abbrev pub tree_by : TreeCounts → List ℕ → Tree
tree_by c f = record { nodes = nodes_from c f 0 0 c.nodes; names = list_from (name_at c f) 0 c.names; bytes = bytes_in c f }

abbrev pub read_tree : List ℕ → Tree
read_tree f = tree_by (counts_in f) f

-- Writing.

unfoldable pub all_tokens : List Node → List Token
all_tokens [] = []
all_tokens (n ∷ ns) = n.tokens ++ all_tokens ns

abbrev pub parent_word : Parent → ℕ
parent_word no_parent = 0xFFFFFFFF
parent_word (parent_row p) = p

abbrev pub node_row_bytes : Node → List ℕ
node_row_bytes n = word_bytes (parent_word n.parent) ++ word_bytes (length n.tokens)

abbrev pub three_words : ℕ → ℕ → ℕ → List ℕ
three_words x y z = word_bytes x ++ (word_bytes y ++ word_bytes z)

abbrev pub token_row_bytes : Token → List ℕ
token_row_bytes (Other a b) = three_words 0 a b
token_row_bytes (MemberName raw display) = three_words 1 raw display
token_row_bytes (Descriptor raw display) = three_words 2 raw display
token_row_bytes (SourceLine raw display) = three_words 3 raw display

abbrev pub name_row_bytes : Text → List ℕ
name_row_bytes n = word_bytes n.place ++ word_bytes n.length

abbrev pub count_bytes : TreeCounts → List ℕ
count_bytes c = word_bytes c.nodes ++ (word_bytes c.tokens ++ (word_bytes c.names ++ word_bytes c.bytes))

-- the counts of a tree
abbrev pub counts_of : Tree → TreeCounts
counts_of t = tree_counts (length t.nodes) (length (all_tokens t.nodes)) (length t.names) (length t.bytes)

abbrev pub written_tree : Tree → List ℕ
written_tree t =
    count_bytes (counts_of t) ++
    (join (map node_row_bytes t.nodes) ++
    (join (map token_row_bytes (all_tokens t.nodes)) ++ (join (map name_row_bytes t.names) ++ t.bytes)))
