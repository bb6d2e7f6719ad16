-- Document 01 "Tree file (added)", refusal 12: the checks of a tree file, in document 01's order, "all rows at a time". Sums and products
-- are of numbers without a bound, so that no count can be so large that a check passes by it.
use Rattle.std.specs.Prelude.{Bool, true, false, List, ℕ, zero, suc, ◌+◌, ◌*◌, ◌-◌, eqb, leb, ltb, length, Option, Some, None}
use Rattle.ground.specs.Choice.{pick, both}
use Rattle.text_utf8.specs.Utf8.{is_utf8}
use Rattle.tree_rule.specs.declared.TreeCounts.{TreeCounts}
use Rattle.tree_rule.specs.Words.{word_at, sum_from}
use Rattle.tree_rule.specs.Files.{counts_in, file_length, tokens_start, parent_at, token_count_at, name_at, text_at}

-- the first of `n` rows, from row `i` on, of which `fine` does not hold
unfoldable pub first_faulty : (ℕ → Bool) → ℕ → ℕ → Option ℕ
first_faulty fine i zero = None
first_faulty fine i (suc n) =
    let later = first_faulty fine (suc i) n in
    pick (fine i) later (Some i)

abbrev pub all_fine : Option ℕ → Bool
all_fine None = true
all_fine (Some i) = false

-- "The length must agree". A file of fewer than 16 bytes agrees with no counts.
abbrev pub length_agrees : TreeCounts → List ℕ → Bool
length_agrees c f = eqb (length f) (file_length c)

-- "N is at least 1; row 0's parent is FFFFFFFF"
abbrev pub root_fine : TreeCounts → List ℕ → Bool
root_fine c f = both (leb 1 c.nodes) (eqb (parent_at f 0) 0xFFFFFFFF)

-- "any other's a lower row"
abbrev pub parent_lower : List ℕ → ℕ → Bool
parent_lower f i = ltb (parent_at f i) i

abbrev pub faulty_parent : TreeCounts → List ℕ → Option ℕ
faulty_parent c f = first_faulty (parent_lower f) 1 (c.nodes - 1)

-- "token counts sum to T"
abbrev pub counts_sum : TreeCounts → List ℕ → Bool
counts_sum c f = eqb (sum_from (token_count_at f) 0 c.nodes) c.tokens

-- "kind 1 member name and 2 descriptor (raw name, display name, below S), 3 source line (raw, display), 0 anything else, its a and b not
-- read, no other kind"
abbrev pub token_fine : ℕ → ℕ → ℕ → ℕ → Bool
token_fine names kind a b =
    pick (eqb kind 0) true
    (pick (eqb kind 1) (both (ltb a names) (ltb b names))
    (pick (eqb kind 2) (both (ltb a names) (ltb b names)) (eqb kind 3)))

abbrev pub token_row_fine : TreeCounts → List ℕ → ℕ → Bool
token_row_fine c f at = token_fine c.names (word_at f at) (word_at f (at + 4)) (word_at f (at + 8))

abbrev pub faulty_token : TreeCounts → List ℕ → Option ℕ
faulty_token c f = first_faulty (λ i. token_row_fine c f (tokens_start c + 12 * i)) 0 c.tokens

-- "names inside B"
abbrev pub name_inside : TreeCounts → List ℕ → ℕ → Bool
name_inside c f i = leb ((name_at c f i).place + (name_at c f i).length) c.bytes

abbrev pub faulty_name : TreeCounts → List ℕ → Option ℕ
faulty_name c f = first_faulty (name_inside c f) 0 c.names

-- "and UTF-8"
abbrev pub name_utf8 : TreeCounts → List ℕ → ℕ → Bool
name_utf8 c f i = is_utf8 (text_at c f i)

abbrev pub faulty_text : TreeCounts → List ℕ → Option ℕ
faulty_text c f = first_faulty (name_utf8 c f) 0 c.names

-- "Checked in this order, all rows at a time."
abbrev pub checks_pass : TreeCounts → List ℕ → Bool
checks_pass c f =
    both (length_agrees c f)
    (both (root_fine c f)
    (both (all_fine (faulty_parent c f))
    (both (counts_sum c f)
    (both (all_fine (faulty_token c f))
    (both (all_fine (faulty_name c f)) (all_fine (faulty_text c f)))))))

-- a tree file that is not malformed
abbrev pub well_formed_file : List ℕ → Bool
well_formed_file f = checks_pass (counts_in f) f
