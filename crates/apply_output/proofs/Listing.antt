-- Names one after the other: their texts and their rows, and how long a file with them is. Assumes nothing.
use mathlib.Core.Path.{◌≡◌, refl, sym, ◌∙◌, ap}
use mathlib.Core.List.{List, [], ◌∷◌, ◌++◌, map, append_assoc}
use Prim.Native.Nat.{ℕ, ◌+◌, ◌*◌}
use native.Mathlib.Omega.{arith}
use lib.ListN.{length, length-append}
use Rattle.ground.specs.Join.{join}
use Rattle.ground.specs.Put.{between}
use Rattle.tree_rule.specs.declared.TreeCounts.{TreeCounts}
use Rattle.tree_rule.specs.Words.{word_bytes}
use Rattle.tree_rule.specs.Files.{
  nodes_start,
  tokens_start,
  names_start,
  bytes_start,
  file_length,
  bytes_in,
  name_row_bytes,
  count_bytes,
}
use Rattle.tree_rule.proofs.Reading.{bytes_count}
use Rattle.tree_rule.proofs.ReadWritten.{name_length}
use Rattle.apply_rule.specs.Applying.{name_rows}
use Rattle.apply_rule.specs.Inner.Plans.{laid_counts, laid_from}
use Rattle.ground.proofs.Joins.{joined_length}
use Rattle.apply_rule.proofs.Numbering.{name_rows_length}
use Rattle.ground.proofs.Parts.{between_length}

pub join_join : (a b : List (List ℕ)) → join (a ++ b) ≡ join a ++ join b
unfolding join
join_join [] b = refl
join_join (x ∷ a) b = ap (λ l. x ++ l) (join_join a b) ∙ sym (append_assoc x (join a) (join b))

pub rows_append : (at : ℕ) (a b : List (List ℕ)) → name_rows at (a ++ b) ≡ name_rows at a ++ name_rows (at + length (join a)) b
unfolding name_rows join
rows_append at [] b = let z : at + 0 ≡ at = omega arith in rw z
rows_append at (x ∷ a) b =
    let more : at + length x + length (join a) ≡ at + length (x ++ join a) = rw (length-append x (join a)) (omega arith) in
    ap (λ l. record { place = at; length = length x } ∷ l)
    (rows_append (at + length x) a b ∙ ap (λ n. name_rows (at + length x) a ++ name_rows n b) more)

-- Lengths.
pub counts_length : (c : TreeCounts) → length (count_bytes c) ≡ 16
unfolding word_bytes
counts_length c = refl

pub laid_length : (c : TreeCounts) (f tokens : List ℕ) (new : List (List ℕ)) → length f ≡ file_length c → length tokens ≡ 12 * c.tokens →
    length (laid_from c f tokens new) ≡ bytes_start c + 8 * length new + c.bytes + length (join new)
laid_length c f tokens new e h =
    let counts : List ℕ = count_bytes (laid_counts c new) in
    let nodes : List ℕ = between f nodes_start (tokens_start c) in
    let names : List ℕ = between f (names_start c) (bytes_start c) in
    let rows : List ℕ = join (map name_row_bytes (name_rows c.bytes new)) in
    let bytes : List ℕ = bytes_in c f in
    let texts : List ℕ = join new in
    let n₁ = counts_length (laid_counts c new) in
    let n₂ = between_length f nodes_start (tokens_start c) (omega arith) in
    let n₄ = between_length f (names_start c) (bytes_start c) (omega arith) in
    let n₅ = joined_length name_row_bytes 8 name_length (name_rows c.bytes new) in
    let m₅ = name_rows_length c.bytes new in
    let n₆ = bytes_count c f e in
    let l₁ = length-append counts (nodes ++ (tokens ++ (names ++ (rows ++ (bytes ++ texts))))) in
    let l₂ = length-append nodes (tokens ++ (names ++ (rows ++ (bytes ++ texts)))) in
    let l₃ = length-append tokens (names ++ (rows ++ (bytes ++ texts))) in
    let l₄ = length-append names (rows ++ (bytes ++ texts)) in
    let l₅ = length-append rows (bytes ++ texts) in
    let l₆ = length-append bytes texts in
    omega arith
