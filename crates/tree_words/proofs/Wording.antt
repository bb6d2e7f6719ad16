-- Numbers, rows and names of a tree file, as the code reads them. Assumes nothing.
use mathlib.Core.Path.{◌≡◌, ◌∙◌, ap}
use mathlib.Core.List.{List}
use Prim.Native.Nat.{ℕ, ◌+◌, ◌*◌}
use lib.ListN.{get_or}
use borrow.Author.Tests.{eq-eqb, ne_eqb}
use borrow.Author.Rules.{rules}
use Rattle.ground.specs.Put.{between}
use Rattle.table_rows.specs.declared.rows.Text.{Text}
use Rattle.table_rows.specs.Rows.{text}
use Rattle.tables.specs.Back.{text_in}
use Rattle.tree_rule.specs.declared.TreeCounts.{TreeCounts}
use Rattle.tree_rule.specs.declared.Token.TheVariants.{Other, MemberName, Descriptor, SourceLine}
use Rattle.tree_rule.specs.Words.{word_at}
use Rattle.tree_rule.specs.Files.{tree_counts, counts_in, names_start, bytes_start, file_length, token_by, token_row, name_row, bytes_in, text_at}

-- A number: four bytes.
pub word_told : (f : List ℕ) (at : ℕ) {a b c d : ℕ} → a ≡ get_or f at 0 → b ≡ get_or f (at + 1) 0 →
    c ≡ get_or f (at + 2) 0 → d ≡ get_or f (at + 3) 0 →
    a + 256 * b + 65536 * c + 16777216 * d ≡ word_at f at
unfolding word_at
word_told f at e g h i = rw (e, g, h, i)

pub ruleset words = (word_told, rules)

-- Counts.
pub counts_told : (f : List ℕ) {n t s b : ℕ} → n ≡ word_at f 0 → t ≡ word_at f 4 → s ≡ word_at f 8 → b ≡ word_at f 12 →
    tree_counts n t s b ≡ counts_in f
counts_told f e g h i = rw (e, g, h, i)

pub bytes_told : (f : List ℕ) (c : TreeCounts) {a e : ℕ} → a ≡ bytes_start c → e ≡ file_length c → between f a e ≡ bytes_in c f
bytes_told f c g h = rw (g, h)

pub ruleset layouts = (counts_told, bytes_told, rules)

-- Rows.
pub name_row_told : (f : List ℕ) (at : ℕ) {p n : ℕ} → p ≡ word_at f at → n ≡ word_at f (at + 4) → text p n ≡ name_row f at
name_row_told f at e g = rw (e, g)

module _ (f : List ℕ) (at : ℕ) {k a b : ℕ} (e : k ≡ word_at f at) (g : a ≡ word_at f (at + 4)) (h : b ≡ word_at f (at + 8)) where
  by_row : token_by k a b ≡ token_row f at
  by_row = rw (e, g, h)

  pub member_told : k ≡ 1 → MemberName a b ≡ token_row f at
  member_told i = rw (eq-eqb k 1 i) at by_row

  module _ (i : k ≡ 1 → ⊥) where
    pub descriptor_told : k ≡ 2 → Descriptor a b ≡ token_row f at
    descriptor_told j = rw (ne_eqb k 1 i, eq-eqb k 2 j) at by_row

    module _ (j : k ≡ 2 → ⊥) where
      pub line_told_lem : k ≡ 3 → SourceLine a b ≡ token_row f at
      line_told_lem l = rw (ne_eqb k 1 i, ne_eqb k 2 j, eq-eqb k 3 l) at by_row

      pub other_told : (k ≡ 3 → ⊥) → Other a b ≡ token_row f at
      other_told l = rw (ne_eqb k 1 i, ne_eqb k 2 j, ne_eqb k 3 l) at by_row

pub ruleset rows = (name_row_told, member_told, descriptor_told, line_told_lem, other_told, rules)

-- Names.
module _ (c : TreeCounts) (f : List ℕ) (i : ℕ) where
  pub name_told_lem : {a : ℕ} → a ≡ names_start c → {n : Text} → n ≡ name_row f (a + 8 * i) → {b : List ℕ} →
      b ≡ bytes_in c f → {t : List ℕ} → t ≡ text_in b n →
      t ≡ text_at c f i
  name_told_lem e {n} g h k = k ∙ ap (λ x. text_in x n) h ∙ ap (text_in (bytes_in c f)) (g ∙ ap (λ x. name_row f (x + 8 * i)) e)

pub ruleset naming = (name_told_lem, rules)
