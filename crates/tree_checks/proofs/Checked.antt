-- The checks of a tree file, as the code makes them. Assumes nothing.
use Rattle.std.specs.Prelude.{Option, Some, None}
use mathlib.Core.Path.{◌≡◌, refl, sym, ◌∙◌, ap}
use mathlib.Core.Bool.{Bool, true, false, not}
use mathlib.Core.List.{List}
use Prim.Native.Nat.{ℕ, zero, suc, ◌+◌, ◌*◌, ◌-◌, ◌^◌, ◌≤◌, ◌<◌}
use native.Mathlib.Numerals.{add-one}
use native.Mathlib.Omega.{arith}
use lib.Dec.{eqb, leb, ltb}
use lib.ListN.{length, get_or, take, drop, length-replicate}
use mir.Syntax.{w8, w32}
use mir.Val.{Fits}
use borrow.Author.Tests.{ne_eqb, le-leb, lt-leb, lt-ltb, le-ltb, not-true, not-false}
use borrow.Author.Rules.{rules}
use Rattle.ground.specs.Choice.{pick}
use Rattle.ground.specs.Put.{between}
use Rattle.table_rows.specs.declared.rows.Text.{Text}
use Rattle.tables.specs.Back.{text_in}
use Rattle.text_utf8.specs.Utf8.{is_utf8}
use Rattle.text_utf8.specs.Inner.Runs.{AsciiTo}
use Rattle.text_utf8.proofs.Checking.{ascii_part}
use Rattle.tree_rule.specs.declared.TreeCounts.{TreeCounts}
use Rattle.tree_rule.specs.Words.{word_at, sum_from}
use Rattle.tree_rule.specs.Files.{file_length, tokens_start, names_start, parent_at, token_count_at, name_row, name_at, bytes_in}
use Rattle.tree_rule.specs.Checks.{
  first_faulty,
  length_agrees,
  root_fine,
  parent_lower,
  counts_sum,
  token_fine,
  token_row_fine,
  name_inside,
  name_utf8,
  faulty_text,
}
use Rattle.tree_checks.specs.Inner.Bound.{kind_bounds, fine_by}
use Rattle.tree_checks.specs.Inner.Lie.{NamesLie}
use Rattle.tree_rule.proofs.Reading.{bytes_count}
use Rattle.tree_rule.proofs.RowLaws.{each_fine}
use Rattle.tree_rule.proofs.WordLaws.{word_small}

-- The length.
pub length_told : (c : TreeCounts) (f : List ℕ) {n : ℕ} → n ≡ file_length c → eqb (length f) n ≡ length_agrees c f
length_told c f e = ap (eqb (length f)) e

-- The root.
module _ (c : TreeCounts) (f : List ℕ) where
  pub no_root : c.nodes < 1 → false ≡ root_fine c f
  no_root h = sym (rw (lt-leb 1 c.nodes h))

  pub root_told : 1 ≤ c.nodes → {w : ℕ} → w ≡ parent_at f 0 → eqb w 4294967295 ≡ root_fine c f
  root_told h e = ap (λ w. eqb w 4294967295) e ∙ sym (rw (le-leb 1 c.nodes h))

-- A parent.
pub lower_told : (f : List ℕ) (i : ℕ) {w : ℕ} → w ≡ parent_at f i → ltb w i ≡ parent_lower f i
lower_told f i e = ap (λ w. ltb w i) e

pub ruleset node_tests = (length_told, no_root, root_told, lower_told, rules)

-- A token, by the bounds of its kind.
module _ (l : List ℕ) {k w : ℕ} (e : k ≡ w) where
  pub kind_unknown : (a b : ℕ) → 3 < k → false ≡ fine_by l w a b
  kind_unknown a b h = rw (← e) (sym (rw (lt-leb k 3 h)))

  module _ (h : k ≤ 3) {x a : ℕ} (p : x ≡ a) where
    pub raw_beyond : (b : ℕ) → get_or l k 0 ≤ x → false ≡ fine_by l w a b
    raw_beyond b g = rw (← e, ← p) (sym (rw (le-leb k 3 h, le-ltb x (get_or l k 0) g)))

    pub both_told : x < get_or l k 0 → {y b : ℕ} → y ≡ b → ltb y (get_or l k 0) ≡ fine_by l w a b
    both_told g q = rw (← e, ← p, ← q) (sym (rw (le-leb k 3 h, lt-ltb x (get_or l k 0) g)))

pub ruleset token_tests = (kind_unknown, raw_beyond, both_told, rules)

-- the table holds the law's bounds: each kind is tried
by_table : (n k a b : ℕ) → a < 4294967296 → b < 4294967296 → fine_by (kind_bounds n) k a b ≡ token_fine n k a b
by_table n zero a b h i = rw (lt-ltb a 4294967296 h, lt-ltb b 4294967296 i)
by_table n (suc zero) a b h i = refl
by_table n (suc (suc zero)) a b h i = refl
by_table n (suc (suc (suc zero))) a b h i = rw (lt-ltb a 4294967296 h, lt-ltb b 4294967296 i)
by_table n (suc (suc (suc (suc k)))) a b h i =
    let m = suc (suc (suc (suc k))) in
    rw (
      lt-leb m 3 (omega arith),
      ne_eqb m 0 (λ e. omega arith),
      ne_eqb m 1 (λ e. omega arith),
      ne_eqb m 2 (λ e. omega arith),
      ne_eqb m 3 (λ e. omega arith),
    )

-- One row after the other: the first faulty one from here on is the first of all.
pub record Asked (p : ℕ → Bool) (n : ℕ) (whole : Option ℕ) (i : ℕ) : Type 0 where
  pub decides : first_faulty p i (n - i) ≡ whole

pub asked_first : (p : ℕ → Bool) (n : ℕ) → Asked p n (first_faulty p 0 n) 0
asked_first p n = let z : n - 0 ≡ n = omega arith in record { decides = rw z }

pub asked_second : (p : ℕ → Bool) (n : ℕ) → Asked p n (first_faulty p 1 (n - 1)) 1
asked_second p n = record { decides = refl }

module _ {p : ℕ → Bool} {n : ℕ} {whole : Option ℕ} {i : ℕ} (k : Asked p n whole i) where
  pub asked_ends : n ≤ i → None ≡ whole
  unfolding first_faulty
  asked_ends h = let z : n - i ≡ 0 = omega arith in rw z at k.decides

  module _ (h : i < n) {b : Bool} (e : b ≡ p i) where
    here : pick b (first_faulty p (suc i) (n - suc i)) (Some i) ≡ whole
    unfolding first_faulty
    here = let z : n - i ≡ suc (n - suc i) = omega arith in rw e (rw z at k.decides)

    pub asked_fails : not b ≡ true → Some i ≡ whole
    asked_fails g = rw (not-true b g) at here

    pub asked_more : not b ≡ false → Asked p n whole (i + 1)
    asked_more g = record { decides = rw add-one (rw (not-false b g) at here) }

-- the test of a row at its place
module _ (c : TreeCounts) (f : List ℕ) (i : ℕ) where
  pub token_asked : ((j : ℕ) → Fits w8 (get_or f j 0)) → {a : ℕ} → a ≡ tokens_start c → {l : List ℕ} → l ≡ kind_bounds c.names → {b : Bool} →
      b ≡ fine_by l (word_at f (a + 12 * i)) (word_at f (a + 12 * i + 4)) (word_at f (a + 12 * i + 8)) →
      b ≡ token_row_fine c f (tokens_start c + 12 * i)
  token_asked small {a} e {l} d g =
      let bytes : (j : ℕ) → get_or f j 0 < 256 = λ j. let h = small j in omega arith in
      g ∙ ap (λ x. fine_by x (word_at f (a + 12 * i)) (word_at f (a + 12 * i + 4)) (word_at f (a + 12 * i + 8))) d
      ∙ by_table c.names (word_at f (a + 12 * i)) (word_at f (a + 12 * i + 4)) (word_at f (a + 12 * i + 8))
      (word_small f bytes (a + 12 * i + 4)) (word_small f bytes (a + 12 * i + 8))
      ∙ ap (λ x. token_row_fine c f (x + 12 * i)) e

  module _ {a : ℕ} (e : a ≡ names_start c) {r : Text} (g : r ≡ name_row f (a + 8 * i)) where
    row_named : r ≡ name_at c f i
    row_named = g ∙ ap (λ x. name_row f (x + 8 * i)) e

    pub name_asked : {b : Bool} → b ≡ leb (r.place + r.length) c.bytes → b ≡ name_inside c f i
    name_asked h = h ∙ ap (λ x. leb (x.place + x.length) c.bytes) row_named

    module _ {l : List ℕ} (w : l ≡ bytes_in c f) where
      pub text_asked : {b : Bool} → b ≡ is_utf8 (text_in l r) → b ≡ name_utf8 c f i
      text_asked h = h ∙ ap (λ x. is_utf8 (text_in x r)) w ∙ ap (λ x. is_utf8 (text_in (bytes_in c f) x)) row_named

      -- a name lies in the name bytes
      pub text_lies : NamesLie c f → i < c.names → r.place + r.length ≤ length l
      text_lies k h = rw (w, bytes_count c f k.size, row_named) (k.lie i h)

pub ruleset asking = (asked_first, asked_second, asked_ends, asked_fails, asked_more, token_asked, name_asked, text_asked, text_lies, rules)

-- A name as a part of the name bytes.
pub name_part : (l : List ℕ) (t : Text) {b : Bool} → b ≡ is_utf8 (between l t.place (t.place + t.length)) → b ≡ is_utf8 (text_in l t)
name_part l t e = let z : t.place + t.length - t.place ≡ t.length = omega arith in e ∙ ap (λ n. is_utf8 (take n (drop t.place l))) z

pub ruleset name_tests = (name_part, rules)

-- The name bytes are as many as their count says, which has 32 bits.
pub bytes_few : (c : TreeCounts) (f : List ℕ) {l : List ℕ} → l ≡ bytes_in c f → NamesLie c f → Fits w32 c.bytes → length l < 2 ^ 32
bytes_few c f e k h = omega (arith, ap length e, bytes_count c f k.size)

-- Name bytes that are ASCII: each name is UTF-8.
pub ascii_names : (c : TreeCounts) (f : List ℕ) {l : List ℕ} → l ≡ bytes_in c f → NamesLie c f → {a : ℕ} → AsciiTo l 0 a → a ≡ length l →
    None ≡ faulty_text c f
ascii_names c f w k {a} r e =
    let z : length (bytes_in c f) ≡ c.bytes = bytes_count c f k.size in
    let y : a ≡ length (bytes_in c f) = e ∙ ap length w in
    let x : AsciiTo (bytes_in c f) 0 a = rw w at r in
    sym (each_fine (name_utf8 c f) 0 c.names (λ i _ h.
    let g = k.lie i (omega arith) in
    sym (ascii_part (bytes_in c f) x (name_at c f i).place (name_at c f i).length (omega arith))))

pub ruleset reached = (bytes_few, ascii_names, length-replicate, rules)

-- The sum of the token counts: what was added, and what is still to come.
pub record Summing (f : List ℕ) (n sum i : ℕ) : Type 0 where
  pub adds : sum + sum_from (token_count_at f) i (n - i) ≡ sum_from (token_count_at f) 0 n
  pub bounded : sum ≤ i * 4294967295

pub summing_starts : (f : List ℕ) (n : ℕ) → Summing f n 0 0
summing_starts f n = let z : n - 0 ≡ n = omega arith in record { adds = rw z (omega arith); bounded = omega arith }

module _ {f : List ℕ} {n sum i : ℕ} (k : Summing f n sum i) where
  pub summing_ends : (c : TreeCounts) → n ≤ i → c.nodes ≡ n → eqb sum c.tokens ≡ counts_sum c f
  unfolding sum_from
  summing_ends c h e =
      let z : n - i ≡ 0 = omega arith in
      let whole : sum + 0 ≡ sum_from (token_count_at f) 0 n = rw z at k.adds in
      let same : sum ≡ sum_from (token_count_at f) 0 n = omega arith in
      rw (e, ← same)

  module _ (h : i < n) {w : ℕ} (e : w ≡ token_count_at f i) where
    pub summing_more : Fits w32 w → Summing f n (sum + w) (i + 1)
    unfolding sum_from
    summing_more l =
        let z : n - i ≡ suc (n - suc i) = omega arith in
        let next : sum + (token_count_at f i + sum_from (token_count_at f) (suc i) (n - suc i)) ≡ sum_from (token_count_at f) 0 n =
        rw z at k.adds in
        record { adds = rw (add-one i) (omega arith); bounded = omega (arith, k.bounded) }

pub ruleset summing = (summing_starts, summing_ends, summing_more, rules)
