-- The tests of the check for 14, as the code makes them. Assumes nothing.
use mathlib.Core.Path.{◌≡◌, refl, sym, ◌∙◌, ap}
use mathlib.Core.Bool.{Bool, true, false, not}
use mathlib.Core.List.{List, []}
use Prim.Native.Nat.{ℕ, suc, ◌+◌, ◌-◌, ◌≤◌, ◌<◌, min}
use native.Mathlib.Numerals.{add-one}
use native.Mathlib.Omega.{arith}
use lib.Dec.{leb, ltb}
use lib.ListN.{length, get_or, take, drop, length-take, drop_of_length-le}
use lib.Seq.{drop-cons, get_or-take}
use borrow.Author.Tests.{le-leb, lt-leb, lt-ltb, le-ltb, not-true, not-false}
use borrow.Author.Rules.{rules}
use Rattle.ground.specs.Choice.{both}
use Rattle.ground.proofs.Parts.{prefix_whole}
use Rattle.text_utf8.specs.Utf8.{is_utf8}
use Rattle.text_utf8.specs.Inner.Runs.{AsciiTo}
use Rattle.text_utf8.proofs.Checking.{ascii_part}
use Rattle.table_rows.specs.declared.rows.Text.{Text}
use Rattle.table_rows.specs.declared.rows.Class.{Class}
use Rattle.table_rows.specs.declared.rows.Member.{Member}
use Rattle.tables.specs.declared.check.Used.{Used}
use Rattle.table_rows.specs.Rows.{unpack_class, unpack_member, flag_of, most_classes, most_members, most_pool}
use Rattle.tables.specs.Back.{text_in}
use Rattle.tables.specs.Check.{all_of, counts_fine, text_fine, class_fine, numbers_fine, texts_fine, member_fine, well_formed}
use Rattle.tables.proofs.Checking.{FineCounts, counts_told}

-- one test after the other: the first fails, or the second decides
first_fails : (x y : Bool) {b : Bool} → b ≡ x → not b ≡ true → false ≡ both x y
first_fails x y {b} e n = sym (ap (λ t. both t y) (sym e ∙ not-true b n))

then_second : (x y : Bool) {b : Bool} → b ≡ x → not b ≡ false → {d : Bool} → d ≡ y → d ≡ both x y
then_second x y {b} e n f = f ∙ sym (ap (λ t. both t y) (sym e ∙ not-false b n))

-- A text.
module _ (pool : List ℕ) (used : Used) (t : Text) where
  pub text_past : used.pool < t.place + t.length → false ≡ text_fine pool used t
  text_past h = sym (rw (lt-leb (t.place + t.length) used.pool h))

  pub text_inside : t.place + t.length ≤ used.pool → {s : List ℕ} → s ≡ text_in pool t → {b : Bool} → b ≡ is_utf8 s → b ≡ text_fine pool used t
  text_inside h f g = (g ∙ ap is_utf8 f) ∙ sym (rw (le-leb (t.place + t.length) used.pool h))

  pub text_ascii : t.place + t.length ≤ used.pool → {a : ℕ} → AsciiTo pool 0 a → t.place + t.length ≤ a → true ≡ text_fine pool used t
  text_ascii h k l = ascii_part pool k t.place t.length l ∙ sym (rw (le-leb (t.place + t.length) used.pool h))

pub ruleset text_tests = (text_past, text_inside, text_ascii, rules)

-- A class row.
module _ (pool : List ℕ) (used : Used) (row : List ℕ) {c : Class} (e : c ≡ unpack_class row) {b : Bool} (f : b ≡ text_fine pool used c.raw) where
  by_class : both (text_fine pool used c.raw) (text_fine pool used c.display) ≡ class_fine pool used row
  by_class = ap (λ x. both (text_fine pool used x.raw) (text_fine pool used x.display)) e

  pub class_no : not b ≡ true → false ≡ class_fine pool used row
  class_no n = first_fails (text_fine pool used c.raw) (text_fine pool used c.display) f n ∙ by_class

  pub class_yes : not b ≡ false → {d : Bool} → d ≡ text_fine pool used c.display → d ≡ class_fine pool used row
  class_yes n g = then_second (text_fine pool used c.raw) (text_fine pool used c.display) f n g ∙ by_class

pub ruleset class_tests = (class_no, class_yes, rules)

-- A member row.
module _ (used : Used) (row : List ℕ) {m : Member} (e : m ≡ unpack_member row) where
  by_member : both (ltb m.class used.classes) (both (leb m.kind 1) (leb (flag_of row) 2)) ≡ numbers_fine used row
  by_member = ap (λ x. both (ltb x.class used.classes) (both (leb x.kind 1) (leb (flag_of row) 2))) e

  pub class_beyond : used.classes ≤ m.class → false ≡ numbers_fine used row
  class_beyond h = rw (le-ltb m.class used.classes h) at by_member

  module _ (h : m.class < used.classes) where
    pub kind_beyond : 1 < m.kind → false ≡ numbers_fine used row
    kind_beyond k = rw (lt-ltb m.class used.classes h, lt-leb m.kind 1 k) at by_member

    pub numbers_last : m.kind ≤ 1 → {f : ℕ} → f ≡ flag_of row → leb f 2 ≡ numbers_fine used row
    numbers_last k g = ap (λ n. leb n 2) g ∙ rw (lt-ltb m.class used.classes h, le-leb m.kind 1 k) at by_member

pub ruleset number_tests = (class_beyond, kind_beyond, numbers_last, rules)

module _ (pool : List ℕ) (used : Used) (m : Member) where
  module _ {a : Bool} (e : a ≡ text_fine pool used m.raw_name) where
    pub texts_no : not a ≡ true → false ≡ texts_fine pool used m
    texts_no n = sym (rw (sym e ∙ not-true a n))

    module _ (n : not a ≡ false) {b : Bool} (f : b ≡ text_fine pool used m.descriptor) where
      pub texts_no_2 : not b ≡ true → false ≡ texts_fine pool used m
      texts_no_2 k = sym (rw (sym e ∙ not-false a n, sym f ∙ not-true b k))

      module _ (k : not b ≡ false) {c : Bool} (g : c ≡ text_fine pool used m.name) where
        pub texts_no_3 : not c ≡ true → false ≡ texts_fine pool used m
        texts_no_3 l = sym (rw (sym e ∙ not-false a n, sym f ∙ not-false b k, sym g ∙ not-true c l))

        pub texts_yes : not c ≡ false → {d : Bool} → d ≡ text_fine pool used m.owner → d ≡ texts_fine pool used m
        texts_yes l h = h ∙ sym (rw (sym e ∙ not-false a n, sym f ∙ not-false b k, sym g ∙ not-false c l))

pub ruleset texts_tests = (texts_no, texts_no_2, texts_no_3, texts_yes, rules)

module _ (pool : List ℕ) (used : Used) (row : List ℕ) {b : Bool} (e : b ≡ numbers_fine used row) where
  pub member_no : not b ≡ true → false ≡ member_fine pool used row
  member_no n = first_fails (numbers_fine used row) (texts_fine pool used (unpack_member row)) e n

  pub member_yes : not b ≡ false → {m : Member} → m ≡ unpack_member row → {d : Bool} → d ≡ texts_fine pool used m → d ≡ member_fine pool used row
  member_yes n f g = then_second (numbers_fine used row) (texts_fine pool used (unpack_member row)) e n (g ∙ ap (texts_fine pool used) f)

pub ruleset member_tests = (member_no, member_yes, rules)

-- All rows: what is left decides as the whole does.
pub record Asking (p : List ℕ → Bool) (rows : List (List ℕ)) (i : ℕ) : Type 0 where
  pub inside : i ≤ length rows
  pub decides : all_of p (drop i rows) ≡ all_of p rows

pub asking_starts : (p : List ℕ → Bool) (rows : List (List ℕ)) → Asking p rows 0
asking_starts p rows = record { inside = omega arith; decides = refl }

module _ {p : List ℕ → Bool} {rows : List (List ℕ)} {i : ℕ} (k : Asking p rows i) where
  pub asking_ends : length rows ≤ i → true ≡ all_of p rows
  unfolding all_of
  asking_ends h = rw (drop_of_length-le rows h) at k.decides

  module _ (h : i < length rows) where
    here : both (p (get_or rows i [])) (all_of p (drop (suc i) rows)) ≡ all_of p rows
    unfolding all_of
    here = rw (drop-cons rows i [] h) at k.decides

    module _ {b : Bool} (e : b ≡ p (get_or rows i [])) where
      pub asking_no : not b ≡ true → false ≡ all_of p rows
      asking_no n = first_fails (p (get_or rows i [])) (all_of p (drop (suc i) rows)) e n ∙ here

      pub asking_more : not b ≡ false → Asking p rows (i + 1)
      asking_more n = record {
        inside = omega arith;
        decides = rw add-one (then_second (p (get_or rows i [])) (all_of p (drop (suc i) rows)) e n refl ∙ here);
      }

pub ruleset asking = (asking_starts, asking_ends, asking_no, asking_more, rules)

-- Counts.
module _ (classes members pool : ℕ) (used : Used) {a : ℕ} (e : a ≡ min classes most_classes) where
  pub classes_above : a < used.classes → false ≡ counts_fine classes members pool used
  classes_above h = sym (rw (lt-leb used.classes (min classes most_classes) (omega arith)))

  module _ (h : used.classes ≤ a) {b : ℕ} (f : b ≡ min members most_members) where
    pub members_above : b < used.members → false ≡ counts_fine classes members pool used
    members_above k = sym (rw (le-leb used.classes (min classes most_classes) (omega arith), lt-leb used.members (min members most_members) (omega arith)))

    pub counts_last : used.members ≤ b → {c : ℕ} → c ≡ min pool most_pool → leb used.pool c ≡ counts_fine classes members pool used
    counts_last k g =
        ap (leb used.pool) g ∙ sym (rw (le-leb used.classes (min classes most_classes) (omega arith), le-leb used.members (min members most_members) (omega arith)))

pub ruleset count_tests = (classes_above, members_above, counts_last, rules)

-- The whole.
module _ (classes members : List (List ℕ)) (pool : List ℕ) (used : Used) {b : Bool} (e : b ≡ counts_fine (length classes) (length members) (length pool) used) where
  pub formed_counts : not b ≡ true → false ≡ well_formed classes members pool used
  formed_counts n = sym (rw (sym e ∙ not-true b n))

  module _ (n : not b ≡ false) where
    counts : FineCounts (length classes) (length members) (length pool) used
    counts = counts_told (length classes) (length members) (length pool) used (sym e ∙ not-false b n)

    pub classes_lent : used.classes ≤ length classes
    classes_lent = let k = counts in omega arith

    pub members_lent : used.members ≤ length members
    members_lent = let k = counts in omega arith

    pub pool_lent : used.pool ≤ length pool
    pool_lent = let k = counts in omega arith

    pub pool_ascii : {a : ℕ} → AsciiTo (take used.pool pool) 0 a → AsciiTo pool 0 a
    pool_ascii w =
        let k = counts in
        let n = length-take used.pool pool in
        record {
          goes = omega arith;
          inside = omega (arith, w.inside);
          each = λ i l u. rw (get_or-take used.pool pool i 0 (omega (arith, w.inside))) at (w.each i l u);
        }

    module _ {d : Bool} (f : d ≡ all_of (class_fine pool used) (take used.classes classes)) where
      pub formed_classes : not d ≡ true → false ≡ well_formed classes members pool used
      formed_classes k = sym (rw (sym e ∙ not-false b n, sym f ∙ not-true d k))

      pub formed_members : not d ≡ false → {g : Bool} → g ≡ all_of (member_fine pool used) (take used.members members) → g ≡ well_formed classes members pool used
      formed_members k h = h ∙ sym (rw (sym e ∙ not-false b n, sym f ∙ not-false d k))

pub ruleset forming = (prefix_whole, formed_counts, classes_lent, members_lent, pool_lent, pool_ascii, formed_classes, formed_members, rules)
