-- What the check for 14 says, as plain facts, and the other way: rows that are fine are well formed. Assumes nothing.
use Rattle.std.specs.Prelude.{Ok}
use mathlib.Core.Path.{◌≡◌, refl, sym, ◌∙◌, ap}
use mathlib.Core.Bool.{Bool, true, false, not}
use mathlib.Core.List.{List, [], ◌∷◌, ◌++◌}
use Prim.Native.Nat.{ℕ, zero, suc, ◌+◌, ◌≤◌, ◌<◌, min}
use native.Mathlib.Nat.{le_of_suc-le-suc, not-suc-le-zero}
use native.Mathlib.Omega.{arith}
use lib.Dec.{leb, ltb}
use lib.ListN.{length, get_or, take}
use lib.Seq.{get_or-take, length-take-le, take_at}
use borrow.Author.Tests.{le-leb, lt-ltb, leb-true, ltb-true, not-false}
use Rattle.ground.specs.Choice.{both}
use Rattle.ground.proofs.Cases.{both_left, both_right}
use Rattle.text_utf8.specs.Utf8.{check_of, is_utf8}
use Rattle.text_utf8.proofs.Checking.{valid_told}
use Rattle.table_rows.specs.declared.rows.Text.{Text}
use Rattle.table_rows.specs.declared.rows.Member.{Member}
use Rattle.tables.specs.declared.check.Used.{Used}
use Rattle.table_rows.specs.Rows.{unpack_class, unpack_member, flag_of, most_classes, most_members, most_pool}
use Rattle.tables.specs.Back.{text_in}
use Rattle.tables.specs.Check.{all_of, counts_fine, text_fine, class_fine, numbers_fine, texts_fine, member_fine, well_formed}

-- A test of every element.
module _ {A : Type 0} (p : A → Bool) where
  pub all_none : all_of p [] ≡ true
  unfolding all_of
  all_none = refl

  pub all_cons : (x : A) (l : List A) → p x ≡ true → all_of p l ≡ true → all_of p (x ∷ l) ≡ true
  unfolding all_of
  all_cons x l e f = rw (e, f)

  pub all_append : (a b : List A) → all_of p a ≡ true → all_of p b ≡ true → all_of p (a ++ b) ≡ true
  unfolding all_of
  all_append [] b e f = f
  all_append (x ∷ a) b e f = rw (both_left (p x) (all_of p a) e) (all_append a b (both_right (p x) (all_of p a) e) f)

  pub all_at : (z : A) (l : List A) → all_of p l ≡ true → (i : ℕ) → i < length l → p (get_or l i z) ≡ true
  unfolding all_of
  all_at z [] e i h = absurd (not-suc-le-zero h)
  all_at z (x ∷ l) e zero h = both_left (p x) (all_of p l) e
  all_at z (x ∷ l) e (suc i) h = all_at z l (both_right (p x) (all_of p l) e) i (le_of_suc-le-suc h)

  pub all_from : (z : A) (l : List A) → ((i : ℕ) → i < length l → p (get_or l i z) ≡ true) → all_of p l ≡ true
  unfolding all_of
  all_from z [] f = refl
  all_from z (x ∷ l) f = rw (f 0 (omega arith)) (all_from z l (λ i h. f (suc i) (omega arith)))

-- Counts: none is above what is lent.
pub record FineCounts (classes members pool : ℕ) (used : Used) : Type 0 where
  pub class_rows_lem : used.classes ≤ min classes most_classes
  pub member_rows : used.members ≤ min members most_members
  pub pool_bytes : used.pool ≤ min pool most_pool

module _ (classes members pool : ℕ) (used : Used) where
  pub counts_told : counts_fine classes members pool used ≡ true → FineCounts classes members pool used
  counts_told e =
      let p : Bool = leb used.classes (min classes most_classes) in
      let q : Bool = leb used.members (min members most_members) in
      let r : Bool = leb used.pool (min pool most_pool) in
      let f = both_right p (both q r) e in
      record {
        class_rows_lem = leb-true used.classes (min classes most_classes) (both_left p (both q r) e);
        member_rows = leb-true used.members (min members most_members) (both_left q r f);
        pool_bytes = leb-true used.pool (min pool most_pool) (both_right q r f);
      }

  pub counts_fine_lem : FineCounts classes members pool used → counts_fine classes members pool used ≡ true
  counts_fine_lem k =
      rw (
        le-leb used.classes (min classes most_classes) k.class_rows_lem,
        le-leb used.members (min members most_members) k.member_rows,
        le-leb used.pool (min pool most_pool) k.pool_bytes,
      )

-- A text: it does not reach past the used pool, and is UTF-8.
pub record FineText (pool : List ℕ) (used : Used) (t : Text) : Type 0 where
  pub inside : t.place + t.length ≤ used.pool
  pub valid : check_of (text_in pool t) ≡ Ok tt

module _ (pool : List ℕ) (used : Used) where
  module _ (t : Text) where
    pub text_told : text_fine pool used t ≡ true → FineText pool used t
    text_told e =
        let p : Bool = leb (t.place + t.length) used.pool in
        record {
          inside = leb-true (t.place + t.length) used.pool (both_left p (is_utf8 (text_in pool t)) e);
          valid = valid_told (text_in pool t) (both_right p (is_utf8 (text_in pool t)) e);
        }

    pub text_fine_lem : FineText pool used t → text_fine pool used t ≡ true
    text_fine_lem k = rw (le-leb (t.place + t.length) used.pool k.inside, k.valid)

  -- A class row.
  pub record FineClass (row : List ℕ) : Type 0 where
    pub raw : FineText pool used (unpack_class row).raw
    pub display : FineText pool used (unpack_class row).display

  -- A member row.
  pub record FineMember (row : List ℕ) : Type 0 where
    pub class_row_lem : (unpack_member row).class < used.classes
    pub kind : (unpack_member row).kind ≤ 1
    pub flag : flag_of row ≤ 2
    pub raw_name_lem : FineText pool used (unpack_member row).raw_name
    pub descriptor : FineText pool used (unpack_member row).descriptor
    pub name : FineText pool used (unpack_member row).name
    pub owner : FineText pool used (unpack_member row).owner

  module _ (row : List ℕ) where
    pub class_told : class_fine pool used row ≡ true → FineClass row
    class_told e =
        let a : Bool = text_fine pool used (unpack_class row).raw in
        let b : Bool = text_fine pool used (unpack_class row).display in
        record { raw = text_told (unpack_class row).raw (both_left a b e); display = text_told (unpack_class row).display (both_right a b e) }

    pub class_fine_lem : FineClass row → class_fine pool used row ≡ true
    class_fine_lem k = rw (text_fine_lem (unpack_class row).raw k.raw) (text_fine_lem (unpack_class row).display k.display)

    pub member_told : member_fine pool used row ≡ true → FineMember row
    member_told e =
        let m : Member = unpack_member row in
        let n : Bool = ltb m.class used.classes in
        let k : Bool = leb m.kind 1 in
        let f : Bool = leb (flag_of row) 2 in
        let a : Bool = text_fine pool used m.raw_name in
        let b : Bool = text_fine pool used m.descriptor in
        let c : Bool = text_fine pool used m.name in
        let d : Bool = text_fine pool used m.owner in
        let numbers = both_left (numbers_fine used row) (texts_fine pool used (unpack_member row)) e in
        let texts = both_right (numbers_fine used row) (texts_fine pool used (unpack_member row)) e in
        let texts₂ = both_right a (both b (both c d)) texts in
        let texts₃ = both_right b (both c d) texts₂ in
        record {
          class_row_lem = ltb-true m.class used.classes (both_left n (both k f) numbers);
          kind = leb-true m.kind 1 (both_left k f (both_right n (both k f) numbers));
          flag = leb-true (flag_of row) 2 (both_right k f (both_right n (both k f) numbers));
          raw_name_lem = text_told m.raw_name (both_left a (both b (both c d)) texts);
          descriptor = text_told m.descriptor (both_left b (both c d) texts₂);
          name = text_told m.name (both_left c d texts₃);
          owner = text_told m.owner (both_right c d texts₃);
        }

    pub member_fine_lem : FineMember row → member_fine pool used row ≡ true
    member_fine_lem k =
        rw (
          lt-ltb (unpack_member row).class used.classes k.class_row_lem,
          le-leb (unpack_member row).kind 1 k.kind,
          le-leb (flag_of row) 2 k.flag,
          text_fine_lem (unpack_member row).raw_name k.raw_name_lem,
          text_fine_lem (unpack_member row).descriptor k.descriptor,
          text_fine_lem (unpack_member row).name k.name,
        )
        (text_fine_lem (unpack_member row).owner k.owner)

-- The whole.
pub record Formed (classes members : List (List ℕ)) (pool : List ℕ) (used : Used) : Type 0 where
  pub counts : FineCounts (length classes) (length members) (length pool) used
  pub class_rows_lem : (i : ℕ) → i < used.classes → FineClass pool used (get_or classes i [])
  pub member_rows : (i : ℕ) → i < used.members → FineMember pool used (get_or members i [])

used_row : (p : List ℕ → Bool) (n : ℕ) (rows : List (List ℕ)) → n ≤ length rows → all_of p (take n rows) ≡ true → (i : ℕ) → i < n → p (get_or rows i []) ≡ true
used_row p n rows h e i l = ap p (sym (get_or-take n rows i [] l)) ∙ all_at p [] (take n rows) e i (rw (length-take-le n rows h) l)

module _ (classes members : List (List ℕ)) (pool : List ℕ) (used : Used) where
  pub formed : well_formed classes members pool used ≡ true → Formed classes members pool used
  formed e =
      let a : Bool = counts_fine (length classes) (length members) (length pool) used in
      let b : Bool = all_of (class_fine pool used) (take used.classes classes) in
      let c : Bool = all_of (member_fine pool used) (take used.members members) in
      let k = counts_told (length classes) (length members) (length pool) used (both_left a (both b c) e) in
      let rows = both_right a (both b c) e in
      record {
        counts = k;
        class_rows_lem = λ i h. class_told pool used (get_or classes i [])
            (used_row (class_fine pool used) used.classes classes (omega (arith, k.class_rows_lem)) (both_left b c rows) i h);
        member_rows = λ i h. member_told pool used (get_or members i [])
            (used_row (member_fine pool used) used.members members (omega (arith, k.member_rows)) (both_right b c rows) i h);
      }

  -- rows that are all fine
  pub well_formed_lem : FineCounts (length classes) (length members) (length pool) used → all_of (class_fine pool used) (take used.classes classes) ≡ true →
      all_of (member_fine pool used) (take used.members members) ≡ true → well_formed classes members pool used ≡ true
  well_formed_lem k c m = rw (counts_fine_lem (length classes) (length members) (length pool) used k, c) m

-- as a load leaves them: rows that are used, and what stands behind them
pub well_formed_rows : (cs c' ms m' : List (List ℕ)) (pool : List ℕ) (used : Used) → length cs ≡ used.classes → length ms ≡ used.members →
    FineCounts (length (cs ++ c')) (length (ms ++ m')) (length pool) used → all_of (class_fine pool used) cs ≡ true → all_of (member_fine pool used) ms ≡ true →
    well_formed (cs ++ c') (ms ++ m') pool used ≡ true
well_formed_rows cs c' ms m' pool used e f k c m =
    well_formed_lem (cs ++ c') (ms ++ m') pool used k (rw (take_at cs c' used.classes e) c) (rw (take_at ms m' used.members f) m)

-- after the code's own test: the rows that are counted are lent
module _ (classes members : List (List ℕ)) (pool : List ℕ) (used : Used) {b : Bool} (e : b ≡ well_formed classes members pool used) (n : not b ≡ false) where
  pub tested_formed : well_formed classes members pool used ≡ true
  tested_formed = sym e ∙ not-false b n

  pub class_rows_lent : used.classes ≤ length classes
  class_rows_lent = let k = (formed classes members pool used tested_formed).counts.class_rows_lem in omega arith

  pub member_rows_lent : used.members ≤ length members
  member_rows_lent = let k = (formed classes members pool used tested_formed).counts.member_rows in omega arith
