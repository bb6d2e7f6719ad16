-- One class written. Assumes nothing.
use Rattle.std.specs.Prelude.{Result, Ok, Err}
use mathlib.Core.Path.{◌≡◌, ◌∙◌, ap}
use mathlib.Core.List.{List}
use Prim.Native.Nat.{ℕ, ◌+◌, ◌-◌, ◌≤◌, ◌<◌}
use native.Mathlib.Omega.{arith}
use lib.ListN.{length, set}
use borrow.Author.Rules.{rules}
use Rattle.ground.specs.Put.{between}
use Rattle.table_pool.specs.Names.{class_descriptor}
use Rattle.table_rows.specs.Classes.{Pair}
use Rattle.table_pool.specs.Inner.Wrote.{TwoAt, TwoBy, two_texts, no_room}
use Rattle.table_pool.proofs.Writes.{two_no_first, two_no_second, two_done, two_told, two_none}
use Rattle.table_rows.specs.declared.rows.Text.{Text}
use Rattle.table_rows.specs.Rows.{text, pack_class, most_pool}
use Rattle.load_rule.specs.Classes.{class_text, class_row}
use Rattle.load_classes.specs.declared.names.ClassNames.{ClassNames}
use Rattle.load_classes.specs.Inner.Names.{class_named}
use Rattle.load_classes.specs.Inner.Entries.{EnteredClass}
use Rattle.table_pool.specs.declared.write.TwoTexts.{TwoTexts}
use Rattle.table_pool.specs.declared.write.NoRoom.{NoRoom}

-- Two descriptors, one after the other.
pub ruleset pairing = (two_no_first, two_no_second, two_done, rules)

-- The row.
module _ (at m q : ℕ) {raw display : Text} (a : raw ≡ text at (m - at)) (b : display ≡ text m (q - m)) where
  pub row_of_texts : {row : List ℕ} → row ≡ pack_class (record { raw = raw; display = display }) →
      row ≡ pack_class (record { raw = text at (m - at); display = text m (q - m) })
  row_of_texts f = f ∙ rw (a, b)

pub ruleset rowing = (row_of_texts, rules)

row_same : (at m q : ℕ) (k : Pair) → m ≡ at + length k.raw → q ≡ m + length k.display → pack_class (record { raw = text at (m - at); display = text m (q - m) }) ≡ class_row at k
row_same at m q k e f =
    let a : m - at ≡ length k.raw = omega arith in
    let b : q - m ≡ length k.display = omega arith in
    rw (a, b, e)

module _ (d : List ℕ) (at : ℕ) (l : List ℕ) (ns : ClassNames) (r : Result TwoTexts NoRoom) (d₁ : List ℕ)
    (w : TwoBy r d at (class_descriptor (between l ns.raw.start ns.raw.«end»)) (class_descriptor (between l ns.display.start ns.display.«end»)) d₁) where
  pub enter_none : r ≡ Err no_room → length d < at + length (class_text (class_named l ns))
  enter_none e = two_none r d at (class_named l ns).raw (class_named l ns).display d₁ w e

  module _ {x : TwoTexts} (e : r ≡ Ok x) where
    there : TwoAt x.second x.next d at (class_named l ns).raw (class_named l ns).display d₁
    there = two_told r d at (class_named l ns).raw (class_named l ns).display d₁ w e

    pub enter_first : at ≤ x.second
    enter_first = let s = there.second in omega arith

    pub enter_second : x.second ≤ x.next
    enter_second = let a = there.next in omega arith

    pub enter_inside : length d ≤ most_pool → x.next ≤ most_pool
    enter_inside h = let p = there.written.past in let o = there.written.room in omega arith

    pub enter_done : {row : List ℕ} → row ≡ pack_class (record { raw = text at (x.second - at); display = text x.second (x.next - x.second) }) →
        (c : List (List ℕ)) (count : ℕ) → EnteredClass x.next (class_named l ns) count at c d (set c count row) d₁
    enter_done f c count = record {
      written = there.written;
      row = ap (set c count) (f ∙ row_same at x.second x.next (class_named l ns) there.second there.next);
    }

pub ruleset entering = (enter_none, enter_first, enter_second, enter_inside, enter_done, rules)
