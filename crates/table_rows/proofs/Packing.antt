-- Packing a member. Assumes nothing.
use mathlib.Core.Path.{◌≡◌, refl, sym, ◌∙◌, ap}
use mathlib.Core.List.{List, ◌++◌}
use Prim.Native.Nat.{ℕ}
use lib.ListN.{get_or, set}
use borrow.Author.Tests.{eq-eqb, ne_eqb}
use borrow.Author.Rules.{rules}
use Rattle.table_rows.specs.declared.rows.Class.{Class}
use Rattle.table_rows.specs.declared.rows.Ranges.{Ranges}
use Rattle.table_rows.specs.declared.rows.Ranges.TheVariants.{None, Display, Both}
use Rattle.table_rows.specs.declared.rows.Member.{Member}
use Rattle.table_rows.specs.Inner.Parts.{parts_row}
use Rattle.table_rows.specs.Rows.{text, pack_class, unpack_class, range_numbers, head_numbers, pack_member, unpack_ranges, unpack_member}

module _ (m : Member) {r : List ℕ} (e : r ≡ parts_row m) where
  pub pack_none : m.ranges ≡ None → r ≡ pack_member m
  pack_none f = e ∙ sym (ap (λ x. head_numbers m ++ range_numbers x) f)

  pub pack_display : {a z : ℕ} → m.ranges ≡ Display a z → set (set (set r 10 1) 13 a) 14 z ≡ pack_member m
  pack_display {a} {z} f = ap (λ x. set (set (set x 10 1) 13 a) 14 z) e ∙ sym (ap (λ x. head_numbers m ++ range_numbers x) f)

  pub pack_both : {p q a z : ℕ} → m.ranges ≡ Both p q a z → set (set (set (set (set r 10 2) 11 p) 12 q) 13 a) 14 z ≡ pack_member m
  pack_both {p} {q} {a} {z} f = ap (λ x. set (set (set (set (set x 10 2) 11 p) 12 q) 13 a) 14 z) e ∙ sym (ap (λ x. head_numbers m ++ range_numbers x) f)

pub ruleset packing = (pack_none, pack_display, pack_both, rules)

-- Unpacking.
module _ (row : List ℕ) where
  pub ranges_none : get_or row 10 0 ≡ 0 → None ≡ unpack_ranges row
  ranges_none e = sym (rw (eq-eqb (get_or row 10 0) 0 e))

  module _ (n : get_or row 10 0 ≡ 0 → ⊥) where
    pub ranges_display : get_or row 10 0 ≡ 1 → Display (get_or row 13 0) (get_or row 14 0) ≡ unpack_ranges row
    ranges_display e = sym (rw (ne_eqb (get_or row 10 0) 0 n, eq-eqb (get_or row 10 0) 1 e))

    pub ranges_both : (get_or row 10 0 ≡ 1 → ⊥) → Both (get_or row 11 0) (get_or row 12 0) (get_or row 13 0) (get_or row 14 0) ≡ unpack_ranges row
    ranges_both m = sym (rw (ne_eqb (get_or row 10 0) 0 n, ne_eqb (get_or row 10 0) 1 m))

pub ruleset unpacking = (ranges_none, ranges_display, ranges_both, rules)

pub member_parts : (row : List ℕ) {r : Ranges} → r ≡ unpack_ranges row →
    ◌≡◌ {A = Member}
    (record {
      kind = get_or row 0 0;
      class = get_or row 1 0;
      raw_name = text (get_or row 2 0) (get_or row 3 0);
      descriptor = text (get_or row 4 0) (get_or row 5 0);
      name = text (get_or row 6 0) (get_or row 7 0);
      owner = text (get_or row 8 0) (get_or row 9 0);
      ranges = r;
    })
    (unpack_member row)
member_parts row e =
    ap
    (λ x. record {
      kind = get_or row 0 0;
      class = get_or row 1 0;
      raw_name = text (get_or row 2 0) (get_or row 3 0);
      descriptor = text (get_or row 4 0) (get_or row 5 0);
      name = text (get_or row 6 0) (get_or row 7 0);
      owner = text (get_or row 8 0) (get_or row 9 0);
      ranges = x;
    })
    e

pub ruleset member_unpacking = (member_parts, rules)

-- what is packed is unpacked again
pub class_again : (c : Class) → unpack_class (pack_class c) ≡ c
class_again c = refl

ranges_again : (m : Member) (r : Ranges) → unpack_ranges (head_numbers m ++ range_numbers r) ≡ r
ranges_again m None = refl
ranges_again m (Display a e) = refl
ranges_again m (Both p q a e) = refl

-- a member with other ranges
abbrev with_ranges : Member → Ranges → Member
with_ranges m r =
    record { kind = m.kind; class = m.class; raw_name = m.raw_name; descriptor = m.descriptor; name = m.name; owner = m.owner; ranges = r }

pub member_again : (m : Member) → unpack_member (pack_member m) ≡ m
member_again m = ap (with_ranges m) (ranges_again m m.ranges)
