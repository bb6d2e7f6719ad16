-- Document 01 "Rows and names": "A class row is four numbers: raw place, length, display place, length."
use Rattle.std.specs.Prelude.{List, [], ◌∷◌, ◌++◌, ℕ, eqb, get_or, replicate}
use Rattle.ground.specs.Choice.{pick}
use Rattle.table_rows.specs.declared.rows.Text.{Text}
use Rattle.table_rows.specs.declared.rows.Class.{Class}
use Rattle.table_rows.specs.declared.rows.Ranges.{Ranges}
use Rattle.table_rows.specs.declared.rows.Ranges.TheVariants.{None, Display, Both}
use Rattle.table_rows.specs.declared.rows.Member.{Member}

abbrev pub text : ℕ → ℕ → Text
text p n = record { place = p; length = n }

abbrev pub pack_class : Class → List ℕ
pack_class c = c.raw.place ∷ c.raw.length ∷ c.display.place ∷ c.display.length ∷ []

abbrev pub unpack_class : List ℕ → Class
unpack_class row = record { raw = text (get_or row 0 0) (get_or row 1 0); display = text (get_or row 2 0) (get_or row 3 0) }

-- "A member row is fifteen numbers ..: kind (0 field, 1 method), class row, place and length of raw name, raw descriptor, display name,
-- display owner (0, 0 for a field), range flag (0 none, 1 display only, 2 both), raw range, display range; absent ranges are zeros."
abbrev pub range_numbers : Ranges → List ℕ
range_numbers None = 0 ∷ 0 ∷ 0 ∷ 0 ∷ 0 ∷ []
range_numbers (Display a e) = 1 ∷ 0 ∷ 0 ∷ a ∷ e ∷ []
range_numbers (Both p q a e) = 2 ∷ p ∷ q ∷ a ∷ e ∷ []

abbrev pub head_numbers : Member → List ℕ
head_numbers m =
    m.kind ∷ m.class ∷ m.raw_name.place ∷ m.raw_name.length ∷ m.descriptor.place ∷ m.descriptor.length ∷
    m.name.place ∷ m.name.length ∷ m.owner.place ∷ m.owner.length ∷ []

abbrev pub pack_member : Member → List ℕ
pack_member m = head_numbers m ++ range_numbers m.ranges

-- The other way: a row's parts.
abbrev pub unpack_ranges : List ℕ → Ranges
unpack_ranges row =
    pick (eqb (get_or row 10 0) 0) None
    (pick (eqb (get_or row 10 0) 1) (Display (get_or row 13 0) (get_or row 14 0))
    (Both (get_or row 11 0) (get_or row 12 0) (get_or row 13 0) (get_or row 14 0)))

abbrev pub unpack_member : List ℕ → Member
unpack_member row =
    record {
      kind = get_or row 0 0;
      class = get_or row 1 0;
      raw_name = text (get_or row 2 0) (get_or row 3 0);
      descriptor = text (get_or row 4 0) (get_or row 5 0);
      name = text (get_or row 6 0) (get_or row 7 0);
      owner = text (get_or row 8 0) (get_or row 9 0);
      ranges = unpack_ranges row;
    }

-- the range flag as it stands, which may be out of range in a row that was never checked
abbrev pub flag_of : List ℕ → ℕ
flag_of row = get_or row 10 0

-- "A refused load zeroes all lent rows and pool bytes": a row of zeros
abbrev pub zero_class : List ℕ
zero_class = replicate 4 0

abbrev pub zero_member : List ℕ
zero_member = replicate 15 0

-- "Class rows number at most 4,096, member rows 32,768, pool bytes 4,194,304; a longer lent slice counts as that."
abbrev pub most_classes : ℕ
most_classes = 4096

abbrev pub most_members : ℕ
most_members = 32768

abbrev pub most_pool : ℕ
most_pool = 4194304
