-- Document 01 "Rows and names": a mapping as its tables say it, classes and members read back from rows and pool.
use Rattle.std.specs.Prelude.{List, map, ℕ, eqb, take}
use Rattle.ground.specs.Choice.{pick}
use Rattle.table_rows.specs.declared.rows.Member.{Member}
use Rattle.table_rows.specs.Classes.{Pair}
use Rattle.table_rows.specs.Rows.{unpack_member}
use Rattle.table_rows.specs.Tables.{Tables}
use Rattle.tables.specs.declared.check.Used.{Used}
use Rattle.tables.specs.Back.{text_in, read_back}
use Rattle.load_rule.specs.Members.{MemberKind, field, method, Entry}

-- "kind (0 field, 1 method)"
abbrev pub kind_back : List ℕ → Member → MemberKind
kind_back pool m = pick (eqb m.kind 0) field (method (text_in pool m.owner) m.ranges)

-- a member, by the texts that its row names
abbrev pub member_back : List ℕ → Member → Entry
member_back pool m =
    record {
      class = m.class;
      raw_name = text_in pool m.raw_name;
      descriptor = text_in pool m.descriptor;
      name = text_in pool m.name;
      kind = kind_back pool m;
    }

-- the member of a row
abbrev pub entry_back : List ℕ → List ℕ → Entry
entry_back pool row = member_back pool (unpack_member row)

abbrev pub entries_back : List (List ℕ) → List ℕ → List Entry
entries_back rows pool = map (entry_back pool) rows

-- a mapping: its classes and its members, in row order
pub record Mapping : Type 0 where
  pub classes : List Pair
  pub members : List Entry

abbrev pub mapping : List Pair → List Entry → Mapping
mapping cs es = record { classes = cs; members = es }

-- the mapping of tables: only the rows that are used are read
abbrev pub mapping_of : Tables → Used → Mapping
mapping_of t used =
    mapping (read_back (take used.classes t.classes) t.pool) (entries_back (take used.members t.members) t.pool)
