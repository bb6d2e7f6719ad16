-- Document 01 "Rows and names": which member row answers, where the names and lines of MemberNames come from. `cs` are the classes read
-- back; rows count from 0.
use Rattle.std.specs.Prelude.{Bool, false, List, ℕ, Option}
use Rattle.ground.specs.Choice.{both}
use Rattle.table_rows.specs.Classes.{Pair, shown}
use Rattle.tables.specs.Search.{or_row, last_row_from}
use Rattle.load_rule.specs.Members.{MemberKind, field, method, Entry}
use Rattle.name_lines.specs.declared.lines.RawLine.{RawLine}
use Rattle.name_lines.specs.LineNames.{holds_line}
use Rattle.name_rule.specs.Mappings.{entry_back}
use Rattle.name_rule.specs.MemberNames.{Key, matches, owned_by, field_matches, owner_matches, method_matches}

-- the last row whose member, read back, `p` holds of
abbrev pub last_member : (Entry → Bool) → List (List ℕ) → List ℕ → Option ℕ
last_member p rows pool = last_row_from (λ row. p (entry_back pool row)) 0 rows

-- "the last matching field answers"
abbrev pub field_row : List Pair → Key → List (List ℕ) → List ℕ → Option ℕ
field_row cs k rows pool = last_member (field_matches cs k) rows pool

-- "A method's name comes from the last match whose display owner is the class's display .., else the last match."
abbrev pub method_row : List Pair → Key → List (List ℕ) → List ℕ → Option ℕ
method_row cs k rows pool = or_row (last_member (owner_matches cs k) rows pool) (last_member (method_matches cs k) rows pool)

-- "A line uses the last such owner match whose raw range holds it."
abbrev pub kind_holds : MemberKind → RawLine → Bool
kind_holds field n = false
kind_holds (method o g) n = holds_line g n

abbrev pub line_matches : List Pair → Key → RawLine → Entry → Bool
line_matches cs k n e = both (both (owned_by (shown cs k.owner) e.kind) (kind_holds e.kind n)) (matches cs k e)

abbrev pub line_row : List Pair → Key → RawLine → List (List ℕ) → List ℕ → Option ℕ
line_row cs k n rows pool = last_member (line_matches cs k n) rows pool
