-- What a member that matches has to be, so that it answers.
use Rattle.std.specs.Prelude.{Bool, true, false, List}
use Rattle.ground.specs.Choice.{both}
use Rattle.ground.specs.Look.{Look}
use Rattle.load_rule.specs.Members.{MemberKind, Entry}
use Rattle.table_rows.specs.Classes.{Pair}
use Rattle.name_rule.specs.MemberNames.{Key, matches, is_field_kind, is_method_kind, owned_by}
use Rattle.name_rule.specs.MemberRows.{kind_holds}
use Rattle.name_members.specs.declared.rows.Asked.{Asked}
use Rattle.name_members.specs.declared.rows.Asked.TheVariants as asked
use Rattle.name_members.specs.declared.rows.Sought.{Sought}
use Rattle.name_members.specs.declared.rows.Sought.TheVariants.{Field, Method, Own, OwnLine}

abbrev pub is_field_sought : Sought → Bool
is_field_sought Field = true
is_field_sought Method = false
is_field_sought Own = false
is_field_sought (OwnLine n) = false

abbrev pub sought_by : Sought → Look → MemberKind → Bool
sought_by Field display k = is_field_kind k
sought_by Method display k = is_method_kind k
sought_by Own display k = owned_by display k
sought_by (OwnLine n) display k = both (owned_by display k) (kind_holds k n)

-- in a class with the display descriptor `display`
abbrev pub answers_by : Sought → Look → List Pair → Key → Entry → Bool
answers_by sought display cs k e = both (sought_by sought display e.kind) (matches cs k e)

-- what answers first, and whether any other method answers else
abbrev pub first_sought : Asked → Sought
first_sought asked.Field = Field
first_sought asked.Method = Own
first_sought (asked.Line n) = OwnLine n

abbrev pub is_method_asked : Asked → Bool
is_method_asked asked.Field = false
is_method_asked asked.Method = true
is_method_asked (asked.Line n) = false
