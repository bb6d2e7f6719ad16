-- What becomes of a token, by what is noted of its node and of its raw name.
use Rattle.std.specs.Prelude.{List, [], ◌++◌, ℕ, zero, suc, ◌+◌, ◌*◌, ◌≤◌, ◌<◌, eqb, length, get_or, Option, Some, None}
use Rattle.ground.specs.Choice.{pick}
use Rattle.table_rows.specs.declared.rows.Text.{Text}
use Rattle.table_rows.specs.Rows.{text, unpack_class, unpack_member}
use Rattle.tables.specs.Back.{text_in}
use Rattle.name_lines.specs.LineNames.{raw_line}
use Rattle.tree_rule.specs.declared.TreeCounts.{TreeCounts}
use Rattle.tree_rule.specs.declared.Token.{Token}
use Rattle.tree_rule.specs.declared.Token.TheVariants.{Other, MemberName, Descriptor, SourceLine}
use Rattle.tree_rule.specs.Words.{word_at, word_bytes}
use Rattle.tree_rule.specs.Files.{names_start, token_at, text_at, three_words}
use Rattle.apply_rule.specs.Changes.{Change, stays, named, lined}
use Rattle.apply_pieces.specs.Inner.Known.{raw_of, all_shown}
use Rattle.apply_members.specs.Inner.Notes.{line_by}
use Rattle.apply_plans.specs.declared.plan.Plan.{Plan}
use Rattle.apply_plans.specs.declared.plan.Plan.TheVariants as plan
use Rattle.name_lines.specs.declared.lines.DisplayLine.{DisplayLine}

abbrev pub text_plan : Text → Plan
text_plan t = plan.Text t.place t.length

abbrev pub member_plan : List (List ℕ) → ℕ → Plan
member_plan rows zero = plan.Stays
member_plan rows (suc row) = text_plan (unpack_member (get_or rows row [])).name

-- by the two numbers of the note about the name
abbrev pub noted_plan : (classes : List (List ℕ)) (pool : List ℕ) (s : List ℕ) (name : ℕ) → ℕ → ℕ → Plan
noted_plan classes pool s name zero row = plan.Stays
noted_plan classes pool s name (suc start) row =
    pick (eqb (length s) (length (raw_of classes pool row))) (text_plan (unpack_class (get_or classes row [])).display) (plan.Shown name)

abbrev pub name_plan : (classes : List (List ℕ)) (pool : List ℕ) (c : TreeCounts) (f out : List ℕ) → ℕ → Plan
name_plan classes pool c f out name =
    noted_plan classes pool (text_at c f name) name (word_at out (names_start c + 8 * name)) (word_at out (names_start c + 8 * name + 4))

abbrev pub line_plan : Option DisplayLine → Plan
line_plan (Some n) = plan.Line n.0
line_plan None = plan.Stays

abbrev pub plan_by : (classes rows : List (List ℕ)) (pool : List ℕ) (c : TreeCounts) (f out : List ℕ) (home context number : ℕ) → Token → Plan
plan_by classes rows pool c f out home context number (Other a b) = plan.Stays
plan_by classes rows pool c f out home context number (MemberName raw display) = member_plan rows number
plan_by classes rows pool c f out home context number (Descriptor raw display) = name_plan classes pool c f out raw
plan_by classes rows pool c f out home context number (SourceLine raw display) = line_plan (line_by classes rows pool home context (raw_line raw))

unfoldable pub plan_at : (classes rows : List (List ℕ)) (pool : List ℕ) (c : TreeCounts) (f out : List ℕ) (home context number : ℕ) → ℕ → Plan
plan_at classes rows pool c f out home context number i = plan_by classes rows pool c f out home context number (token_at c f i)

-- the change that a plan stands for
abbrev pub plan_change : (classes : List (List ℕ)) (pool : List ℕ) (c : TreeCounts) (f : List ℕ) → Plan → Change
plan_change classes pool c f plan.Stays = stays
plan_change classes pool c f (plan.Line n) = lined n
plan_change classes pool c f (plan.Text place size) = named (text_in pool (text place size))
plan_change classes pool c f (plan.Shown name) = named (all_shown classes pool (text_at c f name))

-- how many names are added
abbrev pub added : Plan → ℕ
added plan.Stays = 0
added (plan.Line n) = 0
added (plan.Text place size) = 1
added (plan.Shown name) = 1

-- what a token shows, where `next` is the number of the next name that is added, and `display` what it showed
abbrev pub display_by : Plan → ℕ → ℕ → ℕ
display_by plan.Stays next display = display
display_by (plan.Line n) next display = n
display_by (plan.Text place size) next display = next
display_by (plan.Shown name) next display = next

-- its row, where that of the tree stands at the place `at` of the file `f`
abbrev pub row_by : Plan → ℕ → List ℕ → ℕ → List ℕ
row_by p next f at = three_words (word_at f at) (word_at f (at + 4)) (display_by p next (word_at f (at + 8)))

-- the two numbers of the plan of a name that is added, if one is
abbrev pub entry_by : Plan → List ℕ
entry_by plan.Stays = []
entry_by (plan.Line n) = []
entry_by (plan.Text place size) = word_bytes (place + 1) ++ word_bytes size
entry_by (plan.Shown name) = word_bytes 0 ++ word_bytes name

-- they fit into 32 bits
abbrev pub PlanLow : Plan → Type 0
PlanLow plan.Stays = 0 ≤ 0
PlanLow (plan.Line n) = 0 ≤ 0
PlanLow (plan.Text place size) = (place < 4294967295) × (size < 4294967296)
PlanLow (plan.Shown name) = name < 4294967296

-- so of the texts of tables that are shown
pub record TextsLow (classes rows : List (List ℕ)) : Type 0 where
  pub displays : (i : ℕ) → i < length classes → PlanLow (text_plan (unpack_class (get_or classes i [])).display)
  pub names : (i : ℕ) → i < length rows → PlanLow (text_plan (unpack_member (get_or rows i [])).name)
