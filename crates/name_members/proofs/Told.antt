-- What an answer says: of well-formed tables, the name and the line that the mapping, read back, has; and after an accepted load those of
-- the text. Assumes nothing.
use Rattle.std.specs.Prelude.{Option, Some, None, Ok}
use mathlib.Core.Path.{◌≡◌, refl, sym, ◌∙◌, ap}
use mathlib.Core.Bool.{true}
use mathlib.Core.List.{List, []}
use mathlib.Core.Logic.{◌⊎◌}
use Prim.Native.Nat.{ℕ, ◌<◌}
use native.Mathlib.Omega.{arith}
use lib.ListN.{length, get_or, take, length-take}
use lib.Seq.{get_or-take}
use Rattle.ground.specs.Look.{Look, known}
use Rattle.table_rows.specs.Classes.{Pair}
use Rattle.table_rows.specs.Rows.{unpack_member}
use Rattle.table_rows.specs.Tables.{Tables, tables}
use Rattle.tables.specs.declared.check.Used.{Used}
use Rattle.tables.specs.Back.{text_in, read_back}
use Rattle.tables.specs.Check.{well_formed}
use Rattle.load_rule.specs.declared.Fates.{Fates}
use Rattle.load_rule.specs.Classes.{classes_of}
use Rattle.load_rule.specs.Loading.{Lent, lines_str, lines_parse, entries_of, answer_of, classes_left, members_left, pool_left}
use Rattle.load_rule.specs.Theorems.{used_of}
use Rattle.load_rule.proofs.Formed.{never_malformed}
use Rattle.name_lines.specs.declared.lines.RawLine.{RawLine}
use Rattle.name_lines.specs.LineNames.{line_name}
use Rattle.name_rule.specs.Mappings.{mapping, mapping_of}
use Rattle.name_rule.specs.MemberNames.{Key, field_name, method_name, line_of_method}
use Rattle.name_rule.specs.MemberRows.{field_row, method_row, line_row}
use Rattle.name_rule.proofs.Loaded.{mapping_loaded}
use Rattle.name_rule.proofs.Rows.{field_found, field_unknown, method_found, method_unknown, line_found, line_unknown}
use Rattle.name_members.specs.MemberAnswers.{name_answer, line_shown_by, line_of_answer, field_answer, method_answer, line_answer, name_told, line_told}
use Rattle.name_lines.specs.declared.lines.DisplayLine.{DisplayLine}
use Rattle.load_rule.specs.Fates.{loaded_with}
use Rattle.load_rule.specs.declared.Loaded.{Loaded}

-- a row of those that are used
used_row : (n : ℕ) (rows : List (List ℕ)) {i : ℕ} → i < length (take n rows) → get_or rows i [] ≡ get_or (take n rows) i []
used_row n rows {i} h = sym (get_or-take n rows i [] (omega (arith, length-take n rows)))

line_told_by : (i : ℕ) (l : Option DisplayLine) → line_told (Ok (line_shown_by i l)) ≡ l
line_told_by i (Some n) = refl
line_told_by i None = refl

module _ (t : Tables) (used : Used) (k : Key) (w : well_formed t.classes t.members t.pool used ≡ true) where
  abbrev cs : List Pair
  cs = read_back (take used.classes t.classes) t.pool

  abbrev rows : List (List ℕ)
  rows = take used.members t.members

  named : (l : Look) (o : Option ℕ) →
      ((i : ℕ) → o ≡ Some i → (i < length rows) × (l ≡ known (text_in t.pool (unpack_member (get_or rows i [])).name))) →
      (o ≡ None → l ≡ name_told t.pool (name_answer t.members (Ok None))) →
      name_told t.pool (name_answer t.members (Ok o)) ≡ l
  named l (Some i) found none =
      let f = found i refl in
      ap (λ r. known (text_in t.pool (unpack_member r).name)) (used_row used.members t.members f.0) ∙ sym f.1
  named l None found none = sym (none refl)

  pub field_told : name_told t.pool (field_answer t used k) ≡ field_name (mapping_of t used) k
  field_told = rw w (named (field_name (mapping_of t used) k) (field_row cs k rows t.pool) (λ i e. field_found cs k rows t.pool e) (field_unknown cs k rows t.pool))

  pub method_told : name_told t.pool (method_answer t used k) ≡ method_name (mapping_of t used) k
  method_told =
      rw w (named (method_name (mapping_of t used) k) (method_row cs k rows t.pool) (λ i e. method_found cs k rows t.pool e) (method_unknown cs k rows t.pool))

  pub line_told_lem : (n : RawLine) → line_told (line_answer t used k n) ≡ line_of_method (mapping_of t used) k n
  line_told_lem n = rw w (go (line_row cs k n rows t.pool) refl)
    where
      go : (o : Option ℕ) → line_row cs k n rows t.pool ≡ o → line_told (line_of_answer t.members n (Ok o)) ≡ line_of_method (mapping_of t used) k n
      go (Some i) e =
          let f = line_found cs k rows t.pool n e in
          line_told_by i (line_name (unpack_member (get_or t.members i [])).ranges n)
          ∙ ap (λ r. line_name (unpack_member r).ranges n) (used_row used.members t.members f.0) ∙ sym f.1
      go None e = sym (line_unknown cs k rows t.pool n e)

-- After an accepted load: from the text to the name and the line.
module _ (s : List ℕ) (ls : List (List ℕ)) (n : Lent) {x : Loaded} (w : (ls ≡ lines_str s) ⊎ (ls ≡ lines_parse s)) (e : answer_of s ls n ≡ Ok x) (k : Key) where
  abbrev left : Tables
  left = tables (classes_left s ls n) (members_left s ls n) (pool_left s ls n)

  pub field_loaded : name_told left.pool (field_answer left (used_of x.fates x.names) k) ≡ field_name (mapping (classes_of ls) (entries_of ls)) k
  field_loaded = field_told left (used_of x.fates x.names) k (never_malformed s ls n w e) ∙ ap (λ m. field_name m k) (mapping_loaded s ls n e)

  pub method_loaded : name_told left.pool (method_answer left (used_of x.fates x.names) k) ≡ method_name (mapping (classes_of ls) (entries_of ls)) k
  method_loaded = method_told left (used_of x.fates x.names) k (never_malformed s ls n w e) ∙ ap (λ m. method_name m k) (mapping_loaded s ls n e)

  pub line_loaded : (l : RawLine) → line_told (line_answer left (used_of x.fates x.names) k l) ≡ line_of_method (mapping (classes_of ls) (entries_of ls)) k l
  line_loaded l = line_told_lem left (used_of x.fates x.names) k (never_malformed s ls n w e) l ∙ ap (λ m. line_of_method m k l) (mapping_loaded s ls n e)
