-- What an answer says: of well-formed tables, the text that stands at the place found is what the classes, read back, are known by.
-- Assumes nothing.
use Rattle.std.specs.Prelude.{Option, Some, None, Ok}
use mathlib.Core.Path.{◌≡◌, refl, sym, ◌∙◌, ap}
use mathlib.Core.Bool.{true}
use mathlib.Core.List.{List}
use mathlib.Core.Logic.{◌⊎◌}
use Prim.Native.Nat.{ℕ}
use Rattle.ground.specs.Look.{look_or}
use Rattle.table_rows.specs.Classes.{shown, back}
use Rattle.table_rows.specs.Tables.{Tables, tables}
use Rattle.tables.specs.declared.check.Used.{Used}
use Rattle.tables.specs.Check.{well_formed}
use Rattle.tables.specs.Search.{last_raw, last_display}
use Rattle.tables.proofs.Searching.{raw_found, raw_unknown, display_found, display_unknown}
use Rattle.load_rule.specs.declared.Fates.{Fates}
use Rattle.load_rule.specs.Classes.{classes_of}
use Rattle.load_rule.specs.Loading.{Lent, lines_str, lines_parse, answer_of, classes_left, members_left, pool_left}
use Rattle.load_rule.specs.Theorems.{used_of}
use Rattle.load_rule.proofs.Formed.{never_malformed}
use Rattle.name_rule.specs.Mappings.{mapping_of}
use Rattle.name_rule.proofs.Loaded.{mapping_loaded}
use Rattle.name_classes.specs.ClassNames.{used_rows, display_at, raw_at, display_of_class, raw_of_class, mapped_class, text_answered}
use Rattle.load_rule.specs.Fates.{loaded_with}
use Rattle.load_rule.specs.declared.Loaded.{Loaded}

module _ (t : Tables) (used : Used) (name : List ℕ) (w : well_formed t.classes t.members t.pool used ≡ true) where
  pub display_told : text_answered t.pool (display_of_class t used name) ≡ shown (mapping_of t used).classes name
  display_told = rw w (go (last_raw (used_rows t used) t.pool name) refl)
    where
      go : (o : Option ℕ) → last_raw (used_rows t used) t.pool name ≡ o → text_answered t.pool (Ok (display_at (used_rows t used) o)) ≡ shown (mapping_of t used).classes name
      go (Some i) e = sym (raw_found (used_rows t used) t.pool name e).1
      go None e = sym (raw_unknown (used_rows t used) t.pool name e)

  pub raw_told : text_answered t.pool (raw_of_class t used name) ≡ back (mapping_of t used).classes name
  raw_told = rw w (go (last_display (used_rows t used) t.pool name) refl)
    where
      go : (o : Option ℕ) → last_display (used_rows t used) t.pool name ≡ o → text_answered t.pool (Ok (raw_at (used_rows t used) o)) ≡ back (mapping_of t used).classes name
      go (Some i) e = sym (display_found (used_rows t used) t.pool name e).1
      go None e = sym (display_unknown (used_rows t used) t.pool name e)

  -- what is mapped is what is found, else the name itself
  pub mapped_told : mapped_class t used name ≡ look_or name (text_answered t.pool (display_of_class t used name))
  mapped_told = rw w refl ∙ ap (look_or name) (sym display_told)

-- After an accepted load: from the text to the name.
module _ (s : List ℕ) (ls : List (List ℕ)) (n : Lent) {x : Loaded} (w : (ls ≡ lines_str s) ⊎ (ls ≡ lines_parse s)) (e : answer_of s ls n ≡ Ok x) (name : List ℕ) where
  abbrev left : Tables
  left = tables (classes_left s ls n) (members_left s ls n) (pool_left s ls n)

  pub display_loaded : text_answered left.pool (display_of_class left (used_of x.fates x.names) name) ≡ shown (classes_of ls) name
  display_loaded = display_told left (used_of x.fates x.names) name (never_malformed s ls n w e) ∙ ap (λ m. shown m.classes name) (mapping_loaded s ls n e)

  pub raw_loaded : text_answered left.pool (raw_of_class left (used_of x.fates x.names) name) ≡ back (classes_of ls) name
  raw_loaded = raw_told left (used_of x.fates x.names) name (never_malformed s ls n w e) ∙ ap (λ m. back m.classes name) (mapping_loaded s ls n e)

  pub mapped_loaded : mapped_class left (used_of x.fates x.names) name ≡ look_or name (shown (classes_of ls) name)
  mapped_loaded = mapped_told left (used_of x.fates x.names) name (never_malformed s ls n w e) ∙ ap (look_or name) display_loaded
