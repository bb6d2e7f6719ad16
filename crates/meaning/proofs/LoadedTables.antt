-- The tables that an accepted load leaves, read back: the classes and the members of its lines. Assumes nothing.
use Rattle.std.specs.Prelude.{Ok}
use mathlib.Core.Path.{◌≡◌, refl, sym, ◌∙◌}
use mathlib.Core.List.{List}
use Prim.Native.Nat.{ℕ}
use Rattle.table_rows.specs.Tables.{Tables, tables}
use Rattle.load_rule.specs.declared.Fates.{Fates}
use Rattle.load_rule.specs.Classes.{classes_of}
use Rattle.load_rule.specs.Theorems.{used_of}
use Rattle.load_rule.specs.Loading.{lent_of, classes_left, members_left, pool_left, entries_of}
use Rattle.load.specs.Loads.{Loads}
use Rattle.name_rule.specs.Mappings.{mapping, mapping_of}
use Rattle.name_rule.proofs.Loaded.{mapping_loaded}
use Rattle.load_rule.specs.Fates.{loaded_with}

pub tables_back : {s : List ℕ} {ls : List (List ℕ)} {before t : Tables} {f : Fates} {names : ℕ} → Loads (Ok (loaded_with f names)) s ls before t →
    mapping_of t (used_of f names) ≡ mapping (classes_of ls) (entries_of ls)
tables_back {s} {ls} {before} {t} {f} {names} l =
    let left : mapping_of t (used_of f names) ≡ mapping_of
    (tables (classes_left s ls (lent_of before)) (members_left s ls (lent_of before)) (pool_left s ls (lent_of before))) (used_of f names) =
    rw (l.classes, l.members, l.pool) refl in
    left ∙ mapping_loaded s ls (lent_of before) (sym l.answer)
