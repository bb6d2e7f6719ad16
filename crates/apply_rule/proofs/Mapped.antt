-- Tables that are not malformed, of 32-bit numbers, give a mapping that shows UTF-8 and lines that fit. Assumes nothing.
use mathlib.Core.Path.{◌≡◌, ap}
use mathlib.Core.Bool.{Bool, true, false}
use mathlib.Core.List.{List, [], ◌∷◌, map}
use Prim.Native.Nat.{ℕ, zero, suc, ◌<◌}
use native.Mathlib.Omega.{arith}
use lib.Dec.{eqb}
use lib.ListN.{get_or, take}
use Rattle.ground.specs.Choice.{pick}
use Rattle.text_utf8.specs.Utf8.{is_valid, is_utf8}
use Rattle.table_rows.specs.declared.rows.Ranges.TheVariants.{None, Display, Both}
use Rattle.table_rows.specs.Rows.{unpack_ranges, unpack_member}
use Rattle.table_rows.specs.Tables.{Tables}
use Rattle.tables.specs.declared.check.Used.{Used}
use Rattle.tables.specs.Back.{text_in, pair_of}
use Rattle.tables.specs.Check.{well_formed}
use Rattle.tables.proofs.Checking.{formed}
use Rattle.load_rule.specs.Members.{field, method}
use Rattle.name_rule.specs.Mappings.{kind_back, entry_back, mapping_of}
use Rattle.tree_rule.specs.Theorems.{Word, Every, every_none, every_one}
use Rattle.apply_rule.specs.Theorems.{RangesFit, KindFits, ShowsWell, RowsFit}

-- rows that are used, by their numbers
every_used : {A : Type 0} (P : A → Type 0) (f : List ℕ → A) (n : ℕ) (rows : List (List ℕ)) →
    ((i : ℕ) → i < n → P (f (get_or rows i []))) → Every P (map f (take n rows))
every_used P f zero rows h = every_none
every_used P f (suc n) [] h = every_none
every_used P f (suc n) (row ∷ rows) h =
    every_one (h 0 (omega arith)) (every_used P f n rows (λ i l. h (suc i) (omega arith)))

module _ (row : List ℕ) (fits : (k : ℕ) → Word (get_or row k 0)) where
  ranges_fit : RangesFit (unpack_ranges row)
  ranges_fit = go (eqb (get_or row 10 0) 0) (eqb (get_or row 10 0) 1)
    where
      go : (a b : Bool) →
          RangesFit (pick a None (pick b (Display (get_or row 13 0) (get_or row 14 0))
          (Both (get_or row 11 0) (get_or row 12 0) (get_or row 13 0) (get_or row 14 0))))
      go true b = omega arith
      go false true = (fits 13, fits 14)
      go false false = (fits 13, fits 14)

  kind_fits : (pool : List ℕ) → KindFits (kind_back pool (unpack_member row))
  kind_fits pool = go (eqb (unpack_member row).kind 0)
    where
      go : (b : Bool) → KindFits (pick b field (method (text_in pool (unpack_member row).owner) (unpack_member row).ranges))
      go true = omega arith
      go false = ranges_fit

pub mapping_shows_well : (t : Tables) (used : Used) → well_formed t.classes t.members t.pool used ≡ true →
    RowsFit t.members → ShowsWell (mapping_of t used)
mapping_shows_well t used e fits =
    let k = formed t.classes t.members t.pool used e in
    record {
      classes = every_used (λ c. is_utf8 c.display ≡ true) (pair_of t.pool) used.classes t.classes
          (λ i h. ap is_valid (k.class_rows_lem i h).display.valid);
      names = every_used (λ x. is_utf8 x.name ≡ true) (entry_back t.pool) used.members t.members
          (λ i h. ap is_valid (k.member_rows i h).name.valid);
      lines = every_used (λ x. KindFits x.kind) (entry_back t.pool) used.members t.members
          (λ i h. kind_fits (get_or t.members i []) (fits i) t.pool);
    }
