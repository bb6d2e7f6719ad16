-- The names of a class line.
use Rattle.std.specs.Prelude.{◌≡◌, Bool, true, List, [], ◌∷◌, ℕ, eqb, length, Option, Some, None}
use Rattle.ground.specs.Choice.{pick}
use Rattle.text_places.specs.Spans.{part_of, Lies}
use Rattle.line.specs.Kinds.{line_of}
use Rattle.table_pool.specs.Names.{class_descriptor}
use Rattle.table_rows.specs.Classes.{Pair, pair}
use Rattle.load_rule.specs.Classes.{class_in}
use Rattle.load_classes.specs.declared.names.ClassNames.{ClassNames}

-- the class of a line `l` by the places of its names
abbrev pub class_named : List ℕ → ClassNames → Pair
class_named l ns = pair (class_descriptor (part_of l ns.raw)) (class_descriptor (part_of l ns.display))

-- the names lie in the line, and are those of its class
pub record NamedAt (l : List ℕ) (ns : ClassNames) : Type 0 where
  pub display_lies : Lies ns.display (length l)
  pub raw_lies : Lies ns.raw (length l)
  pub is : class_in l (line_of l) ≡ class_named l ns ∷ []

abbrev pub NamedBy : Option ClassNames → List ℕ → Type 0
NamedBy (Some ns) l = NamedAt l ns
NamedBy None l = class_in l (line_of l) ≡ []

-- a byte with which no class line starts, nor a text whose first line is one
abbrev pub opens_no_class : ℕ → Bool
opens_no_class b = pick (eqb b 0x20) true (pick (eqb b 0x23) true (pick (eqb b 0x0A) true (eqb b 0x0D)))
