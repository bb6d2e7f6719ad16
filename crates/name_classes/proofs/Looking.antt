-- Looking up a class, step by step. Assumes nothing.
use Rattle.std.specs.Prelude.{Option, Some, None, Result, Ok, Err}
use mathlib.Core.Path.{◌≡◌, sym, ◌∙◌, ap}
use mathlib.Core.Bool.{Bool, true, false, not}
use mathlib.Core.List.{List, []}
use Prim.Native.Nat.{ℕ, ◌<◌}
use lib.ListN.{length, get_or, take}
use borrow.Author.Tests.{not-true}
use borrow.Author.Rules.{rules}
use Rattle.ground.proofs.Parts.{prefix_whole}
use Rattle.table_rows.specs.declared.rows.Class.{Class}
use Rattle.table_rows.specs.Rows.{unpack_class}
use Rattle.table_rows.specs.Tables.{tables}
use Rattle.tables.specs.declared.check.Malformed.{Malformed}
use Rattle.tables.specs.declared.check.Used.{Used}
use Rattle.tables.specs.Back.{text_in}
use Rattle.tables.specs.Check.{well_formed, malformed}
use Rattle.tables.specs.Search.{last_raw, last_display}
use Rattle.tables.proofs.Checking.{tested_formed, class_rows_lent}
use Rattle.tables.proofs.Searching.{raw_found, raw_unknown, display_found}
use Rattle.name_classes.specs.ClassNames.{display_of_class, raw_of_class, mapped_class}

module _ (c m : List (List ℕ)) (p : List ℕ) (used : Used) {b : Bool} (w : b ≡ well_formed c m p used) where
  module _ (name : List ℕ) (n : not b ≡ true) where
    refused : well_formed c m p used ≡ false
    refused = sym w ∙ not-true b n

    pub display_malformed : Err malformed ≡ display_of_class (tables c m p) used name
    display_malformed = sym (rw refused)

    pub raw_malformed : Err malformed ≡ raw_of_class (tables c m p) used name
    raw_malformed = sym (rw refused)

    pub mapped_malformed : name ≡ mapped_class (tables c m p) used name
    mapped_malformed = sym (rw refused)

  module _ (n : not b ≡ false) where
    abbrev rows : List (List ℕ)
    rows = take used.classes c

    module _ (name : List ℕ) {o : Option ℕ} (f : o ≡ last_raw rows p name) where
      pub display_unknown : o ≡ None → Ok None ≡ display_of_class (tables c m p) used name
      display_unknown e = sym (rw (tested_formed c m p used w n, ← f, e))

      pub mapped_unknown : o ≡ None → name ≡ mapped_class (tables c m p) used name
      mapped_unknown e = sym (rw (tested_formed c m p used w n, raw_unknown rows p name (sym f ∙ e)))

      module _ {i : ℕ} (e : o ≡ Some i) where
        pub raw_inside : i < length rows
        raw_inside = (raw_found rows p name (sym f ∙ e)).0

        module _ {d : Class} (g : d ≡ unpack_class (get_or rows i [])) where
          pub display_row : Ok (Some d.display) ≡ display_of_class (tables c m p) used name
          display_row = ap (λ x. Ok (Some x.display)) g ∙ sym (rw (tested_formed c m p used w n, ← f, e))

          pub mapped_row : {r : List ℕ} → r ≡ text_in p d.display → r ≡ mapped_class (tables c m p) used name
          mapped_row h = h ∙ ap (λ x. text_in p x.display) g ∙ sym (rw (tested_formed c m p used w n, (raw_found rows p name (sym f ∙ e)).1))

    module _ (name : List ℕ) {o : Option ℕ} (f : o ≡ last_display rows p name) where
      pub turned_unknown : o ≡ None → Ok None ≡ raw_of_class (tables c m p) used name
      turned_unknown e = sym (rw (tested_formed c m p used w n, ← f, e))

      module _ {i : ℕ} (e : o ≡ Some i) where
        pub display_inside : i < length rows
        display_inside = (display_found rows p name (sym f ∙ e)).0

        pub turned_row : {d : Class} → d ≡ unpack_class (get_or rows i []) → Ok (Some d.raw) ≡ raw_of_class (tables c m p) used name
        turned_row g = ap (λ x. Ok (Some x.raw)) g ∙ sym (rw (tested_formed c m p used w n, ← f, e))

pub ruleset displaying = (prefix_whole, display_malformed, class_rows_lent, display_unknown, raw_inside, display_row, rules)

pub ruleset turning = (prefix_whole, raw_malformed, class_rows_lent, turned_unknown, display_inside, turned_row, rules)

pub ruleset mapping = (prefix_whole, mapped_malformed, class_rows_lent, mapped_unknown, raw_inside, mapped_row, rules)
