-- What a name stands for.
use Rattle.std.specs.Prelude.{List, ℕ}
use Rattle.table_pool.specs.Inner.Named.{class_piece}
use Rattle.table_index.specs.declared.forms.NameForm.{NameForm}
use Rattle.table_index.specs.declared.forms.NameForm.TheVariants.{Whole, Piece}

abbrev pub spelled : NameForm → List ℕ → List ℕ
spelled Whole s = s
spelled (Piece dots) s = class_piece dots s
