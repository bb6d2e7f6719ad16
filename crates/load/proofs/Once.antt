-- The promise of an entry point leaves one outcome. Assumes nothing.
use Rattle.std.specs.Prelude.{Result}
use mathlib.Core.Path.{◌≡◌, sym, ◌∙◌}
use mathlib.Core.List.{List}
use Prim.Native.Nat.{ℕ}
use Rattle.ground.specs.Outcome.{OneOutcome}
use Rattle.table_rows.specs.Tables.{Tables, tables}
use Rattle.load.specs.Loads.{Loads, Outcome, outcome}
use Rattle.load_rule.specs.declared.Loaded.{Loaded}
use Rattle.load_rule.specs.declared.LoadError.{LoadError}

same_outcome : {r q : Result Loaded LoadError} {c d m n : List (List ℕ)} {p o : List ℕ} → r ≡ q → c ≡ d → m ≡ n → p ≡ o →
    outcome r (tables c m p) ≡ outcome q (tables d n o)
same_outcome e f g h = rw (e, f, g, h)

pub loads_once : (s : List ℕ) (ls : List (List ℕ)) (before : Tables) → OneOutcome (λ (o : Outcome). Loads o.answer s ls before o.after)
loads_once s ls before a b k l =
    same_outcome (k.answer ∙ sym l.answer) (k.classes ∙ sym l.classes) (k.members ∙ sym l.members) (k.pool ∙ sym l.pool)
