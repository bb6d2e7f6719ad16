-- Answers as numbers.
use Rattle.std.specs.Prelude.{List, [], ◌∷◌, ◌++◌, ℕ, replicate, Option, Some, None, Result, Ok, Err}
use Rattle.load_rule.specs.Loading.{refusal, load_numbers}
use Rattle.table_rows.specs.declared.rows.Text.{Text}
use Rattle.tables.specs.declared.check.Malformed.{Malformed}
use Rattle.load_rule.specs.declared.Loaded.{Loaded}
use Rattle.load_rule.specs.declared.LoadError.{LoadError}

-- "number, place, length, lines, blank, applied, idle, class, field, method, short, names, then zeros"
abbrev pub answer_numbers : Result Loaded LoadError → List ℕ
answer_numbers r = load_numbers r ++ replicate 12 0

abbrev pub refusal_numbers : ℕ → ℕ → ℕ → List ℕ
refusal_numbers number place len = refusal number place len ++ replicate 12 0

-- "1 out of the pool or 0 the caller's own, place, length"
abbrev pub mapped_numbers : Result (Option Text) Malformed → List ℕ
mapped_numbers (Ok (Some t)) = 1 ∷ t.place ∷ t.length ∷ []
mapped_numbers (Ok None) = 0 ∷ 0 ∷ 0 ∷ []
mapped_numbers (Err _) = 0 ∷ 0 ∷ 0 ∷ []
