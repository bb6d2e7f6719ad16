-- Document 01 "Fates of lines": "The loading program reads standard input (over 65,536 bytes: refusal 1) as `parse` does, with 1,024 class
-- rows, 1,024 member rows and 65,536 pool bytes."
use Rattle.std.specs.Prelude.{List, ℕ, ltb, length, Result, Err}
use Rattle.ground.specs.Choice.{pick}
use Rattle.load_rule.specs.Loading.{answer_of, lines_parse, lent}
use Rattle.load_rule.specs.declared.Loaded.{Loaded}
use Rattle.load_rule.specs.declared.LoadError.{LoadError}
use Rattle.load_rule.specs.declared.LoadError.TheVariants.{TooLong}

abbrev pub program_answer : List ℕ → Result Loaded LoadError
program_answer s = pick (ltb 65536 (length s)) (Err TooLong) (answer_of s (lines_parse s) (lent 1024 1024 65536))
