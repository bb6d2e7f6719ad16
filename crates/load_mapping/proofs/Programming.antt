-- The line of the loading program. Assumes nothing.
use Rattle.std.specs.Prelude.{Result, Err}
use mathlib.Core.Path.{◌≡◌, sym, ◌∙◌, ap}
use mathlib.Core.List.{List}
use Prim.Native.Nat.{ℕ, ◌≤◌, ◌<◌}
use lib.ListN.{length}
use borrow.Author.Tests.{lt-ltb, le-ltb}
use Rattle.table_pool.specs.Inner.Wrote.{Written}
use Rattle.load_rule.specs.Loading.{answer_of, lines_parse, lent}
use Rattle.load_report.specs.Report.{report_of}
use Rattle.load_mapping.specs.Program.{program_answer}
use Rattle.load_rule.specs.declared.Loaded.{Loaded}
use Rattle.load_rule.specs.declared.LoadError.{LoadError}
use Rattle.load_rule.specs.declared.LoadError.TheVariants.{TooLong}

module _ (s : List ℕ) {r : ℕ} {out out₁ : List ℕ} where
  same_line : {a b : Result Loaded LoadError} → a ≡ b → Written r out 0 (report_of a) out₁ → Written r out 0 (report_of b) out₁
  same_line e w = rw (← e) w

  pub program_long : 65536 < length s → Written r out 0 (report_of (Err TooLong)) out₁ → Written r out 0 (report_of (program_answer s)) out₁
  program_long h w = let is : program_answer s ≡ (Err TooLong) = rw (lt-ltb 65536 (length s) h) in same_line (sym is) w

  pub program_loads : length s ≤ 65536 → {load : Result Loaded LoadError} {nc nm np : ℕ} → load ≡ answer_of s (lines_parse s) (lent nc nm np) →
      nc ≡ 1024 → nm ≡ 1024 → np ≡ 65536 → Written r out 0 (report_of load) out₁ → Written r out 0 (report_of (program_answer s)) out₁
  program_loads h {load} {nc} {nm} {np} k a b d w =
      let is : load ≡ answer_of s (lines_parse s) (lent 1024 1024 65536) =
      k ∙ ap (λ n. answer_of s (lines_parse s) (lent n nm np)) a ∙ ap (λ n. answer_of s (lines_parse s) (lent 1024 n np)) b ∙ ap (λ n. answer_of s (lines_parse s) (lent 1024 1024 n)) d in
      let read : program_answer s ≡ answer_of s (lines_parse s) (lent 1024 1024 65536) = rw (le-ltb 65536 (length s) h) in
      same_line (is ∙ sym read) w
