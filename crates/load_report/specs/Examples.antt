-- Worked examples of printed lines: those of document 01 "Fates of lines", and numbers.
use Rattle.std.specs.Prelude.{◌≡◌, refl, ◌++◌, Ok, Err}
use Rattle.ground.specs.Ascii.{ascii}
use Rattle.load_rule.specs.declared.Fates.{Fates}
use Rattle.load_report.specs.Digits.{decimal_from, decimal}
use Rattle.load_report.specs.Report.{line_end, report_of}
use Rattle.load_rule.specs.declared.LoadError.TheVariants.{Faulty, NotUtf8, TooLong, NoClasses}
use Rattle.load_rule.specs.Fates.{fault_at, loaded_with}

-- what became of the lines of document 01's example
abbrev five : Fates
five = record { lines = 5; blank = 1; applied = 1; idle = 0; class = 1; field = 1; method = 1; short = 0 }

examples :
    (report_of (Ok (loaded_with five 32)) ≡ ascii "loaded lines 5 blank 1 applied 1 idle 0 class 1 field 1 method 1 short 0 names 32" ++ line_end)
    × (report_of (Err (Faulty (fault_at 4 1))) ≡ ascii "refused 4 line 1" ++ line_end)
    × (report_of (Err (NotUtf8 1 1)) ≡ ascii "refused 2 at 1 length 1" ++ line_end)
    × (report_of (Err NoClasses) ≡ ascii "refused 8 line 0" ++ line_end)
    × (report_of (Err TooLong) ≡ ascii "refused 1 line 0" ++ line_end)
    × (decimal 4294967295 ≡ ascii "4294967295")
    × (decimal 1000 ≡ ascii "1000")
    × (decimal 9 ≡ ascii "9")
unfolding ascii decimal_from
examples = (refl, refl, refl, refl, refl, refl, refl, refl)
