-- Document 01 "Fates of lines": the line that the loading program prints.
use Rattle.std.specs.Prelude.{List, [], ◌∷◌, ◌++◌, ℕ, Result, Ok, Err}
use Prim.Native.String.{String}
use Rattle.ground.specs.Ascii.{ascii}
use Rattle.load_rule.specs.declared.Fates.{Fates}
use Rattle.load_report.specs.Digits.{decimal}
use Rattle.load_rule.specs.declared.Loaded.{Loaded}
use Rattle.load_rule.specs.declared.LoadError.{LoadError}
use Rattle.load_rule.specs.declared.LoadError.TheVariants.{Faulty, NotUtf8, TooLong, NoClasses, FewClassRows, FewMemberRows, ShortPool}

-- LF, which ends the line
abbrev pub line_end : List ℕ
line_end = 0x0A ∷ []

-- a label and its number
abbrev pub labelled : String → ℕ → List ℕ
labelled label n = ascii label ++ decimal n

-- "Refused: `refused 4 line 1`; .. with no line, line 0."
abbrev pub refused_line : ℕ → ℕ → List ℕ
refused_line number line = labelled "refused " number ++ (labelled " line " line ++ line_end)

-- all lines, and those that give no row
abbrev pub line_items : Fates → List ℕ
line_items f =
    labelled "loaded lines " f.lines ++ (labelled " blank " f.blank
    ++ (labelled " applied " f.applied ++ labelled " idle " f.idle))

-- those that give one
abbrev pub row_items : Fates → List ℕ
row_items f =
    labelled " class " f.class ++ (labelled " field " f.field
    ++ (labelled " method " f.method ++ labelled " short " f.short))

-- "names is pool bytes used"
abbrev pub report_of : Result Loaded LoadError → List ℕ
report_of (Ok r) = line_items r.fates ++ (row_items r.fates ++ (labelled " names " r.names ++ line_end))
report_of (Err TooLong) = refused_line 1 0
-- "for 2, `refused 2 at 1 length 1`"
report_of (Err (NotUtf8 valid len)) = labelled "refused " 2 ++ (labelled " at " valid ++ (labelled " length " len ++ line_end))
report_of (Err (Faulty r)) = refused_line r.number r.line
report_of (Err NoClasses) = refused_line 8 0
report_of (Err FewClassRows) = refused_line 9 0
report_of (Err FewMemberRows) = refused_line 10 0
report_of (Err ShortPool) = refused_line 11 0
