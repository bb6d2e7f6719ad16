-- Document 01 "Fates of lines", and the first faulty line.
use Rattle.std.specs.Prelude.{Bool, true, false, List, [], ◌∷◌, ℕ, suc, ◌+◌, eqb, Result, Ok, Err}
use Rattle.ground.specs.Choice.{pick, both, bit}
use Rattle.line.specs.declared.line.Refusal.{Refusal}
use Rattle.line.specs.declared.line.Refusal.TheVariants as refusal
use Rattle.line.specs.declared.line.Line.{Line}
use Rattle.line.specs.declared.line.Line.TheVariants.{Blank, Comment, Class, Field, Method, Refused}
use Rattle.line.specs.Kinds.{refusal_number, line_of}
use Rattle.ground.specs.Look.{is_known}
use Rattle.load_rule.specs.declared.Fate.{Fate}
use Rattle.load_rule.specs.declared.Fate.TheVariants as fate
use Rattle.load_rule.specs.declared.Fates.{Fates}
use Rattle.load_rule.specs.Comments.{signature_at}
use Rattle.load_rule.specs.declared.Fault.{Fault}
use Rattle.load_rule.specs.declared.Loaded.{Loaded}

abbrev pub fault_at : ℕ → ℕ → Fault
fault_at number line = record { number = number; line = line }

abbrev pub loaded_with : Fates → ℕ → Loaded
loaded_with fates names = record { fates = fates; names = names }

-- the fates of a line, told apart by numbers
abbrev pub fate_number : Fate → ℕ
fate_number fate.Blank = 0
fate_number fate.Applied = 1
fate_number fate.Idle = 2
fate_number fate.Class = 3
fate_number fate.Field = 4
fate_number fate.Method = 5
fate_number fate.Short = 6
fate_number fate.Faulty = 7

-- 1 where the fate of a line is `k`
abbrev pub tally : Fate → Fate → ℕ
tally k x = bit (eqb (fate_number x) (fate_number k))

-- "Accepted loads count lines, blank, applied and idle comments, class, field, method", and `short`: what one line of a fate counts
abbrev pub one : Fate → Fates
one x =
    record {
      lines = 1;
      blank = tally fate.Blank x;
      applied = tally fate.Applied x;
      idle = tally fate.Idle x;
      class = tally fate.Class x;
      field = tally fate.Field x;
      method = tally fate.Method x + tally fate.Short x;
      short = tally fate.Short x;
    }

abbrev pub no_fates : Fates
no_fates = record { lines = 0; blank = 0; applied = 0; idle = 0; class = 0; field = 0; method = 0; short = 0 }

abbrev pub plus : Fates → Fates → Fates
plus x y =
    record {
      lines = x.lines + y.lines;
      blank = x.blank + y.blank;
      applied = x.applied + y.applied;
      idle = x.idle + y.idle;
      class = x.class + y.class;
      field = x.field + y.field;
      method = x.method + y.method;
      short = x.short + y.short;
    }

-- a comment is applied where it gives a signature and the current class has a last member
abbrev pub comment_fate : Bool → Fate
comment_fate applies = pick applies fate.Applied fate.Idle

-- "`short` counts method lines whose display range has a second part that does not read."
abbrev pub method_fate : Bool → Fate
method_fate short = pick short fate.Short fate.Method

-- what becomes of one line; `member`: whether the current class has a last member
abbrev pub fate_of : Bool → List ℕ → Line → Fate
fate_of member l Blank = fate.Blank
fate_of member l (Comment brace) = comment_fate (both member (is_known (signature_at l brace)))
fate_of member l (Class display raw) = fate.Class
fate_of member l (Field declared name raw) = fate.Field
fate_of member l (Method m raw) = method_fate m.short
fate_of member l (Refused r) = fate.Faulty

-- whether there is a "last member of the current class" after a line: a class line opens a class with none
abbrev pub member_after : Bool → Line → Bool
member_after member Blank = member
member_after member (Comment brace) = member
member_after member (Class display raw) = false
member_after member (Field declared name raw) = true
member_after member (Method m raw) = true
member_after member (Refused r) = member

-- what becomes of all lines, one after the other
unfoldable pub fates_from : Bool → List (List ℕ) → Fates
fates_from member [] = no_fates
fates_from member (l ∷ ls) = plus (one (fate_of member l (line_of l))) (fates_from (member_after member (line_of l)) ls)

-- "4 member mapping has no class": `classes` is how many class lines stand before it
abbrev pub ownerless : ℕ → ℕ → ℕ
ownerless classes number = pick (eqb classes 0) 4 number

-- "4 before 5, 5 before 6 or 7"
abbrev pub refused_fault : ℕ → Refusal → ℕ
refused_fault classes refusal.Class = refusal_number refusal.Class
refused_fault classes refusal.Member = ownerless classes (refusal_number refusal.Member)
refused_fault classes refusal.Method = ownerless classes (refusal_number refusal.Method)
refused_fault classes refusal.Field = ownerless classes (refusal_number refusal.Field)

-- the fault of a line, 0 where it has none
abbrev pub fault_of : ℕ → Line → ℕ
fault_of classes Blank = 0
fault_of classes (Comment brace) = 0
fault_of classes (Class display raw) = 0
fault_of classes (Field declared name raw) = ownerless classes 0
fault_of classes (Method m raw) = ownerless classes 0
fault_of classes (Refused r) = refused_fault classes r

-- how many class lines one line is
abbrev pub class_line : Line → ℕ
class_line Blank = 0
class_line (Comment brace) = 0
class_line (Class display raw) = 1
class_line (Field declared name raw) = 0
class_line (Method m raw) = 0
class_line (Refused r) = 0

-- the first faulty line, else what became of all lines: `all`
unfoldable pub faults_from : Fates → ℕ → ℕ → List (List ℕ) → Result Fates Fault
faults_from all number classes [] = Ok all
faults_from all number classes (l ∷ ls) =
    let later = faults_from all (suc number) (classes + class_line (line_of l)) ls in
    pick (eqb (fault_of classes (line_of l)) 0) later (Err (fault_at (fault_of classes (line_of l)) number))

-- "3 to 7 for the first faulty line"; counting starts at 1
abbrev pub scan_of : List (List ℕ) → Result Fates Fault
scan_of ls = faults_from (fates_from false ls) 1 0 ls
