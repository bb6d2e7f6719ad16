-- How long a printed line can be: 256 bytes are enough. Assumes nothing.
use Rattle.std.specs.Prelude.{Result, Ok, Err}
use mathlib.Core.Path.{◌≡◌}
use mathlib.Core.Bool.{Bool, true, false}
use mathlib.Core.List.{List, [], ◌∷◌, ◌++◌}
use Prim.Native.Nat.{ℕ, zero, suc, ◌+◌, ◌/◌, ◌%◌, ◌≤◌}
use Prim.Native.String.{String}
use native.Mathlib.Omega.{arith}
use lib.Dec.{leb}
use lib.ListN.{length, length-append}
use borrow.Author.Rules.{rules}
use Rattle.ground.specs.Ascii.{ascii}
use Rattle.ground.specs.Choice.{pick}
use Rattle.table_pool.specs.Inner.Wrote.{Written, WroteBy, no_room}
use Rattle.table_pool.proofs.Writes.{wrote_told, wrote_none}
use Rattle.load_rule.specs.declared.Fates.{Fates}
use Rattle.load_report.specs.Digits.{decimal_from, decimal}
use Rattle.load_report.specs.Report.{line_end, labelled, refused_line, line_items, row_items, report_of}
use Rattle.table_pool.specs.declared.write.NoRoom.{NoRoom}
use Rattle.load_rule.specs.declared.Loaded.{Loaded}
use Rattle.load_rule.specs.declared.LoadError.{LoadError}
use Rattle.load_rule.specs.declared.LoadError.TheVariants.{Faulty, NotUtf8, TooLong, NoClasses, FewClassRows, FewMemberRows, ShortPool}
use Rattle.load_rule.specs.Fates.{loaded_with}

digits_few : (k n : ℕ) → length (decimal_from k n) ≤ k
unfolding decimal_from
digits_few zero n = omega arith
digits_few (suc k) n = go (leb n 9) (digits_few k (n / 10))
  where
    go : (b : Bool) → length (decimal_from k (n / 10)) ≤ k → length (pick b ((48 + n % 10) ∷ []) (decimal_from k (n / 10) ++ ((48 + n % 10) ∷ []))) ≤ suc k
    go true h = omega arith
    go false h = let l = length-append (decimal_from k (n / 10)) ((48 + n % 10) ∷ []) in omega arith

-- at most `n` bytes
record Few (s : List ℕ) (n : ℕ) : Type 0 where
  few : length s ≤ n

-- its label, and ten digits
item_few : (label : String) (n : ℕ) → Few (labelled label n) (length (ascii label) + 10)
item_few label n = let a = digits_few 10 n in let b = length-append (ascii label) (decimal n) in record { few = omega arith }

-- one after the other
infixr 40 ◌then◌
◌then◌ : {a b : List ℕ} {m n : ℕ} → Few a m → Few b n → Few (a ++ b) (m + n)
◌then◌ {a} {b} f g = let x = f.few in let y = g.few in let l = length-append a b in record { few = omega arith }

last : Few line_end 1
last = record { few = omega arith }

fewer : {s : List ℕ} {n : ℕ} → Few s n → n ≤ 256 → length s ≤ 256
fewer f h = let a = f.few in omega arith

refused_few : (number line : ℕ) → length (refused_line number line) ≤ 256
unfolding ascii
refused_few number line = fewer (item_few "refused " number then item_few " line " line then last) (omega arith)

broken_few : (valid len : ℕ) → length (report_of (Err (NotUtf8 valid len))) ≤ 256
unfolding ascii
broken_few valid len = fewer (item_few "refused " 2 then item_few " at " valid then item_few " length " len then last) (omega arith)

lines_few : (f : Fates) → Few (line_items f) 75
unfolding ascii
lines_few f = item_few "loaded lines " f.lines then item_few " blank " f.blank then item_few " applied " f.applied then item_few " idle " f.idle

rows_few : (f : Fates) → Few (row_items f) 69
unfolding ascii
rows_few f = item_few " class " f.class then item_few " field " f.field then item_few " method " f.method then item_few " short " f.short

loaded_few : (f : Fates) (names : ℕ) → length (report_of (Ok (loaded_with f names))) ≤ 256
unfolding ascii
loaded_few f names = fewer (lines_few f then rows_few f then item_few " names " names then last) (omega arith)

pub report_few : (load : Result Loaded LoadError) → length (report_of load) ≤ 256
report_few (Ok r) = loaded_few r.fates r.names
report_few (Err TooLong) = refused_few 1 0
report_few (Err (NotUtf8 valid len)) = broken_few valid len
report_few (Err (Faulty r)) = refused_few r.number r.line
report_few (Err NoClasses) = refused_few 8 0
report_few (Err FewClassRows) = refused_few 9 0
report_few (Err FewMemberRows) = refused_few 10 0
report_few (Err ShortPool) = refused_few 11 0

-- so that there is room in 256 bytes
module _ (load : Result Loaded LoadError) (r : Result ℕ NoRoom) (out out₁ : List ℕ) (w : WroteBy r out 0 (report_of load) out₁) where
  pub line_done : {q : ℕ} → r ≡ Ok q → Written q out 0 (report_of load) out₁
  line_done e = wrote_told r out 0 (report_of load) out₁ w e

  pub line_short : {q : ℕ} → r ≡ Ok q → q ≤ 256
  line_short e = let p = (line_done e).past in let f = report_few load in omega arith

  pub line_room : r ≡ Err no_room → 256 ≤ length out → ⊥
  line_room e h = let n = wrote_none r out 0 (report_of load) out₁ w e in let f = report_few load in omega arith

pub ruleset lining = (line_done, line_short, line_room, rules)
