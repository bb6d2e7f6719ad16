-- Fates of lines as a whole: they add up to the lines, and there are as many rows as class lines and as member lines. Assumes nothing.
use Rattle.std.specs.Prelude.{Ok, Err}
use mathlib.Core.Path.{◌≡◌, refl}
use mathlib.Core.Bool.{Bool, true, false}
use mathlib.Core.List.{List, [], ◌∷◌}
use Prim.Native.Nat.{ℕ, suc, ◌+◌, ◌≤◌}
use native.Mathlib.Omega.{arith}
use lib.Dec.{eqb}
use lib.ListN.{length, length-append}
use borrow.Author.Tests.{eqb-true}
use Rattle.ground.specs.Choice.{pick, both}
use Rattle.line.specs.declared.line.Line.{Line}
use Rattle.line.specs.declared.line.Line.TheVariants.{Blank, Comment, Class, Field, Method, Refused}
use Rattle.line.specs.Kinds.{line_of}
use Rattle.ground.specs.Look.{Look, unknown, is_known}
use Rattle.table_rows.specs.Classes.{Pair}
use Rattle.load_rule.specs.declared.Fates.{Fates}
use Rattle.load_rule.specs.Comments.{signature_at, residual_in}
use Rattle.load_rule.specs.Fates.{one, comment_fate, method_fate, fate_of, member_after, fates_from, fault_of, class_line, faults_from, scan_of, fault_at}
use Rattle.load_rule.specs.Classes.{class_in, classes_of}
use Rattle.load_rule.specs.Members.{Under, under, under_after, entry_in, entries_from}
use Rattle.load_rule.specs.Theorems.{Counts}
use Rattle.load_rule.proofs.Numbers.{refused_faulty}

-- every line but a refused one
abbrev pub kinds : Fates → ℕ
kinds f = f.blank + f.applied + f.idle + f.class + f.field + f.method

comment_kind : (b : Bool) → kinds (one (comment_fate b)) ≡ 1
comment_kind true = refl
comment_kind false = refl

method_kind : (b : Bool) → kinds (one (method_fate b)) ≡ 1
method_kind true = refl
method_kind false = refl

kind_one : (classes : ℕ) (member : Bool) (l : List ℕ) (k : Line) → fault_of classes k ≡ 0 → kinds (one (fate_of member l k)) ≡ 1
kind_one classes member l Blank e = refl
kind_one classes member l (Comment brace) e = comment_kind (both member (is_known (signature_at l brace)))
kind_one classes member l (Class display raw) e = refl
kind_one classes member l (Field declared name raw) e = refl
kind_one classes member l (Method m raw) e = method_kind m.short
kind_one classes member l (Refused r) e = absurd (refused_faulty classes r e)

-- a sound line, and sound ones after it
pub record Sounder (all : Fates) (number classes : ℕ) (l : List ℕ) (ls : List (List ℕ)) (f : Fates) : Type 0 where
  pub here : fault_of classes (line_of l) ≡ 0
  pub later : faults_from all (suc number) (classes + class_line (line_of l)) ls ≡ Ok f

pub sound_cons : (all : Fates) (number classes : ℕ) (l : List ℕ) (ls : List (List ℕ)) {f : Fates} → faults_from all number classes (l ∷ ls) ≡ Ok f →
    Sounder all number classes l ls f
unfolding faults_from
sound_cons all number classes l ls {f} e = go (eqb (fault_of classes (line_of l)) 0) refl e
  where
    go : (b : Bool) → eqb (fault_of classes (line_of l)) 0 ≡ b →
        pick b (faults_from all (suc number) (classes + class_line (line_of l)) ls) (Err (fault_at (fault_of classes (line_of l)) number)) ≡ Ok f → Sounder all number classes l ls f
    go true q g = record { here = eqb-true (fault_of classes (line_of l)) 0 q; later = g }
    go false q g = absurd (let z : ◌≡◌ {A = ℕ} 0 1 = cc in omega arith)

sound_all : (all : Fates) (number classes : ℕ) (ls : List (List ℕ)) {f : Fates} → faults_from all number classes ls ≡ Ok f → f ≡ all
unfolding faults_from
sound_all all number classes [] e = cc
sound_all all number classes (l ∷ ls) e = sound_all all (suc number) (classes + class_line (line_of l)) ls (sound_cons all number classes l ls e).later

sound_kinds : (all : Fates) (number classes : ℕ) (member : Bool) (ls : List (List ℕ)) {f : Fates} → faults_from all number classes ls ≡ Ok f →
    kinds (fates_from member ls) ≡ length ls
unfolding fates_from
sound_kinds all number classes member [] e = refl
sound_kinds all number classes member (l ∷ ls) e =
    let s = sound_cons all number classes l ls e in
    let a = kind_one classes member l (line_of l) s.here in
    let b = sound_kinds all (suc number) (classes + class_line (line_of l)) (member_after member (line_of l)) ls s.later in
    omega arith

-- Document 01 "Fates of lines": as many as there are lines
pub lines_count : (member : Bool) (ls : List (List ℕ)) → (fates_from member ls).lines ≡ length ls
unfolding fates_from
lines_count member [] = refl
lines_count member (l ∷ ls) = let b = lines_count (member_after member (line_of l)) ls in omega arith

comment_short : (b : Bool) → (one (comment_fate b)).short ≤ (one (comment_fate b)).method
comment_short true = omega arith
comment_short false = omega arith

method_short : (b : Bool) → (one (method_fate b)).short ≤ (one (method_fate b)).method
method_short true = omega arith
method_short false = omega arith

fate_short : (member : Bool) (l : List ℕ) (k : Line) → (one (fate_of member l k)).short ≤ (one (fate_of member l k)).method
fate_short member l Blank = omega arith
fate_short member l (Comment brace) = comment_short (both member (is_known (signature_at l brace)))
fate_short member l (Class display raw) = omega arith
fate_short member l (Field declared name raw) = omega arith
fate_short member l (Method m raw) = method_short m.short
fate_short member l (Refused r) = omega arith

-- "`short` counts method lines"
pub short_few : (member : Bool) (ls : List (List ℕ)) → (fates_from member ls).short ≤ (fates_from member ls).method
unfolding fates_from
short_few member [] = omega arith
short_few member (l ∷ ls) =
    let a = fate_short member l (line_of l) in
    let b = short_few (member_after member (line_of l)) ls in
    omega arith

pub fates_sum : (ls : List (List ℕ)) {f : Fates} → scan_of ls ≡ Ok f → Counts ls f
fates_sum ls {f} e =
    let all : f ≡ fates_from false ls = sound_all (fates_from false ls) 1 0 ls e in
    let a = sound_kinds (fates_from false ls) 1 0 false ls e in
    let b = lines_count false ls in
    let c = short_few false ls in
    record { adds = rw all (omega arith); every = rw all b; short = rw all c; is = all }

-- Rows.
comment_rows : (b : Bool) → ((one (comment_fate b)).class ≡ 0) × ((one (comment_fate b)).field + (one (comment_fate b)).method ≡ 0)
comment_rows true = (refl, refl)
comment_rows false = (refl, refl)

method_rows : (b : Bool) → ((one (method_fate b)).class ≡ 0) × ((one (method_fate b)).field + (one (method_fate b)).method ≡ 1)
method_rows true = (refl, refl)
method_rows false = (refl, refl)

fate_rows : (member : Bool) (cs : List Pair) (u : Under) (signature : Look) (l : List ℕ) (k : Line) →
    ((one (fate_of member l k)).class ≡ length (class_in l k)) × ((one (fate_of member l k)).field + (one (fate_of member l k)).method ≡ length (entry_in cs u signature l k))
fate_rows member cs u signature l Blank = (refl, refl)
fate_rows member cs u signature l (Comment brace) = comment_rows (both member (is_known (signature_at l brace)))
fate_rows member cs u signature l (Class display raw) = (refl, refl)
fate_rows member cs u signature l (Field declared name raw) = (refl, refl)
fate_rows member cs u signature l (Method m raw) = method_rows m.short
fate_rows member cs u signature l (Refused r) = (refl, refl)

-- one class row for each class line
pub class_count : (member : Bool) (ls : List (List ℕ)) → (fates_from member ls).class ≡ length (classes_of ls)
unfolding fates_from classes_of
class_count member [] = refl
class_count member (l ∷ ls) =
    let a = (fate_rows member [] (under 0 []) unknown l (line_of l)).0 in
    let b = class_count (member_after member (line_of l)) ls in
    let c = length-append (class_in l (line_of l)) (classes_of ls) in
    omega arith

-- one member row for each member line
pub member_count : (member : Bool) (cs : List Pair) (u : Under) (ls : List (List ℕ)) →
    (fates_from member ls).field + (fates_from member ls).method ≡ length (entries_from cs u ls)
unfolding fates_from entries_from
member_count member cs u [] = refl
member_count member cs u (l ∷ ls) =
    let a = (fate_rows member cs u (residual_in ls) l (line_of l)).1 in
    let b = member_count (member_after member (line_of l)) cs (under_after u l (line_of l)) ls in
    let c = length-append (entry_in cs u (residual_in ls) l (line_of l)) (entries_from cs (under_after u l (line_of l)) ls) in
    omega arith
