-- The fault of a line, where it has one, is a number from 3 to 7. Assumes nothing.
use mathlib.Core.Path.{◌≡◌, refl}
use mathlib.Core.Bool.{Bool, true, false}
use Prim.Native.Nat.{ℕ, ◌≤◌}
use native.Mathlib.Omega.{arith}
use lib.Dec.{eqb}
use Rattle.ground.specs.Choice.{pick}
use Rattle.line.specs.declared.line.Refusal.{Refusal}
use Rattle.line.specs.declared.line.Refusal.TheVariants as refusal
use Rattle.line.specs.declared.line.Line.{Line}
use Rattle.line.specs.declared.line.Line.TheVariants.{Blank, Comment, Class, Field, Method, Refused}
use Rattle.load_rule.specs.Fates.{ownerless, refused_fault, fault_of}

-- A fault is a number from 3 to 7; 0 stands for none.
abbrev pub Fault : ℕ → Type 0
Fault number = (3 ≤ number) × (number ≤ 7)

owner_fault : (classes number : ℕ) → Fault number → Fault (ownerless classes number)
owner_fault classes number f = go (eqb classes 0)
  where
    go : (b : Bool) → Fault (pick b 4 number)
    go true = omega arith
    go false = f

unowned_fault : (classes : ℕ) → (ownerless classes 0 ≡ 0 → ⊥) → Fault (ownerless classes 0)
unowned_fault classes n = go (eqb classes 0) n
  where
    go : (b : Bool) → (◌≡◌ {A = ℕ} (pick b 4 0) 0 → ⊥) → Fault (pick b 4 0)
    go true f = omega arith
    go false f = absurd (f refl)

refused_fault_lem : (classes : ℕ) (r : Refusal) → Fault (refused_fault classes r)
refused_fault_lem classes refusal.Class = omega arith
refused_fault_lem classes refusal.Member = owner_fault classes 5 (omega arith)
refused_fault_lem classes refusal.Method = owner_fault classes 6 (omega arith)
refused_fault_lem classes refusal.Field = owner_fault classes 7 (omega arith)

pub fault_number : (classes : ℕ) (k : Line) → (fault_of classes k ≡ 0 → ⊥) → Fault (fault_of classes k)
fault_number classes Blank f = absurd (f refl)
fault_number classes (Comment brace) f = absurd (f refl)
fault_number classes (Class display raw) f = absurd (f refl)
fault_number classes (Field declared name raw) f = unowned_fault classes f
fault_number classes (Method m raw) f = unowned_fault classes f
fault_number classes (Refused r) f = refused_fault_lem classes r

-- a refused line has a fault
pub refused_faulty : (classes : ℕ) (r : Refusal) → fault_of classes (Refused r) ≡ 0 → ⊥
refused_faulty classes r e = let (low, high) = refused_fault_lem classes r in omega arith
