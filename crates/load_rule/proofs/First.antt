-- Document 01: "3 to 7 for the first faulty line", in plain words. Assumes nothing.
use Rattle.std.specs.Prelude.{Ok, Err, Result}
use mathlib.Core.Path.{◌≡◌, refl, sym, ◌∙◌, ap}
use mathlib.Core.Bool.{Bool, true, false}
use mathlib.Core.List.{List, [], ◌∷◌, ◌++◌}
use mathlib.Core.Logic.{◌↔◌}
use Prim.Native.Nat.{ℕ, suc, ◌+◌}
use native.Mathlib.Nat.{add-zero, add_assoc}
use native.Mathlib.Omega.{arith}
use lib.Dec.{eqb}
use lib.ListN.{length, length-append}
use borrow.Author.Tests.{eqb-true, eqb-false, eq-eqb, ne_eqb}
use Rattle.ground.specs.Choice.{pick}
use Rattle.line.specs.declared.line.Line.{Line}
use Rattle.line.specs.declared.line.Line.TheVariants.{Blank, Comment, Class, Field, Method, Refused}
use Rattle.line.specs.Kinds.{line_of}
use Rattle.load_rule.specs.declared.Fates.{Fates}
use Rattle.load_rule.specs.Fates.{fates_from, fault_of, class_line, faults_from, scan_of, fault_at}
use Rattle.load_rule.specs.Classes.{class_in, classes_of}
use Rattle.load_rule.specs.Theorems.{First}
use Rattle.load_rule.proofs.Numbers.{fault_number}
use Rattle.load_rule.proofs.Sums.{sound_cons}
use Rattle.load_rule.specs.declared.Fault.{Fault}
use Rattle.ground.proofs.Answered.{err_part}

-- no line of these has a fault, where so many class lines stand before them
unfoldable pub Clean : ℕ → List (List ℕ) → Type 0
Clean classes [] = Unit {0}
Clean classes (l ∷ ls) = (fault_of classes (line_of l) ≡ 0) × Clean (classes + class_line (line_of l)) ls

-- lines none of which has a fault are sound, and the other way
pub clean_sound : (all : Fates) (number classes : ℕ) (ls : List (List ℕ)) → Clean classes ls → faults_from all number classes ls ≡ Ok all
unfolding Clean faults_from
clean_sound all number classes [] c = refl
clean_sound all number classes (l ∷ ls) (e, c) =
    rw (eq-eqb (fault_of classes (line_of l)) 0 e) (clean_sound all (suc number) (classes + class_line (line_of l)) ls c)

pub sound_clean : (all : Fates) (number classes : ℕ) (ls : List (List ℕ)) {f : Fates} → faults_from all number classes ls ≡ Ok f → Clean classes ls
unfolding Clean
sound_clean all number classes [] e = tt
sound_clean all number classes (l ∷ ls) e =
    let s = sound_cons all number classes l ls e in
    (s.here, sound_clean all (suc number) (classes + class_line (line_of l)) ls s.later)

-- a class line is one class
line_class : (l : List ℕ) (k : Line) → length (class_in l k) ≡ class_line k
line_class l Blank = refl
line_class l (Comment brace) = refl
line_class l (Class display raw) = refl
line_class l (Field declared name raw) = refl
line_class l (Method m raw) = refl
line_class l (Refused r) = refl

pub classes_cons : (l : List ℕ) (ls : List (List ℕ)) → length (classes_of (l ∷ ls)) ≡ class_line (line_of l) + length (classes_of ls)
unfolding classes_of
classes_cons l ls = length-append (class_in l (line_of l)) (classes_of ls) ∙ ap (λ n. n + length (classes_of ls)) (line_class l (line_of l))

classes_none : length (classes_of []) ≡ 0
unfolding classes_of
classes_none = refl

-- the first faulty line of these, where `classes` class lines and so many lines as make its number `number` stand before them
record FirstIn (number classes : ℕ) (ls : List (List ℕ)) (fault line : ℕ) : Type 0 where
  before : List (List ℕ)
  here : List ℕ
  after : List (List ℕ)
  split : ls ≡ before ++ (here ∷ after)
  place : line ≡ number + length before
  clean : Clean classes before
  is : fault ≡ fault_of (classes + length (classes_of before)) (line_of here)
  some : fault ≡ 0 → ⊥

first_here : (number classes : ℕ) (l : List ℕ) (ls : List (List ℕ)) → (fault_of classes (line_of l) ≡ 0 → ⊥) →
    FirstIn number classes (l ∷ ls) (fault_of classes (line_of l)) number
unfolding Clean
first_here number classes l ls n = record {
  before = [];
  here = l;
  after = ls;
  split = refl;
  place = omega arith;
  clean = tt;
  is = rw (classes_none, add-zero);
  some = n;
}

first_later : (number classes : ℕ) (l : List ℕ) (ls : List (List ℕ)) {fault line : ℕ} → fault_of classes (line_of l) ≡ 0 →
    FirstIn (suc number) (classes + class_line (line_of l)) ls fault line → FirstIn number classes (l ∷ ls) fault line
unfolding Clean
first_later number classes l ls e f = record {
  before = l ∷ f.before;
  here = f.here;
  after = f.after;
  split = ap (λ k. l ∷ k) f.split;
  place = omega (arith, f.place);
  clean = (e, f.clean);
  is = f.is ∙ ap (λ n. fault_of n (line_of f.here)) (add_assoc classes (class_line (line_of l)) (length (classes_of f.before)) ∙ ap (λ n. classes + n) (sym (classes_cons l f.before)));
  some = f.some;
}

first_as : {number classes : ℕ} {ls : List (List ℕ)} {x : Fault} {a b : ℕ} → ◌≡◌ {A = Result Fates Fault} (Err (fault_at a b)) (Err x) → FirstIn number classes ls a b → FirstIn number classes ls x.number x.line
first_as {x = x} {a} {b} e f = rw (err_part (λ (r : Fault). r.number) e, err_part (λ (r : Fault). r.line) e) at f

first_of : (all : Fates) (number classes : ℕ) (ls : List (List ℕ)) {x : Fault} → faults_from all number classes ls ≡ Err x →
    FirstIn number classes ls x.number x.line
unfolding faults_from
first_of all number classes [] e = absurd (let z : ◌≡◌ {A = ℕ} 0 1 = cc in omega arith)
first_of all number classes (l ∷ ls) {x} e =
    go (eqb (fault_of classes (line_of l)) 0) refl e (first_of all (suc number) (classes + class_line (line_of l)) ls)
  where
    go : (b : Bool) → eqb (fault_of classes (line_of l)) 0 ≡ b →
        pick b (faults_from all (suc number) (classes + class_line (line_of l)) ls) (Err (fault_at (fault_of classes (line_of l)) number)) ≡ Err x →
        (faults_from all (suc number) (classes + class_line (line_of l)) ls ≡ Err x → FirstIn (suc number) (classes + class_line (line_of l)) ls x.number x.line) →
        FirstIn number classes (l ∷ ls) x.number x.line
    go true q g again = first_later number classes l ls (eqb-true (fault_of classes (line_of l)) 0 q) (again g)
    go false q g again = first_as g (first_here number classes l ls (eqb-false (fault_of classes (line_of l)) 0 q))

-- the other way
clean_first : (all : Fates) (number classes : ℕ) (before : List (List ℕ)) (l : List ℕ) (after : List (List ℕ)) → Clean classes before →
    (fault_of (classes + length (classes_of before)) (line_of l) ≡ 0 → ⊥) →
    faults_from all number classes (before ++ (l ∷ after)) ≡ Err (fault_at (fault_of (classes + length (classes_of before)) (line_of l)) (number + length before))
unfolding Clean faults_from
clean_first all number classes [] l after c n =
    let z : classes + length (classes_of []) ≡ classes = ap (λ k. classes + k) classes_none ∙ add-zero classes in
    rw (add-zero number, z, ne_eqb (fault_of classes (line_of l)) 0 (rw z at n))
clean_first all number classes (k ∷ before) l after (e, c) n =
    let z : classes + length (classes_of (k ∷ before)) ≡ classes + class_line (line_of k) + length (classes_of before) =
    ap (λ i. classes + i) (classes_cons k before) ∙ sym (add_assoc classes (class_line (line_of k)) (length (classes_of before))) in
    let w : number + suc (length before) ≡ suc number + length before = omega arith in
    rw (eq-eqb (fault_of classes (line_of k)) 0 e, z, w)
    (clean_first all (suc number) (classes + class_line (line_of k)) before l after c (rw z at n))

pub first_iff : (ls : List (List ℕ)) (number line : ℕ) → (scan_of ls ≡ Err (fault_at number line)) ↔ First ls number line
first_iff ls number line = (to, back)
  where
    to : scan_of ls ≡ Err (fault_at number line) → First ls number line
    to e =
        let f = first_of (fates_from false ls) 1 0 ls e in
        let zero_more : 0 + length (classes_of f.before) ≡ length (classes_of f.before) = omega arith in
        let i : number ≡ fault_of (length (classes_of f.before)) (line_of f.here) = f.is ∙ ap (λ n. fault_of n (line_of f.here)) zero_more in
        let k = fault_number (length (classes_of f.before)) (line_of f.here) (λ z. f.some (i ∙ z)) in
        record {
          before = f.before;
          here = f.here;
          after = f.after;
          split = f.split;
          place = omega (arith, f.place);
          sound = clean_sound (fates_from false f.before) 1 0 f.before f.clean;
          is = i;
          low = omega arith;
          high = omega arith;
        }

    back : First ls number line → scan_of ls ≡ Err (fault_at number line)
    back f =
        let c = sound_clean (fates_from false f.before) 1 0 f.before f.sound in
        let all : Fates = fates_from false ls in
        let zero_more : 0 + length (classes_of f.before) ≡ length (classes_of f.before) = omega arith in
        let i : number ≡ fault_of (0 + length (classes_of f.before)) (line_of f.here) = f.is ∙ ap (λ n. fault_of n (line_of f.here)) (sym zero_more) in
        let l = f.low in
        ap (faults_from all 1 0) f.split ∙ clean_first all 1 0 f.before f.here f.after c (λ z. omega arith)
        ∙ ap (λ k. Err (fault_at k (1 + length f.before))) (sym i) ∙ ap (λ k. Err (fault_at number k)) (omega (arith, f.place))
