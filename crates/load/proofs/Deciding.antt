-- Which answer a load gives. Assumes nothing.
use Rattle.std.specs.Prelude.{Result, Ok, Err}
use mathlib.Core.Path.{◌≡◌, refl, sym, ◌∙◌, ap}
use mathlib.Core.Bool.{Bool, true, false}
use mathlib.Core.List.{List, [], ◌∷◌}
use mathlib.Core.Logic.{◌⊎◌, inl, inr}
use Prim.Native.Nat.{ℕ, suc, ◌+◌, ◌≤◌, ◌<◌}
use native.Mathlib.Omega.{arith}
use lib.Dec.{eqb, ltb}
use lib.ListN.{length, drop, length-map}
use mir.Val.{Fits}
use mir.Syntax.{w32}
use borrow.Author.Tests.{eq-eqb, ne_eqb, lt-ltb, le-ltb, ltb-false}
use borrow.Author.Rules.{rules}
use Rattle.ground.specs.Choice.{pick}
use Rattle.text_places.specs.Lines.{onto, raw_lines, without_cr, lines}
use Rattle.load_rule.specs.declared.Fates.{Fates}
use Rattle.load_rule.specs.Fates.{no_fates, scan_of, fault_at, loaded_with}
use Rattle.load_rule.specs.Classes.{classes_of}
use Rattle.load_rule.specs.Loading.{entries_of, pool_of, scanned, lines_load, most_text, lent}
use Rattle.load_rule.specs.Members.{under}
use Rattle.load_rule.proofs.Sums.{fates_sum, class_count, member_count}
use Rattle.load_scan.specs.Inner.Bounds.{Within}
use Rattle.load_scan.specs.Inner.Steps.{scan_on}
use Rattle.load_members.proofs.Filling.{from_nothing}
use Rattle.load.specs.Inner.Into.{Counted, missing, refused_of, accepted_of}
use Rattle.load_rule.specs.declared.Fault.{Fault}
use Rattle.load_rule.specs.declared.LoadError.TheVariants.{Faulty, NoClasses, FewClassRows, FewMemberRows, ShortPool}

-- A text has no more lines than bytes.
onto_length : (b : ℕ) (ls : List (List ℕ)) → length (onto b ls) ≤ suc (length ls)
onto_length b [] = omega arith
onto_length b (l ∷ ls) = omega arith

raw_length : (s : List ℕ) → length (raw_lines s) ≤ length s
unfolding raw_lines
raw_length [] = omega arith
raw_length (b ∷ s) = go (eqb b 0x0A) (raw_length s)
  where
    go : (t : Bool) → length (raw_lines s) ≤ length s → length (pick t ([] ∷ raw_lines s) (onto b (raw_lines s))) ≤ suc (length s)
    go true h = omega arith
    go false h = omega (arith, onto_length b (raw_lines s))

pub lines_length : (s : List ℕ) → length (lines s) ≤ length s
lines_length s = omega (arith, raw_length s, length-map (raw_lines s) without_cr)

-- The refusal where rows or pool are too few.
module _ (c m : ℕ) {s : Result Fates Fault} where
  pub refused_faulty : {y : Fault} → s ≡ Err y → Err (Faulty (fault_at y.number y.line)) ≡ refused_of s c m
  refused_faulty e = sym (ap (λ x. refused_of x c m) e)

  module _ {f : Fates} (e : s ≡ Ok f) where
    sound : refused_of s c m ≡ missing f c m
    sound = ap (λ x. refused_of x c m) e

    pub refused_fits : Counted s → Fits w32 (f.field + f.method)
    refused_fits h = let k : f.field + f.method ≤ most_text = rw e at h in omega arith

    pub refused_none : f.class ≡ 0 → Err NoClasses ≡ refused_of s c m
    refused_none z = sym (sound ∙ rw (eq-eqb f.class 0 z))

    module _ (z : f.class ≡ 0 → ⊥) where
      pub refused_classes : c < f.class → Err FewClassRows ≡ refused_of s c m
      refused_classes h = sym (sound ∙ rw (ne_eqb f.class 0 z, lt-ltb c f.class h))

      module _ (h : f.class ≤ c) where
        pub refused_members : m < f.field + f.method → Err FewMemberRows ≡ refused_of s c m
        refused_members i = sym (sound ∙ rw (ne_eqb f.class 0 z, le-ltb c f.class h, lt-ltb m (f.field + f.method) i))

        pub refused_pool : f.field + f.method ≤ m → Err ShortPool ≡ refused_of s c m
        refused_pool i = sym (sound ∙ rw (ne_eqb f.class 0 z, le-ltb c f.class h, le-ltb m (f.field + f.method) i))

pub ruleset refusing = (refused_faulty, refused_fits, refused_none, refused_classes, refused_members, refused_pool, rules)

module _ (f : Fates) (names : ℕ) where
  pub accepted_none : f.class ≡ 0 → Err NoClasses ≡ accepted_of f names
  accepted_none z = sym (rw (eq-eqb f.class 0 z))

  pub accepted_all : (f.class ≡ 0 → ⊥) → Ok (loaded_with f names) ≡ accepted_of f names
  accepted_all z = sym (rw (ne_eqb f.class 0 z))

pub ruleset accepting = (accepted_none, accepted_all, rules)

-- All lines.
module _ {f : Fates} (e : f ≡ no_fates) where
  pub none_within : (n : ℕ) → Within f n
  none_within n =
      rw e (record { lines = omega arith; blank = omega arith; applied = omega arith; idle = omega arith; class = omega arith; field = omega arith; method = omega arith; short = omega arith })

  pub scan_whole : (s : List ℕ) {r : Result Fates Fault} → r ≡ scan_on f false (lines (drop 0 s)) → r ≡ scan_of (lines s)
  scan_whole s g = g ∙ ap (λ x. scan_on x false (lines s)) e ∙ from_nothing (lines s)

pub ruleset scanning_all = (none_within, scan_whole, rules)

-- the members of a text can be counted
counted_scan : (s : List ℕ) (o : Result Fates Fault) → scan_of (lines s) ≡ o → length s ≤ most_text → Counted o
counted_scan s (Ok f) e h =
    let k = fates_sum (lines s) e in
    let a = k.adds in
    let b = k.every in
    let l = lines_length s in
    omega arith
counted_scan s (Err r) e h = tt

pub scan_counted : (s : List ℕ) {o : Result Fates Fault} → o ≡ scan_of (lines s) → length s ≤ most_text → Counted o
scan_counted s {o} e h = counted_scan s o (sym e) h

-- Where something does not fit, the refusal is that of the rule.
module _ (ls : List (List ℕ)) (c m p : ℕ) where
  lacking_pool : (f : Fates) → f.class ≡ length (classes_of ls) → f.field + f.method ≡ length (entries_of ls) →
      (c < length (classes_of ls)) ⊎ ((m < length (entries_of ls)) ⊎ (p < length (pool_of ls))) → f.class ≤ c → f.field + f.method ≤ m → p < length (pool_of ls)
  lacking_pool f x y (inl h) i j = absurd (omega arith)
  lacking_pool f x y (inr (inl h)) i j = absurd (omega arith)
  lacking_pool f x y (inr (inr h)) i j = h

  pub decided : (c < length (classes_of ls)) ⊎ ((m < length (entries_of ls)) ⊎ (p < length (pool_of ls))) → refused_of (scan_of ls) c m ≡ lines_load ls (lent c m p)
  decided l = go (scan_of ls) refl
    where
      by_tests : (f : Fates) → f.class ≡ length (classes_of ls) → f.field + f.method ≡ length (entries_of ls) → (a : Bool) → (b : Bool) → ltb c f.class ≡ b → (d : Bool) → ltb m (f.field + f.method) ≡ d →
          pick a (Err NoClasses) (pick b (Err FewClassRows) (pick d (Err FewMemberRows) (Err ShortPool)))
          ≡ pick a (Err NoClasses) (pick b (Err FewClassRows) (pick d (Err FewMemberRows) (pick (ltb p (length (pool_of ls))) (Err ShortPool) (Ok (loaded_with f (length (pool_of ls)))))))
      by_tests f x y true b g d i = refl
      by_tests f x y false true g d i = refl
      by_tests f x y false false g true i = refl
      by_tests f x y false false g false i = sym (rw (lt-ltb p (length (pool_of ls)) (lacking_pool f x y l (ltb-false c f.class g) (ltb-false m (f.field + f.method) i))))

      go : (o : Result Fates Fault) → scan_of ls ≡ o → refused_of o c m ≡ scanned o ls (lent c m p)
      go (Err r) e = refl
      go (Ok f) e =
          let k = fates_sum ls e in
          let x : f.class ≡ length (classes_of ls) = ap (λ g. g.class) k.is ∙ class_count false ls in
          let y : f.field + f.method ≡ length (entries_of ls) = ap (λ g. g.field + g.method) k.is ∙ member_count false (classes_of ls) (under 0 []) ls in
          by_tests f x y (eqb f.class 0) (ltb c f.class) refl (ltb m (f.field + f.method)) refl

  -- Where all fits, it is loaded, or there is no class.
  pub accepted_as : {f : Fates} {names : ℕ} → scan_of ls ≡ Ok f → length (classes_of ls) ≤ c → length (entries_of ls) ≤ m → length (pool_of ls) ≤ p → names ≡ length (pool_of ls) →
      accepted_of f names ≡ lines_load ls (lent c m p)
  accepted_as {f} {names} e h i j n =
      let k = fates_sum ls e in
      let x : f.class ≡ length (classes_of ls) = ap (λ g. g.class) k.is ∙ class_count false ls in
      let y : f.field + f.method ≡ length (entries_of ls) = ap (λ g. g.field + g.method) k.is ∙ member_count false (classes_of ls) (under 0 []) ls in
      sym (ap (λ o. scanned o ls (lent c m p)) e ∙ rw (le-ltb c f.class (omega arith), le-ltb m (f.field + f.method) (omega arith), le-ltb p (length (pool_of ls)) j, n))
