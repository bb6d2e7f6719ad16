-- Document 01 "Numbers a caller can get back": when each answer is given, exactly. Assumes nothing.
use Rattle.std.specs.Prelude.{Result, Ok, Err}
use mathlib.Core.Path.{◌≡◌, refl, ◌∙◌, ap}
use mathlib.Core.Bool.{Bool, true, false}
use mathlib.Core.List.{List, ◌++◌}
use mathlib.Core.Logic.{◌↔◌}
use Prim.Native.Nat.{ℕ, ◌+◌, ◌-◌, ◌≤◌, ◌<◌, min}
use native.Mathlib.Omega.{arith}
use lib.Dec.{eqb, ltb}
use lib.ListN.{length, replicate}
use borrow.Author.Tests.{lt-ltb, le-ltb, eq-eqb, ne_eqb, ltb-true, ltb-false, eqb-true, eqb-false}
use Rattle.ground.specs.Choice.{pick}
use Rattle.text_utf8.specs.Utf8.{check_of, broken}
use Rattle.table_rows.specs.Rows.{zero_class, zero_member, most_members, most_classes, most_pool}
use Rattle.load_rule.specs.declared.Fates.{Fates}
use Rattle.load_rule.specs.Fates.{scan_of, fault_at, loaded_with}
use Rattle.load_rule.specs.Loading.{Lent, counting, class_rows_of, member_rows_of, pool_of, fitting, scanned, checked, answer_of, is_loaded, classes_left, members_left, pool_left, most_text}
use Rattle.load_rule.specs.Theorems.{Read, Passed, Fitted, Way, too_long, not_utf8, faulty, no_classes, few_class_rows, few_member_rows, short_pool, loaded}
use Rattle.text_utf8.specs.declared.check.Broken.{Broken}
use Rattle.load_rule.specs.declared.Fault.{Fault}
use Rattle.load_rule.specs.declared.Loaded.{Loaded}
use Rattle.load_rule.specs.declared.LoadError.{LoadError}
use Rattle.load_rule.specs.declared.LoadError.TheVariants.{Faulty, NotUtf8, TooLong, NoClasses, FewClassRows, FewMemberRows, ShortPool}

way_as : {s : List ℕ} {ls : List (List ℕ)} {n : Lent} {a b : Result Loaded LoadError} → a ≡ b → Way s ls n a → Way s ls n b
way_as e w = rw e at w

module _ (s : List ℕ) (ls : List (List ℕ)) (n : Lent) where
  module _ {f : Fates} (p : Passed s ls f) where
    fitting_way : Way s ls n (fitting f ls (counting n))
    fitting_way =
        go (eqb f.class 0) refl (ltb (min n.classes most_classes) f.class) refl (ltb (min n.members most_members) (f.field + f.method)) refl
        (ltb (min n.pool most_pool) (length (pool_of ls))) refl
      where
        some : eqb f.class 0 ≡ false → 0 < f.class
        some e = let z = eqb-false f.class 0 e in omega arith

        go : (a : Bool) → eqb f.class 0 ≡ a → (b : Bool) → ltb (min n.classes most_classes) f.class ≡ b →
            (c : Bool) → ltb (min n.members most_members) (f.field + f.method) ≡ c → (d : Bool) → ltb (min n.pool most_pool) (length (pool_of ls)) ≡ d →
            Way s ls n (pick a (Err NoClasses) (pick b (Err FewClassRows) (pick c (Err FewMemberRows) (pick d (Err ShortPool) (Ok (loaded_with f (length (pool_of ls))))))))
        go true i b j c k d l = no_classes p (eqb-true f.class 0 i)
        go false i true j c k d l = few_class_rows p (some i) (ltb-true (min n.classes most_classes) f.class j)
        go false i false j true k d l =
            few_member_rows p (some i) (ltb-false (min n.classes most_classes) f.class j) (ltb-true (min n.members most_members) (f.field + f.method) k)
        go false i false j false k true l =
            short_pool p (some i) (ltb-false (min n.classes most_classes) f.class j) (ltb-false (min n.members most_members) (f.field + f.method) k)
            (ltb-true (min n.pool most_pool) (length (pool_of ls)) l)
        go false i false j false k false l =
            loaded p (some i) (ltb-false (min n.classes most_classes) f.class j) (ltb-false (min n.members most_members) (f.field + f.method) k)
            (ltb-false (min n.pool most_pool) (length (pool_of ls)) l) refl

  scanned_way : Read s → Way s ls n (scanned (scan_of ls) ls (counting n))
  scanned_way r = go (scan_of ls) refl
    where
      go : (o : Result Fates Fault) → scan_of ls ≡ o → Way s ls n (scanned o ls (counting n))
      go (Err x) e = faulty r e
      go (Ok f) e = fitting_way (record { short = r.short; valid = r.valid; sound = e })

  checked_way : length s ≤ most_text → Way s ls n (checked (check_of s) ls (counting n))
  checked_way h = go (check_of s) refl
    where
      go : (o : Result Unit Broken) → check_of s ≡ o → Way s ls n (checked o ls (counting n))
      go (Err r) e = not_utf8 h e
      go (Ok _) e = scanned_way (record { short = h; valid = e })

  answer_way : Way s ls n (answer_of s ls n)
  answer_way = go (ltb most_text (length s)) refl
    where
      go : (b : Bool) → ltb most_text (length s) ≡ b → Way s ls n (pick b (Err TooLong) (checked (check_of s) ls (counting n)))
      go true e = too_long (ltb-true most_text (length s) e)
      go false e = checked_way (ltb-false most_text (length s) e)

  -- and the other way
  read_answer : length s ≤ most_text → check_of s ≡ Ok tt → answer_of s ls n ≡ scanned (scan_of ls) ls (counting n)
  read_answer h e = rw (le-ltb most_text (length s) h, e)

  passed_answer : {f : Fates} → Passed s ls f → answer_of s ls n ≡ fitting f ls (counting n)
  passed_answer p = read_answer p.short p.valid ∙ ap (λ o. scanned o ls (counting n)) p.sound

  way_answer : {r : Result Loaded LoadError} → Way s ls n r → answer_of s ls n ≡ r
  way_answer (too_long h) = rw (lt-ltb most_text (length s) h)
  way_answer (not_utf8 h e) = rw (le-ltb most_text (length s) h, e)
  way_answer (faulty r e) = read_answer r.short r.valid ∙ ap (λ o. scanned o ls (counting n)) e
  way_answer (no_classes {f} p z) = passed_answer p ∙ rw (eq-eqb f.class 0 z)
  way_answer (few_class_rows {f} p z c) = passed_answer p ∙ rw (ne_eqb f.class 0 (λ e. omega arith), lt-ltb (min n.classes most_classes) f.class c)
  way_answer (few_member_rows {f} p z c m) =
      passed_answer p
      ∙ rw (ne_eqb f.class 0 (λ e. omega arith), le-ltb (min n.classes most_classes) f.class c, lt-ltb (min n.members most_members) (f.field + f.method) m)
  way_answer (short_pool {f} p z c m o) =
      passed_answer p
      ∙ rw (
        ne_eqb f.class 0 (λ e. omega arith),
        le-ltb (min n.classes most_classes) f.class c,
        le-ltb (min n.members most_members) (f.field + f.method) m,
        lt-ltb (min n.pool most_pool) (length (pool_of ls)) o,
      )
  way_answer (loaded {f} {names} p z c m o q) =
      passed_answer p
      ∙ rw (
        ne_eqb f.class 0 (λ e. omega arith),
        le-ltb (min n.classes most_classes) f.class c,
        le-ltb (min n.members most_members) (f.field + f.method) m,
        le-ltb (min n.pool most_pool) (length (pool_of ls)) o,
        q,
      )

  -- an answer is given exactly where its way was gone
  pub answer_iff : (r : Result Loaded LoadError) → (answer_of s ls n ≡ r) ↔ Way s ls n r
  answer_iff r = ((λ e. way_as e answer_way), way_answer)

  -- The same, refusal by refusal.
  pub too_long_iff : (answer_of s ls n ≡ Err TooLong) ↔ (most_text < length s)
  too_long_iff = ((λ e. only (way_as e answer_way)), (λ h. way_answer (too_long h)))
    where
      only : Way s ls n (Err TooLong) → most_text < length s
      only (too_long h) = h

  pub not_utf8_iff : (v k : ℕ) → (answer_of s ls n ≡ Err (NotUtf8 v k)) ↔ ((length s ≤ most_text) × (check_of s ≡ Err (broken v k)))
  not_utf8_iff v k = ((λ e. only (way_as e answer_way)), (λ (h, e). way_answer (not_utf8 h e)))
    where
      only : Way s ls n (Err (NotUtf8 v k)) → (length s ≤ most_text) × (check_of s ≡ Err (broken v k))
      only (not_utf8 h e) = (h, e)

  pub faulty_iff : (number line : ℕ) → (answer_of s ls n ≡ Err (Faulty (fault_at number line))) ↔ (Read s × (scan_of ls ≡ Err (fault_at number line)))
  faulty_iff number line = ((λ e. only (way_as e answer_way)), (λ (r, e). way_answer (faulty r e)))
    where
      only : Way s ls n (Err (Faulty (fault_at number line))) → Read s × (scan_of ls ≡ Err (fault_at number line))
      only (faulty r e) = (r, e)

  pub no_classes_iff : (answer_of s ls n ≡ Err NoClasses) ↔ ((f : Fates) × Passed s ls f × (f.class ≡ 0))
  no_classes_iff = ((λ e. only (way_as e answer_way)), (λ (f, p, z). way_answer (no_classes p z)))
    where
      only : Way s ls n (Err NoClasses) → (f : Fates) × Passed s ls f × (f.class ≡ 0)
      only (no_classes {f} p z) = (f, p, z)

  pub few_class_rows_iff :
      (answer_of s ls n ≡ Err FewClassRows) ↔ ((f : Fates) × Passed s ls f × (0 < f.class) × (min n.classes most_classes < f.class))
  few_class_rows_iff = ((λ e. only (way_as e answer_way)), (λ (f, p, z, c). way_answer (few_class_rows p z c)))
    where
      only : Way s ls n (Err FewClassRows) → (f : Fates) × Passed s ls f × (0 < f.class) × (min n.classes most_classes < f.class)
      only (few_class_rows {f} p z c) = (f, p, z, c)

  pub few_member_rows_iff :
      (answer_of s ls n ≡ Err FewMemberRows)
      ↔ ((f : Fates) × Passed s ls f × (0 < f.class) × (f.class ≤ min n.classes most_classes) × (min n.members most_members < f.field + f.method))
  few_member_rows_iff = ((λ e. only (way_as e answer_way)), (λ (f, p, z, c, m). way_answer (few_member_rows p z c m)))
    where
      only : Way s ls n (Err FewMemberRows) →
          (f : Fates) × Passed s ls f × (0 < f.class) × (f.class ≤ min n.classes most_classes) × (min n.members most_members < f.field + f.method)
      only (few_member_rows {f} p z c m) = (f, p, z, c, m)

  pub short_pool_iff :
      (answer_of s ls n ≡ Err ShortPool)
      ↔ ((f : Fates) × Passed s ls f × (0 < f.class) × (f.class ≤ min n.classes most_classes) × (f.field + f.method ≤ min n.members most_members)
      × (min n.pool most_pool < length (pool_of ls)))
  short_pool_iff = ((λ e. only (way_as e answer_way)), (λ (f, p, z, c, m, o). way_answer (short_pool p z c m o)))
    where
      only : Way s ls n (Err ShortPool) →
          (f : Fates) × Passed s ls f × (0 < f.class) × (f.class ≤ min n.classes most_classes) × (f.field + f.method ≤ min n.members most_members)
          × (min n.pool most_pool < length (pool_of ls))
      only (short_pool {f} p z c m o) = (f, p, z, c, m, o)

  pub loaded_iff : (f : Fates) (names : ℕ) → (answer_of s ls n ≡ Ok (loaded_with f names)) ↔ Fitted s ls n f names
  loaded_iff f names =
      ((λ e. only (way_as e answer_way)), (λ k. way_answer (loaded k.passed k.some k.class_rows_lem k.member_rows k.pool_bytes k.named)))
    where
      only : Way s ls n (Ok (loaded_with f names)) → Fitted s ls n f names
      only (loaded p z c m o q) = record { passed = p; some = z; class_rows_lem = c; member_rows = m; pool_bytes = o; named = q }

  -- "A refused load zeroes all lent rows and pool bytes"
  pub refused_leaves : is_loaded (answer_of s ls n) ≡ false →
      (classes_left s ls n ≡ replicate n.classes zero_class) × (members_left s ls n ≡ replicate n.members zero_member)
      × (pool_left s ls n ≡ replicate n.pool 0)
  refused_leaves e = (rw e, rw e, rw e)

  -- "a success zeroes what it does not use"
  pub loaded_leaves : {x : Loaded} → answer_of s ls n ≡ Ok x →
      (classes_left s ls n ≡ class_rows_of ls ++ replicate (n.classes - length (class_rows_of ls)) zero_class)
      × (members_left s ls n ≡ member_rows_of ls ++ replicate (n.members - length (member_rows_of ls)) zero_member)
      × (pool_left s ls n ≡ pool_of ls ++ replicate (n.pool - length (pool_of ls)) 0)
  loaded_leaves e = (rw e, rw e, rw e)
