-- What is left in the lent rows and the pool. Assumes nothing.
use Rattle.std.specs.Prelude.{Result}
use mathlib.Core.Path.{◌≡◌, sym, ◌∙◌, ap}
use mathlib.Core.Bool.{Bool, true, false}
use mathlib.Core.List.{List, ◌++◌, append_assoc}
use Prim.Native.Nat.{ℕ, ◌+◌, ◌-◌, ◌≤◌, min}
use native.Mathlib.Omega.{arith}
use lib.ListN.{length, take, drop, replicate, length-take, length-replicate, replicate-append-replicate}
use lib.Seq.{take_at, drop_at}
use borrow.Author.Rules.{rules}
use Rattle.ground.specs.Choice.{pick}
use Rattle.ground.specs.Put.{put}
use Rattle.ground.proofs.Parts.{prefix_whole}
use Rattle.ground.proofs.PutLaws.{put_same_many}
use Rattle.table_rows.specs.Rows.{zero_class, zero_member, most_members, most_classes, most_pool}
use Rattle.load_rule.specs.Loading.{counting, lines_load, is_loaded, class_rows_of, member_rows_of, pool_of, most_text, lent}
use Rattle.load.specs.Inner.Into.{Limits, IntoBy}
use Rattle.load.specs.Inner.Left.{Cleared, Left}
use Rattle.load_rule.specs.declared.Loaded.{Loaded}
use Rattle.load_rule.specs.declared.LoadError.{LoadError}

-- Part of what was made zero.
module _ {A : Type 0} (z : A) (n x : ℕ) (h : x ≤ n) where
  two_parts : replicate n z ≡ replicate x z ++ replicate (n - x) z
  two_parts = let e : x + (n - x) ≡ n = omega arith in sym (replicate-append-replicate x (n - x) z ∙ ap (λ k. replicate k z) e)

  front_zero : take x (replicate n z) ≡ replicate x z
  front_zero = ap (take x) two_parts ∙ take_at (replicate x z) (replicate (n - x) z) x (length-replicate x z)

  back_zero : drop x (replicate n z) ≡ replicate (n - x) z
  back_zero = ap (drop x) two_parts ∙ drop_at (replicate x z) (replicate (n - x) z) x (length-replicate x z)

-- rows written into the front part of zeros, the rest of which is left
stretched : {A : Type 0} (z : A) (n x : ℕ) (rows c c₁ : List A) → c ≡ replicate n z → x ≤ n → c₁ ≡ put (take x c) 0 rows → length rows ≤ length (take x c) →
    c₁ ++ drop x c ≡ rows ++ replicate (n - length rows) z
stretched z n x rows c c₁ e h f room =
    let front : take x c ≡ replicate x z = ap (take x) e ∙ front_zero z n x h in
    let fits : length rows ≤ x = let l = length-take x c in omega arith in
    let size : (x - length rows) + (n - x) ≡ n - length rows = omega arith in
    ap (λ l. l ++ drop x c) (f ∙ ap (λ l. put l 0 rows) front ∙ put_same_many x z rows)
    ∙ ap (λ l. (rows ++ replicate (x - length rows) z) ++ l) (ap (drop x) e ∙ back_zero z n x h)
    ∙ append_assoc rows (replicate (x - length rows) z) (replicate (n - x) z)
    ∙ ap (λ l. rows ++ l) (replicate-append-replicate (x - length rows) (n - x) z ∙ ap (λ k. replicate k z) size)

capped : {A : Type 0} (z : A) (n most : ℕ) (c : List A) {x : ℕ} → c ≡ replicate n z → x ≡ min (length c) most → length (take x c) ≡ min n most
capped z n most c {x} e f =
    let l = length-take x c in
    let k : length c ≡ n = ap length e ∙ length-replicate n z in
    omega arith

module _ {nc nm np : ℕ} {c m : List (List ℕ)} {p : List ℕ} (k : Cleared nc nm np c m p) {x y w : ℕ} (a : x ≡ min (length c) most_classes) (b : y ≡ min (length m) most_members) (d : w ≡ min (length p) most_pool) where
  pub lines_limits : (s : List ℕ) → length s ≤ most_text → Limits (length s) (length (take x c)) (length (take y m)) (length (take w p))
  lines_limits s h = record {
    text = h;
    classes = omega (arith, capped zero_class nc most_classes c k.classes a);
    members = omega (arith, capped zero_member nm most_members m k.members b);
    pool = omega (arith, capped 0 np most_pool p k.pool d);
  }

  pub class_part : x ≤ length c
  class_part = omega arith

  pub member_part : y ≤ length m
  member_part = omega arith

  pub pool_part : w ≤ length p
  pool_part = omega arith

  module _ (ls : List (List ℕ)) {r : Result Loaded LoadError} {c₁ m₁ : List (List ℕ)} {p₁ : List ℕ} (i : IntoBy r ls (take x c) (take y m) (take w p) c₁ m₁ p₁) {t : Bool} (e : t ≡ is_loaded r) where
    answers : r ≡ lines_load ls (counting (lent nc nm np))
    answers =
        i.answer
        ∙ ap (λ n. lines_load ls (lent n (length (take y m)) (length (take w p)))) (capped zero_class nc most_classes c k.classes a)
        ∙ ap (λ n. lines_load ls (lent (min nc most_classes) n (length (take w p)))) (capped zero_member nm most_members m k.members b)
        ∙ ap (λ n. lines_load ls (lent (min nc most_classes) (min nm most_members) n)) (capped 0 np most_pool p k.pool d)

    pub left_loaded : t ≡ true → Left r ls nc nm np (c₁ ++ drop x c) (m₁ ++ drop y m) (p₁ ++ drop w p)
    left_loaded f =
        let yes : is_loaded r ≡ true = sym e ∙ f in
        let full = i.full yes in
        let lc : length c ≡ nc = ap length k.classes ∙ length-replicate nc zero_class in
        let lm : length m ≡ nm = ap length k.members ∙ length-replicate nm zero_member in
        let lp : length p ≡ np = ap length k.pool ∙ length-replicate np 0 in
        record {
          answer = answers;
          classes = stretched zero_class nc x (class_rows_of ls) c c₁ k.classes (omega arith) full.classes full.class_room
              ∙ sym (ap (λ q. pick q (class_rows_of ls ++ replicate (nc - length (class_rows_of ls)) zero_class) (replicate nc zero_class)) yes);
          members = stretched zero_member nm y (member_rows_of ls) m m₁ k.members (omega arith) full.members full.member_room
              ∙ sym (ap (λ q. pick q (member_rows_of ls ++ replicate (nm - length (member_rows_of ls)) zero_member) (replicate nm zero_member)) yes);
          pool = stretched 0 np w (pool_of ls) p p₁ k.pool (omega arith) full.pool full.pool_room
              ∙ sym (ap (λ q. pick q (pool_of ls ++ replicate (np - length (pool_of ls)) 0) (replicate np 0)) yes);
        }

    pub left_refused : t ≡ false → {kc km kp : ℕ} → kc ≡ nc → km ≡ nm → kp ≡ np → {c₂ m₂ : List (List ℕ)} {p₂ : List ℕ} → Cleared kc km kp c₂ m₂ p₂ → Left r ls nc nm np c₂ m₂ p₂
    left_refused f lc lm lp z =
        let no : is_loaded r ≡ false = sym e ∙ f in
        record {
          answer = answers;
          classes = z.classes ∙ ap (λ n. replicate n zero_class) lc ∙ sym (ap (λ q. pick q (class_rows_of ls ++ replicate (nc - length (class_rows_of ls)) zero_class) (replicate nc zero_class)) no);
          members = z.members ∙ ap (λ n. replicate n zero_member) lm ∙ sym (ap (λ q. pick q (member_rows_of ls ++ replicate (nm - length (member_rows_of ls)) zero_member) (replicate nm zero_member)) no);
          pool = z.pool ∙ ap (λ n. replicate n 0) lp ∙ sym (ap (λ q. pick q (pool_of ls ++ replicate (np - length (pool_of ls)) 0) (replicate np 0)) no);
        }

pub ruleset leaving = (lines_limits, class_part, member_part, pool_part, left_loaded, left_refused, prefix_whole, rules)
