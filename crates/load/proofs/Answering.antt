-- The entry points: length and UTF-8 first, then the lines. Assumes nothing.
use Rattle.std.specs.Prelude.{Result, Ok, Err}
use mathlib.Core.Path.{◌≡◌, refl, sym, ◌∙◌, ap}
use mathlib.Core.Bool.{false}
use mathlib.Core.List.{List, ◌++◌}
use Prim.Native.Nat.{ℕ, ◌+◌, ◌-◌, ◌≤◌, ◌<◌}
use native.Mathlib.Omega.{arith}
use lib.Dec.{eqb}
use lib.ListN.{length, drop, replicate, length-take}
use mir.Val.{Fits}
use mir.Syntax.{w32}
use borrow.Author.Tests.{lt-ltb, le-ltb}
use borrow.Author.Rules.{rules}
use Rattle.ground.specs.Put.{between}
use Rattle.ground.specs.Choice.{pick}
use Rattle.ground.proofs.Parts.{take_rest}
use Rattle.text_places.specs.Lines.{lines}
use Rattle.text_utf8.specs.Utf8.{check_of, broken}
use Rattle.text_utf8.proofs.Grammatical.{broken_breaks}
use Rattle.text_utf8.proofs.Lengths.{broken_short}
use Rattle.text_white.specs.Trim.{after_marks}
use Rattle.text_white.proofs.TrimLaws.{run_inside}
use Rattle.table_rows.specs.Rows.{zero_class, zero_member}
use Rattle.load_rule.specs.Loading.{Lent, counting, checked, answer_of, is_loaded, leaves, class_rows_of, member_rows_of, pool_of, lent, lines_parse, most_text}
use Rattle.load.specs.Inner.Left.{Cleared, Left, Leaving}
use Rattle.text_utf8.specs.declared.check.Broken.{Broken}
use Rattle.load_rule.specs.declared.Loaded.{Loaded}
use Rattle.load_rule.specs.declared.LoadError.{LoadError}
use Rattle.load_rule.specs.declared.LoadError.TheVariants.{NotUtf8, TooLong}

-- a text that is not too long
short_text : (s : List ℕ) (ls : List (List ℕ)) (n : Lent) → length s ≤ most_text → answer_of s ls n ≡ checked (check_of s) ls (counting n)
short_text s ls n h = rw (le-ltb most_text (length s) h)

module _ (s : List ℕ) (ls : List (List ℕ)) (nc nm np : ℕ) {c m : List (List ℕ)} {p : List ℕ} where
  -- a refusal, and all is zero
  refused_all : {r : Result Loaded LoadError} → r ≡ answer_of s ls (lent nc nm np) → is_loaded r ≡ false → Cleared nc nm np c m p → Leaving r s ls nc nm np c m p
  refused_all e h k =
      let not : is_loaded (answer_of s ls (lent nc nm np)) ≡ false = ap is_loaded (sym e) ∙ h in
      record {
        answer = e;
        classes = k.classes ∙ sym (ap (λ q. pick q (class_rows_of ls ++ replicate (nc - length (class_rows_of ls)) zero_class) (replicate nc zero_class)) not);
        members = k.members ∙ sym (ap (λ q. pick q (member_rows_of ls ++ replicate (nm - length (member_rows_of ls)) zero_member) (replicate nm zero_member)) not);
        pool = k.pool ∙ sym (ap (λ q. pick q (pool_of ls ++ replicate (np - length (pool_of ls)) 0) (replicate np 0)) not);
      }

  pub loads_too_long : most_text < length s → Cleared nc nm np c m p → Leaving (Err TooLong) s ls nc nm np c m p
  loads_too_long h k = refused_all (sym (rw (lt-ltb most_text (length s) h))) refl k

  module _ (h : length s ≤ most_text) {t : Result Unit Broken} (e : t ≡ check_of s) where
    module _ {y : Broken} (f : t ≡ Err y) where
      pub loads_not_utf8 : Cleared nc nm np c m p → Leaving (Err (NotUtf8 y.at y.length)) s ls nc nm np c m p
      loads_not_utf8 z = refused_all (sym (short_text s ls (lent nc nm np) h ∙ ap (λ x. checked x ls (counting (lent nc nm np))) (sym e ∙ f))) refl z

    pub loads_lines : t ≡ Ok tt → {r : Result Loaded LoadError} → Left r ls nc nm np c m p → Leaving r s ls nc nm np c m p
    loads_lines f {r} k =
        let is : r ≡ answer_of s ls (lent nc nm np) = k.answer ∙ sym (short_text s ls (lent nc nm np) h ∙ ap (λ x. checked x ls (counting (lent nc nm np))) (sym e ∙ f)) in
        record {
          answer = is;
          classes = k.classes ∙ ap (λ x. leaves zero_class nc x (class_rows_of ls)) is;
          members = k.members ∙ ap (λ x. leaves zero_member nm x (member_rows_of ls)) is;
          pool = k.pool ∙ ap (λ x. leaves 0 np x (pool_of ls)) is;
        }

module _ (s : List ℕ) (h : length s ≤ most_text) {t : Result Unit Broken} (e : t ≡ check_of s) {x : Broken} (f : t ≡ Err x) where
  pub place_fits : Fits w32 x.at
  place_fits = let b = (broken_breaks s (sym e ∙ f)).inside in omega arith

  pub length_fits : Fits w32 x.length
  length_fits = let b = broken_short s (sym e ∙ f) in omega arith

-- the text from a place on
pub rest_short : (s : List ℕ) (start : ℕ) → length s ≤ most_text → length (between s start (length s)) ≤ most_text
rest_short s start h = let a = length-take (length s - start) (drop start s) in omega arith

pub loads_rest : (s : List ℕ) (start nc nm np : ℕ) {c m : List (List ℕ)} {p : List ℕ} → length s ≤ most_text → {t : Result Unit Broken} → t ≡ check_of s → t ≡ Ok tt → {r : Result Loaded LoadError} →
    Left r (lines (between s start (length s))) nc nm np c m p → Leaving r s (lines (drop start s)) nc nm np c m p
loads_rest s start nc nm np {c} {m} {p} h e f {r} k =
    let k₁ : Left r (lines (drop start s)) nc nm np c m p = rw (take_rest s start) at k in
    loads_lines s (lines (drop start s)) nc nm np h e f k₁

pub ruleset answering = (loads_too_long, loads_not_utf8, loads_rest, place_fits, length_fits, rest_short, rules)

-- `parse`
module _ (s : List ℕ) {start : ℕ} (e : start ≡ after_marks s) where
  pub marks_inside : start ≤ length s
  marks_inside = let i = run_inside (eqb 0xFEFF) s in omega arith

  pub marks_dropped : (nc nm np : ℕ) {r : Result Loaded LoadError} {c m : List (List ℕ)} {p : List ℕ} → Leaving r s (lines (drop start s)) nc nm np c m p → Leaving r s (lines_parse s) nc nm np c m p
  marks_dropped nc nm np k = rw e at k

pub ruleset marking = (marks_inside, marks_dropped, rules)
