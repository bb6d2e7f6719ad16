-- Lines: the readers of one line, and that the lines of a text are found one after the other. Assumes nothing.
use Rattle.std.specs.Prelude.{Some, None}
use mathlib.Core.Path.{◌≡◌, refl, sym, ◌∙◌, ap}
use mathlib.Core.Bool.{Bool, true, false}
use mathlib.Core.List.{List, [], ◌∷◌, ◌++◌}
use Prim.Native.Nat.{ℕ, suc, ◌+◌, ◌-◌, ◌^◌, ◌≤◌, ◌<◌}
use native.Mathlib.Nat.{add-zero, add-suc, suc-add, add_assoc}
use native.Mathlib.Numerals.{add-one}
use native.Mathlib.Omega.{arith}
use lib.Dec.{eqb, ltb, eqb-suc-zero, leb-suc-suc}
use lib.ListN.{length, get_or, take, drop, length-take, length-drop, drop_of_length-le}
use lib.Seq.{drop-cons, take-suc, take-length, take-take, drop-drop}
use mir.Val.{Fits}
use mir.Syntax.{w64}
use borrow.Author.Tests.{eq-eqb, ne_eqb, lt-ltb, le-ltb}
use borrow.Author.Rules.{rules}
use mathlib.Core.Logic.{◌⊎◌, inl, inr}
use Rattle.ground.proofs.Answered.{some_part}
use Rattle.ground.specs.Choice.{pick, both}
use Rattle.ground.specs.Put.{between}
use Rattle.ground.proofs.Cases.{le_or_lt}
use Rattle.text_places.specs.Lines.{onto, raw_lines, cr_end, lines, Taken}
use Rattle.text_places.specs.Inner.NextLine.{NextStart, to_lf, line_from, next_line, taken_line}
use Rattle.text_places.specs.declared.lines.NextLine.{NextLine}

pub to_lf_le : (l : List ℕ) → to_lf l ≤ length l
unfolding to_lf
to_lf_le [] = omega arith
to_lf_le (b ∷ l) = go (eqb b 0x0A) (to_lf_le l)
  where
    go : (t : Bool) → to_lf l ≤ length l → pick t 0 (suc (to_lf l)) ≤ suc (length l)
    go true h = omega arith
    go false h = omega arith

pub cr_end_le : (l : List ℕ) → cr_end l ≤ length l
unfolding cr_end
cr_end_le [] = omega arith
cr_end_le (b ∷ l) = go (both (eqb (cr_end l) 0) (eqb b 0x0D)) (cr_end_le l)
  where
    go : (t : Bool) → cr_end l ≤ length l → pick t 0 (suc (cr_end l)) ≤ suc (length l)
    go true h = omega arith
    go false h = omega arith

-- The search for LF: the place found from here on is the place found of the whole.
pub record ToLf (s : List ℕ) («from» at : ℕ) : Type 0 where
  pub past : «from» ≤ at
  pub inside : at ≤ length s
  pub decides : at + to_lf (drop at s) ≡ «from» + to_lf (drop «from» s)

pub lf_starts : (s : List ℕ) («from» : ℕ) → «from» ≤ length s → ToLf s «from» «from»
lf_starts s f h = record { past = omega arith; inside = h; decides = refl }

module _ {s : List ℕ} {«from» at : ℕ} (k : ToLf s «from» at) where
  pub lf_none : length s ≤ at → at ≡ «from» + to_lf (drop «from» s)
  unfolding to_lf
  lf_none h = sym (add-zero at) ∙ (rw (drop_of_length-le s h) at k.decides)

  module _ (h : at < length s) where
    pub lf_found : get_or s at 0 ≡ 0x0A → at ≡ «from» + to_lf (drop «from» s)
    unfolding to_lf
    lf_found e = sym (add-zero at) ∙ (rw (drop-cons s at 0 h, eq-eqb (get_or s at 0) 0x0A e) at k.decides)

    pub lf_more : (get_or s at 0 ≡ 0x0A → ⊥) → ToLf s «from» (at + 1)
    unfolding to_lf
    lf_more e = record {
      past = let p = k.past in omega arith;
      inside = omega arith;
      decides = rw add-one (rw (suc-add, ← add-suc) (rw (drop-cons s at 0 h, ne_eqb (get_or s at 0) 0x0A e) at k.decides));
    }

-- where it stands first or second
module _ (s : List ℕ) («from» : ℕ) (h : 1 < length s - «from») where
  pub lf_first : get_or s «from» 0 ≡ 0x0A → «from» ≡ «from» + to_lf (drop «from» s)
  lf_first e = lf_found (lf_starts s «from» (omega arith)) (omega arith) e

  pub lf_second : (get_or s «from» 0 ≡ 0x0A → ⊥) → get_or s («from» + 1) 0 ≡ 0x0A → «from» + 1 ≡ «from» + to_lf (drop «from» s)
  lf_second n e = lf_found (lf_more (lf_starts s «from» (omega arith)) (omega arith) n) (omega arith) e

pub ruleset to_lf_lem = (lf_starts, lf_none, lf_found, lf_more, lf_first, lf_second, rules)

-- The CR at a line's end, from its last byte backwards.
cr_last : (l : List ℕ) (b : ℕ) → cr_end (l ++ (b ∷ [])) ≡ pick (eqb b 0x0D) (cr_end l) (suc (length l))
unfolding cr_end
cr_last [] b = refl
cr_last (x ∷ l) b = rw (cr_last l b) (go (eqb b 0x0D))
  where
    go : (t : Bool) →
        pick (both (eqb (pick t (cr_end l) (suc (length l))) 0) (eqb x 0x0D)) 0 (suc (pick t (cr_end l) (suc (length l))))
        ≡ pick t (pick (both (eqb (cr_end l) 0) (eqb x 0x0D)) 0 (suc (cr_end l))) (suc (suc (length l)))
    go true = refl
    go false = rw (eqb-suc-zero (length l))

pub record CrEnd (l : List ℕ) («end» : ℕ) : Type 0 where
  pub inside : «end» ≤ length l
  pub decides : cr_end (take «end» l) ≡ cr_end l

pub cr_starts : (l : List ℕ) → CrEnd l (length l)
cr_starts l = record { inside = omega arith; decides = rw (take-length l) }

module _ {l : List ℕ} {«end» : ℕ} (k : CrEnd l «end») where
  pub cr_all : «end» ≤ 0 → «end» ≡ cr_end l
  unfolding cr_end
  cr_all h = let z : «end» ≡ 0 = omega arith in z ∙ (rw z at k.decides)

  module _ (h : 0 < «end») where
    pub cr_inside : «end» - 1 < length l
    cr_inside = let i = k.inside in omega arith

    by_last : cr_end l ≡ pick (eqb (get_or l («end» - 1) 0) 0x0D) (cr_end (take («end» - 1) l)) «end»
    by_last =
        let up : «end» ≡ suc («end» - 1) = omega arith in
        let size : suc (length (take («end» - 1) l)) ≡ «end» = rw length-take (let i = k.inside in omega arith) in
        let cut : take «end» l ≡ take («end» - 1) l ++ (get_or l («end» - 1) 0 ∷ []) = ap (λ n. take n l) up ∙ take-suc l («end» - 1) 0 cr_inside in
        sym k.decides ∙ ap cr_end cut ∙ cr_last (take («end» - 1) l) (get_or l («end» - 1) 0)
        ∙ ap (λ n. pick (eqb (get_or l («end» - 1) 0) 0x0D) (cr_end (take («end» - 1) l)) n) size

    pub cr_other : (get_or l («end» - 1) 0 ≡ 0x0D → ⊥) → «end» ≡ cr_end l
    cr_other e = sym (rw (ne_eqb (get_or l («end» - 1) 0) 0x0D e) at by_last)

    pub cr_more : get_or l («end» - 1) 0 ≡ 0x0D → CrEnd l («end» - 1)
    cr_more e = record {
      inside = let i = k.inside in omega arith;
      decides = sym (rw (eq-eqb (get_or l («end» - 1) 0) 0x0D e) at by_last);
    }

pub ruleset cr_ending = (cr_starts, cr_all, cr_other, cr_more, cr_inside, rules)

-- One line, from a place on.
line_at : (at : ℕ) (l : List ℕ) → 0 < length l →
    line_from at l ≡ Some (taken_line at (at + cr_end (take (to_lf l) l)) (at + to_lf l + pick (ltb (to_lf l) (length l)) 1 0))
line_at at [] h = absurd (omega arith)
line_at at (b ∷ l) h = refl

pub line_none : (s : List ℕ) (at : ℕ) → length s ≤ at → None ≡ next_line s at
line_none s at h = rw (drop_of_length-le s h)

module _ (s : List ℕ) (at : ℕ) {lf : ℕ} (e : lf ≡ at + to_lf (drop at s)) where
  pub lf_after : at ≤ lf
  lf_after = omega arith

  pub lf_inside : at < length s → lf ≤ length s
  lf_inside h = omega (arith, to_lf_le (drop at s), length-drop at s)

  module _ (h : at < length s) {n : ℕ} (f : n ≡ cr_end (between s at lf)) where
    size : lf - at ≡ to_lf (drop at s)
    size = omega arith

    answer : next_line s at ≡ Some (taken_line at (at + n) (lf + pick (ltb (to_lf (drop at s)) (length (drop at s))) 1 0))
    answer = line_at at (drop at s) (rw length-drop (omega arith)) ∙ rw (f, size, e)

    pub line_ends_in_lf : lf < length s → Some (taken_line at (at + n) (lf + 1)) ≡ next_line s at
    line_ends_in_lf i = sym (answer ∙ rw (lt-ltb (to_lf (drop at s)) (length (drop at s)) (rw length-drop (omega arith))))

    pub line_ends_text : length s ≤ lf → Some (taken_line at (at + n) lf) ≡ next_line s at
    line_ends_text i = sym (answer ∙ rw (le-ltb (to_lf (drop at s)) (length (drop at s)) (rw length-drop (omega arith)), add-zero))

    pub line_fits : length s < 2 ^ 64 → Fits w64 (at + n)
    line_fits b =
        let short : n ≤ to_lf (drop at s) = rw (f, size) (omega (arith, cr_end_le (take (to_lf (drop at s)) (drop at s)), length-take (to_lf (drop at s)) (drop at s))) in
        omega (arith, to_lf_le (drop at s), length-drop at s)

  module _ (h : at < length s) where
    pub start_in_lf : lf < length s → NextStart s at (lf + 1)
    start_in_lf i = record { «end» = at + cr_end (between s at lf); line = sym (line_ends_in_lf h refl i) }

    pub start_text : length s ≤ lf → NextStart s at lf
    start_text i = record { «end» = at + cr_end (between s at lf); line = sym (line_ends_text h refl i) }

pub ruleset next_starts = (lf_inside, start_in_lf, start_text, rules)

pub ruleset next_line_lem = (line_none, lf_after, lf_inside, line_ends_in_lf, line_ends_text, line_fits, rules)

-- The lines of a text are the line at its head and the lines of what that leaves.
leaves : List ℕ → ℕ
leaves l = to_lf l + pick (ltb (to_lf l) (length l)) 1 0

raw_split : (b : ℕ) (l : List ℕ) → raw_lines (b ∷ l) ≡ take (to_lf (b ∷ l)) (b ∷ l) ∷ raw_lines (drop (leaves (b ∷ l)) (b ∷ l))
unfolding raw_lines to_lf leaves
raw_split b [] = go (eqb b 0x0A)
  where
    go : (t : Bool) → pick t ([] ∷ []) ((b ∷ []) ∷ []) ≡ take (pick t 0 1) (b ∷ []) ∷ raw_lines (drop (pick t 0 1 + pick (ltb (pick t 0 1) 1) 1 0) (b ∷ []))
    go true = refl
    go false = refl
raw_split b (c ∷ l) = go (eqb b 0x0A) (raw_split c l)
  where
    m : List ℕ
    m = c ∷ l

    go : (t : Bool) → raw_lines m ≡ take (to_lf m) m ∷ raw_lines (drop (leaves m) m) →
        pick t ([] ∷ raw_lines m) (onto b (raw_lines m))
        ≡ take (pick t 0 (suc (to_lf m))) (b ∷ m) ∷ raw_lines (drop (pick t 0 (suc (to_lf m)) + pick (ltb (pick t 0 (suc (to_lf m))) (suc (length m))) 1 0) (b ∷ m))
    go true e = rw (lt-ltb 0 (suc (length m)) (omega arith))
    go false e = rw (e, leb-suc-suc (suc (to_lf m)) (length m), suc-add)

lines_split : (l : List ℕ) → 0 < length l → lines l ≡ take (cr_end (take (to_lf l) l)) l ∷ lines (drop (leaves l) l)
lines_split [] h = absurd (omega arith)
lines_split (b ∷ l) h =
    let whole : List ℕ = b ∷ l in
    let short : cr_end (take (to_lf whole) whole) ≤ to_lf whole =
    omega (arith, cr_end_le (take (to_lf whole) whole), length-take (to_lf whole) whole) in
    rw (raw_split b l) (ap (λ x. x ∷ lines (drop (leaves whole) whole)) (take-take (cr_end (take (to_lf whole) whole)) (to_lf whole) whole short))

to_lf_leaves : (l : List ℕ) → to_lf l ≤ leaves l
unfolding leaves
to_lf_leaves l = omega arith

leaves_some : (l : List ℕ) → 0 < length l → (0 < leaves l) × (leaves l ≤ length l)
unfolding leaves
leaves_some l h = go (le_or_lt (length l) (to_lf l))
  where
    go : (length l ≤ to_lf l) ⊎ (to_lf l < length l) → (0 < to_lf l + pick (ltb (to_lf l) (length l)) 1 0) × (to_lf l + pick (ltb (to_lf l) (length l)) 1 0 ≤ length l)
    go (inl p) = rw (le-ltb (to_lf l) (length l) p) (omega (arith, to_lf_le l))
    go (inr p) = rw (lt-ltb (to_lf l) (length l) p) (omega arith)

line_of : (s : List ℕ) (at start «end» next : ℕ) → 0 < length (drop at s) → at ≡ start →
    «end» ≡ at + cr_end (take (to_lf (drop at s)) (drop at s)) → next ≡ at + leaves (drop at s) → Taken s at start «end» next
line_of s at start «end» next some same ends goes =
    let f = leaves_some (drop at s) some in
    let d = length-drop at s in
    let c = cr_end_le (take (to_lf (drop at s)) (drop at s)) in
    let t = length-take (to_lf (drop at s)) (drop at s) in
    let size : «end» - at ≡ cr_end (take (to_lf (drop at s)) (drop at s)) = omega arith in
    let split : lines (drop at s) ≡ between s at «end» ∷ lines (drop next s) = rw (size, goes, ← drop-drop (leaves (drop at s)) at s) (lines_split (drop at s) some) in
    record {
      order = omega arith;
      ends = omega (arith, to_lf_leaves (drop at s));
      past = omega arith;
      inside = omega arith;
      split = split ∙ ap (λ k. between s k «end» ∷ lines (drop next s)) same;
    }

-- what an answer of the next line says of the lines of the text
pub line_split : (s : List ℕ) (at : ℕ) {start «end» next : ℕ} → next_line s at ≡ Some (taken_line start «end» next) → Taken s at start «end» next
unfolding leaves
line_split s at {start} {«end»} {next} e = go (le_or_lt (length s) at)
  where
    go : (length s ≤ at) ⊎ (at < length s) → Taken s at start «end» next
    go (inl h) = absurd (let n = line_none s at h in let z : ◌≡◌ {A = ℕ} 0 1 = cc in omega arith)
    go (inr h) =
        let some : 0 < length (drop at s) = rw length-drop (omega arith) in
        let same = sym (line_at at (drop at s) some) ∙ e in
        let starts = some_part (λ (r : NextLine). r.start) same in
        let ends = some_part (λ (r : NextLine). r.«end») same in
        let follows = some_part (λ (r : NextLine). r.next) same in
        line_of s at start «end» next some starts (sym ends) (rw (← add_assoc) (sym follows))
