-- The row of a token, and the plan of a name. Assumes nothing.
use Rattle.std.specs.Prelude.{Result, Ok, Err}
use mathlib.Core.Path.{◌≡◌, refl, sym, ◌∙◌, ap}
use mathlib.Core.List.{List, ◌++◌, append_assoc}
use Prim.Native.Nat.{ℕ, ◌+◌, ◌*◌, ◌≤◌, ◌<◌}
use native.Mathlib.Omega.{arith}
use lib.ListN.{length}
use mir.Val.{Fits}
use mir.Syntax.{w32, w64}
use borrow.Author.Rules.{rules}
use Rattle.ground.specs.Put.{put}
use Rattle.ground.proofs.PutLaws.{length_put, put_put, put_nothing}
use Rattle.tree_rule.specs.declared.TreeCounts.{TreeCounts}
use Rattle.tree_rule.specs.Words.{word_at, word_bytes}
use Rattle.tree_rule.specs.Files.{tokens_start, bytes_start, three_words}
use Rattle.tree_rule.proofs.WordLaws.{bytes_length}
use Rattle.tree_rule.proofs.ReadWritten.{two_length, three_length}
use Rattle.apply_plans.specs.declared.plan.Plan.{Plan}
use Rattle.apply_plans.specs.declared.plan.Plan.TheVariants as plan
use Rattle.apply_plans.specs.Inner.Entries.{entry_at}
use Rattle.apply_plans.specs.Inner.Plan.{added, display_by, row_by, entry_by}
use Rattle.apply_plans.specs.Inner.Put.{NameReady, NamePut, NoRow, NamePutBy, PutReady, PlanPut, PutBy}
use Rattle.table_pool.specs.declared.write.NoRoom.{NoRoom}

-- one number more behind what was put
pub word_more : (d : List ℕ) (at : ℕ) (a : List ℕ) (x n : ℕ) → length a ≡ n → at + n ≤ length d →
    put (put d at a) (at + n) (word_bytes x) ≡ put d at (a ++ word_bytes x)
word_more d at a x n e h = rw (← e) (put_put d at a (word_bytes x) (omega arith))

pub three_put : (d : List ℕ) (at : ℕ) → at + 12 ≤ length d → (x y z : ℕ) →
    put (put (put d at (word_bytes x)) (at + 4) (word_bytes y)) (at + 8) (word_bytes z) ≡ put d at (three_words x y z)
three_put d at h x y z =
    rw (
      word_more d at (word_bytes x) y 4 (bytes_length x) (omega arith),
      word_more d at (word_bytes x ++ word_bytes y) z 8 (two_length x y) (omega arith),
      append_assoc (word_bytes x) (word_bytes y) (word_bytes z),
    )

-- The row.
pub row_put : (d : List ℕ) (at : ℕ) → at + 12 ≤ length d → (f : List ℕ) (z : ℕ) {x y : ℕ} → x ≡ word_at f at → y ≡ word_at f (at + 4) →
    {a b e : List ℕ} → a ≡ put d at (word_bytes x) → b ≡ put a (at + 4) (word_bytes y) → e ≡ put b (at + 8) (word_bytes z) →
    e ≡ put d at (three_words (word_at f at) (word_at f (at + 4)) z)
row_put d at h f z {x} {y} i j {a} {b} {e} m n o =
    let all : e ≡ put (put (put d at (word_bytes x)) (at + 4) (word_bytes y)) (at + 8) (word_bytes z) = rw (← m, ← n) o in
    all ∙ three_put d at h x y z ∙ rw (← i, ← j)

pub ruleset token_rows = (row_put, rules)

-- The plan of a name.
module _ (c : TreeCounts) (f : List ℕ) (at names : ℕ) (out : List ℕ) (k : NameReady c f at names out) {s : ℕ} (e : s ≡ bytes_start c) where
  pub names_fit : Fits w64 (8 * names)
  names_fit = omega (arith, k.rows, k.most)

  pub place_fits : Fits w64 (s + 8 * names)
  place_fits = omega (arith, k.rows, k.most)

  pub place_more_fits : Fits w64 (s + 8 * names + 8)
  place_more_fits = omega (arith, k.rows, k.most)

  pub name_none : length out < s + 8 * names + 8 → NoRow c (names + 1) out
  name_none h = record { over = omega arith }

  module _ (h : s + 8 * names + 8 ≤ length out) where
    pub number_fits : Fits w32 names
    number_fits = omega (arith, k.most)

    pub number_more_fits : Fits w32 (c.names + names)
    number_more_fits = omega (arith, k.most)

    pub more_fits : Fits w64 (names + 1)
    more_fits = omega (arith, k.most)

    pub row_file : at + 12 ≤ length f
    row_file = k.file

    pub row_room : at + 12 ≤ length out
    row_room = omega (arith, k.before)

    abbrev row : List ℕ
    row = three_words (word_at f at) (word_at f (at + 4)) (c.names + names)

    row_size : length (put out at row) ≡ length out
    row_size = length_put out at row (omega (arith, k.before, three_length (word_at f at) (word_at f (at + 4)) (c.names + names)))

    module _ {b : List ℕ} (g : b ≡ put out at row) where
      row_long : length b ≡ length out
      row_long = ap length g ∙ row_size

      pub first_room : s + 8 * names + 4 ≤ length b
      first_room = omega (arith, row_long)

      pub second_room : (x : ℕ) {d : List ℕ} → d ≡ put b (s + 8 * names) (word_bytes x) → s + 8 * names + 4 + 4 ≤ length d
      second_room x {d} i =
          let z : length d ≡ length b = ap length i ∙ length_put b (s + 8 * names) (word_bytes x) (omega (arith, bytes_length x, row_long)) in
          omega (arith, row_long)

      pub name_put : (x y : ℕ) {d : List ℕ} → d ≡ put b (s + 8 * names) (word_bytes x) → {n : List ℕ} → n ≡ put d (s + 8 * names + 4) (word_bytes y) →
          NamePut (names + 1) c f at x y names out n
      name_put x y {d} i {n} j =
          let all : n ≡ put (put b (s + 8 * names) (word_bytes x)) (s + 8 * names + 4) (word_bytes y) = rw (← i) j in
          let both : n ≡ put b (s + 8 * names) (word_bytes x ++ word_bytes y) =
          all ∙ word_more b (s + 8 * names) (word_bytes x) y 4 (bytes_length x) (omega (arith, row_long)) in
          record {
            count = refl;
            room = omega arith;
            is = both ∙ ap (λ v. put v (s + 8 * names) (word_bytes x ++ word_bytes y)) g ∙ ap (λ v. put (put out at row) (v + 8 * names) (word_bytes x ++ word_bytes y)) e;
          }

pub ruleset name_planning =
    (names_fit, place_fits, place_more_fits, name_none, number_fits, number_more_fits, more_fits, row_file, row_room, first_room, second_room, name_put, rules)

-- The row of a token by its plan.
module _ (c : TreeCounts) (f : List ℕ) (token : ℕ) (p : Plan) (names : ℕ) (out : List ℕ) (k : PutReady c f token p names out) {s : ℕ} (e : s ≡ tokens_start c) where
  pub rows_fit : Fits w64 (12 * token)
  rows_fit = omega (arith, k.inside, k.rows, k.most)

  pub row_fits : Fits w64 (s + 12 * token)
  row_fits = omega (arith, k.inside, k.rows, k.most)

  pub shown_fits : Fits w64 (s + 12 * token + 8)
  shown_fits = omega (arith, k.inside, k.rows, k.most)

  pub shown_inside : s + 12 * token + 8 + 4 ≤ length f
  shown_inside = omega (arith, k.inside, k.formed.size)

  pub there_file : s + 12 * token + 12 ≤ length f
  there_file = omega (arith, k.inside, k.formed.size)

  pub there_out : s + 12 * token + 12 ≤ length out
  there_out = omega (arith, k.inside, k.rows)

  pub name_ready : NameReady c f (s + 12 * token) names out
  name_ready = record { file = there_file; before = omega (arith, k.inside); rows = k.rows; most = k.most }

  -- a token that adds no name
  plain : (n : ℕ) → added p ≡ 0 → entry_by p ≡ entry_by plan.Stays → n ≡ display_by p (c.names + names) (word_at f (tokens_start c + 12 * token + 8)) →
      {new : List ℕ} → new ≡ put out (s + 12 * token) (three_words (word_at f (s + 12 * token)) (word_at f (s + 12 * token + 4)) n) → PlanPut names c f token p names out new
  plain n a b d {new} g =
      let z : names + added p ≡ names = omega (arith, a) in
      record {
        count = sym z;
        room = rw z k.rows;
        is = g ∙ ap (λ v. put out (v + 12 * token) (three_words (word_at f (v + 12 * token)) (word_at f (v + 12 * token + 4)) n)) e
            ∙ ap (λ v. put out (tokens_start c + 12 * token) (three_words (word_at f (tokens_start c + 12 * token)) (word_at f (tokens_start c + 12 * token + 4)) v)) d
            ∙ sym (put_nothing (put out (tokens_start c + 12 * token) (row_by p (c.names + names) f (tokens_start c + 12 * token))) (entry_at c names))
            ∙ ap (put (put out (tokens_start c + 12 * token) (row_by p (c.names + names) f (tokens_start c + 12 * token))) (entry_at c names)) (sym b);
      }

  pub put_stays : p ≡ plan.Stays → {n : ℕ} → n ≡ word_at f (s + 12 * token + 8) →
      {new : List ℕ} → new ≡ put out (s + 12 * token) (three_words (word_at f (s + 12 * token)) (word_at f (s + 12 * token + 4)) n) → PlanPut names c f token p names out new
  put_stays g {n} h = plain n (rw g) (rw g) (h ∙ ap (λ v. word_at f (v + 12 * token + 8)) e ∙ rw g)

  pub put_line : {n : ℕ} → p ≡ plan.Line n →
      {new : List ℕ} → new ≡ put out (s + 12 * token) (three_words (word_at f (s + 12 * token)) (word_at f (s + 12 * token + 4)) n) → PlanPut names c f token p names out new
  put_line {n} g = plain n (rw g) (rw g) (rw g)

  -- a token that adds one
  module _ (x y : ℕ) (a : added p ≡ 1) (b : entry_by p ≡ word_bytes x ++ word_bytes y)
      (d : display_by p (c.names + names) (word_at f (tokens_start c + 12 * token + 8)) ≡ c.names + names) where
    adds : (r : Result ℕ NoRoom) (new : List ℕ) → NamePutBy r c f (s + 12 * token) x y names out new → PutBy r c f token p names out new
    adds (Ok more) new w = record {
      count = w.count ∙ ap (λ n. names + n) (sym a);
      room = rw a w.room;
      is = w.is
          ∙ ap (λ v. put (put out (v + 12 * token) (three_words (word_at f (v + 12 * token)) (word_at f (v + 12 * token + 4)) (c.names + names))) (entry_at c names) (word_bytes x ++ word_bytes y)) e
          ∙ ap (λ v. put (put out (tokens_start c + 12 * token) (three_words (word_at f (tokens_start c + 12 * token)) (word_at f (tokens_start c + 12 * token + 4)) v)) (entry_at c names)
          (word_bytes x ++ word_bytes y)) (sym d)
          ∙ ap (put (put out (tokens_start c + 12 * token) (row_by p (c.names + names) f (tokens_start c + 12 * token))) (entry_at c names)) (sym b);
    }
    adds (Err _) new w = rw a w

  pub put_text : {place size : ℕ} → p ≡ plan.Text place size → (r : Result ℕ NoRoom) (new : List ℕ) →
      NamePutBy r c f (s + 12 * token) (place + 1) size names out new → PutBy r c f token p names out new
  put_text {place} {size} g = adds (place + 1) size (rw g) (rw g) (rw g)

  pub put_shown : {name : ℕ} → p ≡ plan.Shown name → (r : Result ℕ NoRoom) (new : List ℕ) →
      NamePutBy r c f (s + 12 * token) 0 name names out new → PutBy r c f token p names out new
  put_shown {name} g = adds 0 name (rw g) (rw g) (rw g)

  pub place_low : {place size : ℕ} → p ≡ plan.Text place size → Fits w32 (place + 1)
  place_low {place} {size} g = let z : (place < 4294967295) × (size < 4294967296) = rw g at k.low in let y = z.0 in omega arith

pub ruleset plan_putting =
    (rows_fit, row_fits, shown_fits, shown_inside, there_file, there_out, name_ready, put_stays, put_line, put_text, put_shown, place_low, rules)
