-- All class lines, one after the other. Assumes nothing.
use Rattle.std.specs.Prelude.{Option, Some, None, Result, Ok, Err}
use mathlib.Core.Path.{◌≡◌, refl, sym, ◌∙◌, ap}
use mathlib.Core.Bool.{Bool, true}
use mathlib.Core.List.{List, [], ◌∷◌, ◌++◌, append_assoc, append-nil}
use Prim.Native.Nat.{ℕ, ◌+◌, ◌-◌, ◌≤◌, ◌<◌}
use native.Mathlib.Nat.{add-zero}
use native.Mathlib.Omega.{arith}
use lib.ListN.{length, get_or, set, drop, length-append}
use lib.Seq.{get_or-drop}
use mir.Val.{Fits}
use mir.Syntax.{w64}
use borrow.Author.Rules.{rules}
use Rattle.ground.specs.Put.{put, between}
use Rattle.ground.proofs.PutLaws.{put_nothing, put_set, length_put}
use Rattle.text_places.specs.Lines.{lines, Taken}
use Rattle.text_places.specs.Inner.NextLine.{next_line, NextStart, taken_line}
use Rattle.text_places.proofs.LineLaws.{line_split}
use Rattle.text_places.proofs.Taking.{line_taken, none_taken, end_taken, line_order, line_ends, line_falls}
use Rattle.text_places.specs.Spans.{Lies}
use Rattle.line.specs.Kinds.{line_of}
use Rattle.ground.specs.Join.{join}
use Rattle.table_rows.specs.Classes.{Pair}
use Rattle.table_pool.specs.Inner.Wrote.{Written, no_room}
use Rattle.table_pool.proofs.Writes.{written_length, wrote_then, wrote_as}
use Rattle.tables.specs.Back.{read_back}
use Rattle.load_raw_types.specs.Inner.Behind.{Below}
use Rattle.load_raw_types.proofs.Indexing.{below_none, below_class, read_back_class}
use Rattle.load_rule.specs.Classes.{class_in, classes_of, class_text, class_pool, class_row, class_rows}
use Rattle.ground.proofs.Joins.{join_more, join_append}
use Rattle.load_rule.proofs.Appended.{rows_length, rows_more}
use Rattle.load_classes.specs.declared.names.ClassNames.{ClassNames}
use Rattle.load_classes.specs.Inner.Names.{class_named, NamedAt, NamedBy, opens_no_class}
use Rattle.load_classes.specs.Inner.Entries.{EnteredClass, EnteredClassBy}
use Rattle.load_classes.specs.Inner.Written.{ClassesAt}
use Rattle.table_rows.specs.Rows.{most_classes, most_pool}
use Rattle.load_rule.specs.Laid.{rows_from}
use Rattle.load_classes.proofs.Quick.{start_no_class}
use Rattle.table_pool.specs.declared.write.NoRoom.{NoRoom}
use Rattle.text_places.specs.declared.lines.NextLine.{NextLine}

-- the classes `done` are written
pub record Rows (done : List Pair) (c : List (List ℕ)) (p : List ℕ) (count q : ℕ)
    (c₁ : List (List ℕ)) (p₁ : List ℕ) : Type 0 where
  pub counted : count ≡ length done
  pub room : count ≤ length c
  pub rows : c₁ ≡ put c 0 (class_rows 0 done)
  pub size : length c₁ ≡ length c
  pub texts : Written q p 0 (class_pool done) p₁
  pub below : Below (class_rows 0 done) p₁ q
  pub back : read_back (class_rows 0 done) p₁ ≡ done

rows_none : (c : List (List ℕ)) (p : List ℕ) → Rows [] c p 0 0 c p
unfolding rows_from join
rows_none c p = record {
  counted = refl;
  room = omega arith;
  rows = sym (put_nothing c 0);
  size = refl;
  texts = record { past = refl; room = omega arith; is = sym (put_nothing p 0) };
  below = below_none p 0 (omega arith);
  back = refl;
}

-- one class more
module _ {done : List Pair} {c : List (List ℕ)} {p : List ℕ} {count at : ℕ} {c₁ : List (List ℕ)} {p₁ : List ℕ} (w : Rows done c p count at c₁ p₁) where
  long : count ≡ 0 + length (class_rows 0 done)
  long = let a = w.counted in let b = rows_length class_row class_text 0 done in omega arith

  module _ (k : Pair) {q : ℕ} {c₂ : List (List ℕ)} {p₂ : List ℕ} (e : EnteredClass q k count at c₁ p₁ c₂ p₂) where
    abbrev wider : List (List ℕ)
    wider = class_rows 0 done ++ (class_row at k ∷ [])

    all_rows : wider ≡ class_rows 0 (done ++ (k ∷ []))
    all_rows = ap (λ n. class_rows 0 done ++ (class_row n k ∷ [])) w.texts.past ∙ sym (rows_more class_row class_text 0 done k)

    one_more : count < length c → Rows (done ++ (k ∷ [])) c p (count + 1) q c₂ p₂
    one_more h =
        let n = length-append done (k ∷ []) in
        let o = w.counted in
        let m = long in
        let put_there : c₂ ≡ put c 0 wider =
        e.row ∙ ap (λ x. set x count (class_row at k)) w.rows ∙ ap (λ x. set (put c 0 (class_rows 0 done)) x (class_row at k)) m
        ∙ put_set c 0 (class_rows 0 done) (class_row at k) (omega arith) in
        let wide : length wider ≡ length (class_rows 0 done) + 1 = length-append (class_rows 0 done) (class_row at k ∷ []) in
        let there : Below wider p₂ q = below_class k.raw k.display e.written w.below in
        let back : read_back wider p₂ ≡ done ++ (k ∷ []) = read_back_class k.raw k.display e.written w.below ∙ ap (λ x. x ++ (k ∷ [])) w.back in
        record {
          counted = omega arith;
          room = omega arith;
          rows = put_there ∙ ap (put c 0) all_rows;
          size = ap length put_there ∙ length_put c 0 wider (omega arith);
          texts = wrote_as (Ok q) p 0 p₂ (sym (join_more class_text done k)) (wrote_then (Ok q) (class_text k) p₂ w.texts e.written);
          below = rw (← all_rows) there;
          back = rw (← all_rows) back;
        }

-- what is written up to the place `at` of the text, and what is left
pub record Writing (s : List ℕ) (c : List (List ℕ)) (p : List ℕ) (at count q : ℕ)
    (c₁ : List (List ℕ)) (p₁ : List ℕ) : Type 0 where
  pub most : length c ≤ most_classes
  pub same_rows : length c₁ ≡ length c
  pub same_pool : length p₁ ≡ length p
  pub done : List Pair
  pub split : classes_of (lines s) ≡ done ++ classes_of (lines (drop at s))
  pub written : Rows done c p count q c₁ p₁

pub writing_starts : (s : List ℕ) (c : List (List ℕ)) (p : List ℕ) → length c ≤ most_classes → Writing s c p 0 0 0 c p
writing_starts s c p h = record { most = h; same_rows = refl; same_pool = refl; done = []; split = refl; written = rows_none c p }

-- all of them
finish : {done : List Pair} {ls : List (List ℕ)} {c : List (List ℕ)} {p : List ℕ} {count q : ℕ} {c₁ : List (List ℕ)} {p₁ : List ℕ} → done ≡ classes_of ls →
    Rows done c p count q c₁ p₁ → ClassesAt count q ls c p c₁ p₁
finish {done} {ls} {c} {p} {count} {q} {c₁} {p₁} e w =
    let v : Rows (classes_of ls) c p count q c₁ p₁ = rw (← e) w in
    let n = v.counted in
    let o = v.room in
    record { counted = n; room = omega arith; rows = v.rows; texts = v.texts; below = v.below; back = v.back }

named_told : (t : Option ClassNames) (l : List ℕ) {ns : ClassNames} → NamedBy t l → t ≡ Some ns → NamedAt l ns
named_told t l w e = rw e at w

module _ (t : Option ClassNames) (l : List ℕ) {ns : ClassNames} (w : NamedBy t l) (e : t ≡ Some ns) where
  pub display_there : Lies ns.display (length l)
  display_there = (named_told t l w e).display_lies

  pub raw_there : Lies ns.raw (length l)
  raw_there = (named_told t l w e).raw_lies

other_told : (t : Option ClassNames) (l : List ℕ) → NamedBy t l → t ≡ None → class_in l (line_of l) ≡ []
other_told t l w e = rw e at w

module _ {s : List ℕ} {c : List (List ℕ)} {p : List ℕ} {at count q : ℕ} {c₁ : List (List ℕ)} {p₁ : List ℕ} (w : Writing s c p at count q c₁ p₁) where
  ended : lines (drop at s) ≡ [] → ClassesAt count q (lines s) c p c₁ p₁
  unfolding classes_of
  ended e = finish (sym (w.split ∙ ap (λ ls. w.done ++ classes_of ls) e ∙ append-nil w.done)) w.written

  pub writing_ends : length s ≤ at → ClassesAt count q (lines s) c p c₁ p₁
  writing_ends h = ended (end_taken s at h)

  pub writing_pool : length p ≤ most_pool → length p₁ ≤ most_pool
  writing_pool h = let e = written_length w.written.texts in omega arith

  pub writing_fits : length c ≤ most_classes → Fits w64 (count + 1)
  writing_fits h = let n = w.written.room in omega arith

  module _ {t : Option NextLine} (x : t ≡ next_line s at) where
    pub writing_none : t ≡ None → ClassesAt count q (lines s) c p c₁ p₁
    writing_none y = ended (none_taken s at x y)

    module _ {it : NextLine} (y : t ≡ Some it) where
      taken : Taken s at it.start it.«end» it.next
      taken = line_taken s at x y

      split_here : classes_of (lines s) ≡ w.done ++ (class_in (between s it.start it.«end») (line_of (between s it.start it.«end»)) ++ classes_of (lines (drop it.next s)))
      unfolding classes_of
      split_here = w.split ∙ ap (λ ls. w.done ++ classes_of ls) taken.split

      module _ (k : Option ClassNames) (z : NamedBy k (between s it.start it.«end»)) where
        pub writing_other : k ≡ None → Writing s c p it.next count q c₁ p₁
        writing_other f = record {
          most = w.most;
          same_rows = w.same_rows;
          same_pool = w.same_pool;
          done = w.done;
          split = split_here ∙ ap (λ cs. w.done ++ (cs ++ classes_of (lines (drop it.next s)))) (other_told k (between s it.start it.«end») z f);
          written = w.written;
        }

        module _ {ns : ClassNames} (f : k ≡ Some ns) where
          there : NamedAt (between s it.start it.«end») ns
          there = named_told k (between s it.start it.«end») z f

          abbrev class : Pair
          class = class_named (between s it.start it.«end») ns

          split_class : classes_of (lines s) ≡ (w.done ++ (class ∷ [])) ++ classes_of (lines (drop it.next s))
          split_class = split_here ∙ ap (λ cs. w.done ++ (cs ++ classes_of (lines (drop it.next s)))) there.is ∙ sym (append_assoc w.done (class ∷ []) (classes_of (lines (drop it.next s))))

          pub writing_few : length c₁ ≤ count → length c < length (classes_of (lines s))
          writing_few h =
              let l = ap length split_class in
              let m = length-append (w.done ++ (class ∷ [])) (classes_of (lines (drop it.next s))) in
              let o = length-append w.done (class ∷ []) in
              let v = w.written.counted in
              let u = w.written.size in
              omega arith

          module _ (r : Result ℕ NoRoom) (c₂ : List (List ℕ)) (p₂ : List ℕ) (g : EnteredClassBy r class count q c₁ p₁ c₂ p₂) where
            pub writing_short : r ≡ Err no_room → length p < length (class_pool (classes_of (lines s)))
            writing_short h =
                let short : length p₁ < q + length (class_text class) = rw h at g in
                let l = ap (λ cs. length (class_pool cs)) split_class in
                let m = ap length (join_append class_text (w.done ++ (class ∷ [])) (classes_of (lines (drop it.next s)))) in
                let o = ap length (join_more class_text w.done class) in
                let u = length-append (class_pool (w.done ++ (class ∷ []))) (class_pool (classes_of (lines (drop it.next s)))) in
                let v = length-append (class_pool w.done) (class_text class) in
                let x = written_length w.written.texts in
                let y = w.written.texts.past in
                omega arith

            pub writing_more : {q₂ : ℕ} → r ≡ Ok q₂ → count < length c₁ → Writing s c p it.next (count + 1) q₂ c₂ p₂
            writing_more {q₂} h l =
                let entered : EnteredClass q₂ class count q c₁ p₁ c₂ p₂ = rw h at g in
                let u = w.same_rows in
                let v = w.most in
                let more = one_more w.written class entered (omega arith) in
                record {
                  most = w.most;
                  same_rows = more.size;
                  same_pool = written_length more.texts;
                  done = w.done ++ (class ∷ []);
                  split = split_class;
                  written = more;
                }

  -- A line that shows by its first byte that it is no class line.
  module _ {n : ℕ} (x : NextStart s at n) where
    skipped : Taken s at at x.«end» n
    skipped = line_split s at x.line

    pub skip_falls : at < length s → length s - n < length s - at
    skip_falls h = let t = skipped in omega (arith, t.past, t.inside)

    pub writing_skips : {b : Bool} → b ≡ opens_no_class (get_or s at 0) → b ≡ true → Writing s c p n count q c₁ p₁
    unfolding classes_of
    writing_skips f g = record {
      most = w.most;
      same_rows = w.same_rows;
      same_pool = w.same_pool;
      done = w.done;
      split =
          w.split ∙ ap (λ ls. w.done ++ classes_of ls) skipped.split
          ∙ ap (λ cs. w.done ++ (cs ++ classes_of (lines (drop n s)))) (start_no_class (drop at s) (x.«end» - at) told);
      written = w.written;
    }
      where
        told : opens_no_class (get_or (drop at s) 0 0) ≡ true
        told = ap opens_no_class (get_or-drop at s 0 0 ∙ ap (λ i. get_or s i 0) (add-zero at)) ∙ sym f ∙ g

pub ruleset writing =
    (skip_falls, writing_skips, writing_starts, writing_ends, writing_pool, writing_fits, writing_none, line_order, line_ends, line_falls, writing_other, display_there, raw_there, writing_few, writing_short, writing_more, rules)
