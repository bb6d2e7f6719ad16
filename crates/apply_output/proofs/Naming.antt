-- The texts and the rows of the new names, one after the other. Assumes nothing.
use Rattle.std.specs.Prelude.{Result, Ok, Err}
use mathlib.Core.Path.{◌≡◌, refl, sym, ◌∙◌, ap}
use mathlib.Core.List.{List, ◌++◌, map}
use Prim.Native.Nat.{ℕ, ◌+◌, ◌*◌, ◌-◌, ◌≤◌, ◌<◌}
use native.Mathlib.Omega.{arith}
use lib.ListN.{length, take, drop, length-append}
use lib.Seq.{drop-drop}
use mir.Val.{Fits}
use mir.Syntax.{w64}
use borrow.Author.Rules.{rules}
use Rattle.ground.specs.Join.{join}
use Rattle.ground.specs.Put.{between}
use Rattle.ground.proofs.Parts.{between_length}
use Rattle.table_rows.specs.Rows.{text}
use Rattle.tree_rule.specs.declared.TreeCounts.{TreeCounts}
use Rattle.tree_rule.specs.Words.{word_at, list_from}
use Rattle.tree_rule.specs.Files.{tokens_start, names_start, bytes_start, text_at, name_row_bytes}
use Rattle.tree_rule.proofs.RowLaws.{list_length}
use Rattle.tree_rule.proofs.ReadWritten.{name_length}
use Rattle.apply_rule.specs.Applying.{name_rows}
use Rattle.apply_plans.specs.Inner.Entries.{entry_at, planned_text, planned_names}
use Rattle.apply_output.specs.Inner.NewName.{NameReady, NamePut, NameOver, NameBy}
use Rattle.apply_output.specs.Inner.Output.{Ready, output_from, texts_start, NamesReady, NamesBelow, OutputOver}
use Rattle.apply_output.proofs.Listing.{laid_length}
use Rattle.apply_output.proofs.Placing.{two, two_size, two_front, two_back, two_before, two_word, two_behind}
use Rattle.apply_output.proofs.Below.{texts_more, rows_more, texts_left, note_kept, entry_kept}
use Rattle.table_pool.specs.declared.write.NoRoom.{NoRoom}
use Rattle.table_pool.specs.Inner.Wrote.{no_room}

-- how long the output is
pub output_length : {index : List ℕ} {classes : List (List ℕ)} {pool : List ℕ} {c : TreeCounts} {f : List ℕ} {count : ℕ} {out : List ℕ} →
    Ready index classes pool c f count out →
    length (output_from classes pool c f count out) ≡ texts_start c count + length (join (planned_names classes pool c f out count))
output_length {index} {classes} {pool} {c} {f} {count} {out} k =
    let rows = between_length out (tokens_start c) (names_start c) (omega (arith, k.room)) in
    let all = laid_length c f (between out (tokens_start c) (names_start c)) (planned_names classes pool c f out count) k.formed.size
    (omega arith) in
    let many = list_length (planned_text classes pool c f out) 0 count in
    omega (arith, all, many)

-- The first names have their rows. In those of the others stands what stood there.
pub record Naming
    (index : List ℕ)
    (classes : List (List ℕ))
    (pool : List ℕ)
    (c : TreeCounts)
    (f : List ℕ)
    (count : ℕ)
    (old new : List ℕ)
    (name «end» : ℕ) : Type 0 where
  pub ready : NamesReady index classes pool c f count old
  pub inside : name ≤ count
  pub done : NamesBelow name classes pool c f count «end» old new
  pub first_left : (k : ℕ) → name ≤ k → k < count → word_at new (entry_at c k) ≡ word_at old (entry_at c k)
  pub second_left : (k : ℕ) → name ≤ k → k < count → word_at new (entry_at c k + 4) ≡ word_at old (entry_at c k + 4)

module _
    (index : List ℕ) (classes : List (List ℕ)) (pool : List ℕ) (c : TreeCounts) (f : List ℕ) (count : ℕ) (out : List ℕ)
    (k : NamesReady index classes pool c f count out) {s : ℕ} (e : s ≡ bytes_start c) where
  pub rows_fits : Fits w64 (8 * count)
  rows_fits = omega (arith, k.rows_room, k.ready.most)

  pub bytes_place_fits : Fits w64 (s + 8 * count)
  bytes_place_fits = omega (arith, k.rows_room, k.ready.most)

  pub texts_place_fits : Fits w64 (s + 8 * count + c.bytes)
  texts_place_fits = omega (arith, k.rows_room, k.ready.most)

  pub naming_starts : Naming index classes pool c f count out out 0 (s + 8 * count + c.bytes)
  unfolding list_from name_rows join
  naming_starts =
      let b : bytes_start c + 8 * 0 - bytes_start c ≡ 0 = omega arith in
      let d : texts_start c count - texts_start c count ≡ 0 = omega arith in
      rw e (record {
        ready = k;
        inside = omega arith;
        done = record {
          size = refl;
          past = omega arith;
          room = k.rows_room;
          rows = rw b;
          texts = rw d;
          before = refl;
          behind = refl;
        };
        first_left = λ i l h. refl;
        second_left = λ i l h. refl;
      })

module _
    {index : List ℕ} {classes : List (List ℕ)} {pool : List ℕ} {c : TreeCounts} {f : List ℕ} {count : ℕ} {old new : List ℕ}
    {name «end» : ℕ} (k : Naming index classes pool c f count old new name «end») where
  abbrev below : List (List ℕ)
  below = planned_names classes pool c f old name

  abbrev body : List ℕ
  body = planned_text classes pool c f old name

  pub naming_ends : count ≤ name → NamesBelow count classes pool c f count «end» old new
  naming_ends h =
      let z : name ≡ count = let i = k.inside in omega arith in
      rw z at k.done

  module _ (h : name < count) where
    first_same : word_at new (entry_at c name) ≡ word_at old (entry_at c name)
    first_same = k.first_left name (omega arith) h

    second_same : word_at new (entry_at c name + 4) ≡ word_at old (entry_at c name + 4)
    second_same = k.second_left name (omega arith) h

    pub naming_ready : {s : ℕ} → s ≡ bytes_start c → NameReady index classes pool c f (s + 8 * count) name «end» new
    naming_ready e = rw e (record {
      body = record {
        file = omega (arith, k.ready.ready.formed.size);
        indexed = k.ready.ready.indexed;
        notes = λ n l. note_kept c old new k.done.before classes pool (text_at c f n) n l (k.ready.ready.notes n l);
        plan = record {
          room = omega (arith, k.done.size, k.ready.rows_room);
          fits = rw (first_same, second_same) (entry_kept c old new k.done.before (word_at old (entry_at c name))
              (word_at old (entry_at c name + 4)) (k.ready.ready.plans.fits name h));
        };
      };
      most = omega (arith, k.done.size, k.ready.ready.most);
      row = omega arith;
      before = omega (arith, k.done.past);
      room = omega (arith, k.done.size, k.done.room);
    })

    same_text : planned_text classes pool c f new name ≡ body
    unfolding planned_text
    same_text = rw (first_same, second_same)

    module _
        {s : ℕ} (e : s ≡ bytes_start c) (r : Result ℕ NoRoom) (out : List ℕ)
        (w : NameBy r classes pool c f (s + 8 * count) name «end» new out) where
      pub naming_over : r ≡ Err no_room → OutputOver classes pool c f count old
      naming_over g =
          let none : NameOver classes pool c f name «end» new = rw g at w in
          let full : length new < «end» + length body = rw same_text at none.full in
          let left = texts_left classes pool c f old name count h in
          record { over = omega (arith, output_length k.ready.ready, left, k.done.size, k.done.past) }

      module _ {past : ℕ} (g : r ≡ Ok past) where
        turn : NamePut past classes pool c f (bytes_start c + 8 * count) name «end» new out
        turn = rw (g, e) at w

        abbrev row : List ℕ
        row = name_row_bytes (text (c.bytes + length (join below)) (length body))

        row_is : length row ≡ 8
        row_is = name_length (text (c.bytes + length (join below)) (length body))

        before_texts : entry_at c name + length row ≤ «end»
        before_texts = omega (arith, row_is, k.done.past)

        in_room : «end» + length body ≤ length new
        in_room = rw same_text at turn.room

        reaches : past ≡ «end» + length body
        reaches = rw same_text at turn.behind

        both : out ≡ two new «end» body (entry_at c name) row before_texts in_room
        both =
            let place : «end» - (bytes_start c + 8 * count) ≡ c.bytes + length (join below) = omega (arith, k.done.past) in
            rw (same_text, place) at turn.is

        more_rows : between out (bytes_start c) (bytes_start c + 8 * (name + 1)) ≡
            join (map name_row_bytes (name_rows c.bytes (planned_names classes pool c f old (name + 1))))
        more_rows =
            let z : bytes_start c + 8 * (name + 1) ≡ entry_at c name + length row = omega (arith, row_is) in
            ap (λ l. between l (bytes_start c) (bytes_start c + 8 * (name + 1))) both
            ∙ ap (between (two new «end» body (entry_at c name) row before_texts in_room) (bytes_start c)) z
            ∙ two_front new «end» body (entry_at c name) row before_texts in_room (bytes_start c) (omega arith)
            ∙ ap (λ l. l ++ row) k.done.rows
            ∙ sym (rows_more classes pool c f old name)

        more_texts : between out (texts_start c count) past ≡ join (planned_names classes pool c f old (name + 1))
        more_texts =
            ap (λ l. between l (texts_start c count) past) both
            ∙ ap (between (two new «end» body (entry_at c name) row before_texts in_room) (texts_start c count)) reaches
            ∙ two_back new «end» body (entry_at c name) row before_texts in_room (texts_start c count) (omega (arith, row_is))
            (omega (arith, k.done.past))
            ∙ ap (λ l. l ++ body) k.done.texts
            ∙ sym (texts_more classes pool c f old name)

        rest : drop past out ≡ drop past old
        rest =
            ap (drop past) both
            ∙ ap (λ n. drop n (two new «end» body (entry_at c name) row before_texts in_room)) reaches
            ∙ two_behind new «end» body (entry_at c name) row before_texts in_room
            ∙ sym (drop-drop (length body) «end» new)
            ∙ ap (drop (length body)) k.done.behind
            ∙ drop-drop (length body) «end» old
            ∙ ap (λ n. drop n old) (sym reaches)

        -- the numbers of the names behind
        kept : (p : ℕ) → entry_at c (name + 1) ≤ p → p + 4 ≤ bytes_start c + 8 * count → word_at out p ≡ word_at new p
        kept p l u =
            ap (λ d. word_at d p) both
            ∙ two_word new «end» body (entry_at c name) row before_texts in_room p (omega (arith, row_is))
            (omega (arith, k.done.past))

        pub naming_more : Naming index classes pool c f count old out (name + 1) past
        naming_more = record {
          ready = k.ready;
          inside = omega arith;
          done = record {
            size =
                ap length both ∙ two_size new «end» body (entry_at c name) row before_texts in_room ∙ k.done.size;
            past =
                let l = ap length (texts_more classes pool c f old name) ∙ length-append (join below) body in
                omega (arith, reaches, k.done.past);
            room = omega (arith, reaches, in_room, k.done.size);
            rows = more_rows;
            texts = more_texts;
            before =
                ap (take (bytes_start c)) both
                ∙ two_before new «end» body (entry_at c name) row before_texts in_room (bytes_start c) (omega arith)
                ∙ k.done.before;
            behind = rest;
          };
          first_left = λ j l u. kept (entry_at c j) (omega arith) (omega arith) ∙ k.first_left j (omega arith) u;
          second_left = λ j l u. kept (entry_at c j + 4) (omega arith) (omega arith) ∙ k.second_left j (omega arith) u;
        }

pub ruleset naming = (
  rows_fits,
  bytes_place_fits,
  texts_place_fits,
  naming_starts,
  naming_ends,
  naming_ready,
  naming_over,
  naming_more,
  rules,
)
