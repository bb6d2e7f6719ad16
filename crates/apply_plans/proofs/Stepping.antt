-- The tokens of a node, one after the other. Assumes nothing.
use Rattle.std.specs.Prelude.{Result, Ok, Err}
use mathlib.Core.Path.{◌≡◌, refl, sym, ◌∙◌, ap, subst}
use mathlib.Core.Bool.{Bool, true, false}
use mathlib.Core.List.{List, [], ◌∷◌, ◌++◌, map, append-nil, append_assoc}
use mathlib.Core.Logic.{◌⊎◌, inl, inr}
use Prim.Native.Nat.{ℕ, zero, suc, ◌+◌, ◌*◌, ◌-◌, ◌≤◌, ◌<◌}
use native.Mathlib.Numerals.{add-one}
use native.Mathlib.Omega.{arith}
use lib.Dec.{eqb}
use lib.ListN.{length, take, drop, length-append}
use lib.Seq.{drop-drop}
use mir.Val.{Fits}
use mir.Syntax.{w64}
use borrow.Author.Rules.{rules}
use borrow.Author.Tests.{eq-eqb, ne_eqb}
use Rattle.ground.specs.Choice.{pick}
use Rattle.ground.specs.Join.{join}
use Rattle.ground.specs.Put.{put, between}
use Rattle.ground.proofs.Cases.{le_or_lt}
use Rattle.ground.proofs.Joins.{join_append}
use Rattle.ground.proofs.PutLaws.{length_put}
use Rattle.tree_rule.specs.declared.TreeCounts.{TreeCounts}
use Rattle.tree_rule.specs.declared.Token.{Token}
use Rattle.tree_rule.specs.Words.{word_at, word_bytes, list_from}
use Rattle.tree_rule.specs.Files.{tokens_start, names_start, token_row_bytes}
use Rattle.tree_rule.proofs.WordLaws.{word_written, past_word_lem}
use Rattle.tree_rule.proofs.ReadWritten.{two_length, three_length}
use Rattle.tree_rule.proofs.RowLaws.{list_append, list_same}
use Rattle.tree_rule.proofs.PutWords.{take_put, drop_put, here_put, part_before, part_more, word_before, word_after}
use Rattle.apply_rule.specs.Changes.{Changed}
use Rattle.apply_rule.specs.Applying.{token_with, name_of, new_names, numbered}
use Rattle.apply_rule.proofs.Numbering.{new_append, numbered_append}
use Rattle.apply_pieces.specs.Inner.Notes.{NotesTold}
use Rattle.apply_plans.specs.declared.plan.Plan.{Plan}
use Rattle.apply_plans.specs.declared.plan.Plan.TheVariants as plan
use Rattle.apply_plans.specs.Inner.Entries.{entry_text, entry_at, planned_text, EntryFits}
use Rattle.apply_plans.specs.Inner.Plan.{plan_at, plan_change, added, row_by, entry_by, PlanLow}
use Rattle.apply_plans.specs.Inner.Put.{NoRow, PutReady, PlanPut, PutBy}
use Rattle.apply_plans.specs.Inner.Tokens.{TurnReady, TokensReady, node_plan, planned, planned_from, TokensTo}
use Rattle.apply_plans.proofs.Changing.{plan_row, plan_count, plan_low, shown_fits, plan_kept}
use Rattle.table_pool.specs.declared.write.NoRoom.{NoRoom}
use Rattle.table_pool.specs.Inner.Wrote.{no_room}

-- One token.
module _ (classes rows : List (List ℕ)) (pool : List ℕ) (c : TreeCounts) (f : List ℕ) (home context number token names : ℕ) (out : List ℕ)
    (k : TurnReady classes rows pool c f home context number token names out) where
  names_small : c.names < 4294967296
  names_small = omega (arith, k.rows_room, k.most)

  module _ {p : Plan} (e : p ≡ plan_at classes rows pool c f out home context number token) where
    pub turn_ready : PutReady c f token p names out
    turn_ready = record {
      formed = k.formed;
      inside = k.inside;
      rows = k.rows_room;
      most = k.most;
      low = rw e (plan_low classes rows pool c f out home context number k.low k.told k.few names_small k.formed token k.inside);
    }

    pub turn_done : (r : Result ℕ NoRoom) (new : List ℕ) → PutBy r c f token p names out new →
        PutBy r c f token (plan_at classes rows pool c f out home context number token) names out new
    turn_done r new = subst (λ x. PutBy r c f token x names out new) e

pub ruleset turning = (turn_ready, turn_done, rules)

pub own_yes : (token member number : ℕ) → token ≡ member → number ≡ pick (eqb token member) number 0
own_yes token member number e = sym (rw (eq-eqb token member e))

pub own_no : (token member number : ℕ) → (token ≡ member → ⊥) → 0 ≡ pick (eqb token member) number 0
own_no token member number e = sym (rw (ne_eqb token member e))

pub ruleset own_numbers = (own_yes, own_no, rules)

-- Two numbers that stand where they were put.
module _ (d : List ℕ) (at x y : ℕ) (small : x < 4294967296) (low : y < 4294967296) (h : at + 8 ≤ length d) where
  two_fit : at + length (word_bytes x ++ word_bytes y) ≤ length d
  two_fit = omega (arith, two_length x y)

  two_there : drop at (put d at (word_bytes x ++ word_bytes y)) ≡ word_bytes x ++ (word_bytes y ++ drop (at + length (word_bytes x ++ word_bytes y)) d)
  two_there = here_put d at (word_bytes x ++ word_bytes y) two_fit ∙ simp append_assoc

  pub first_word : word_at (put d at (word_bytes x ++ word_bytes y)) at ≡ x
  first_word = word_written (put d at (word_bytes x ++ word_bytes y)) at x _ small two_there

  pub second_word : word_at (put d at (word_bytes x ++ word_bytes y)) (at + 4) ≡ y
  second_word =
      word_written (put d at (word_bytes x ++ word_bytes y)) (at + 4) y _ low
      (past_word_lem (put d at (word_bytes x ++ word_bytes y)) at x _ two_there)

-- What a plan adds stands where it is put.
module _ (classes : List (List ℕ)) (pool : List ℕ) (c : TreeCounts) (f : List ℕ) (d : List ℕ) (at : ℕ) where
  entry_length : (p : Plan) → length (entry_by p) ≡ 8 * added p
  entry_length plan.Stays = refl
  entry_length (plan.Line n) = refl
  entry_length (plan.Text place size) = two_length (place + 1) size
  entry_length (plan.Shown name) = two_length 0 name

  entry_text_lem : (p : Plan) → PlanLow p → at + 8 * added p ≤ length d → added p ≡ 1 →
      entry_text classes pool c f (word_at (put d at (entry_by p)) at) (word_at (put d at (entry_by p)) (at + 4)) ∷ [] ≡ name_of (plan_change classes pool c f p)
  entry_text_lem plan.Stays l h a = absurd (omega arith)
  entry_text_lem (plan.Line n) l h a = absurd (omega arith)
  entry_text_lem (plan.Text place size) l h a =
      rw (first_word d at (place + 1) size (let z = l.0 in omega arith) l.1 (omega arith), second_word d at (place + 1) size (let z = l.0 in omega arith) l.1 (omega arith), add-one place)
  entry_text_lem (plan.Shown name) l h a =
      rw (first_word d at 0 name (omega arith) l (omega arith), second_word d at 0 name (omega arith) l (omega arith))

  entry_fits : (out : List ℕ) (p : Plan) → PlanLow p → at + 8 * added p ≤ length d → added p ≡ 1 →
      ((name : ℕ) → p ≡ plan.Shown name → (name < c.names) × (0 < word_at out (names_start c + 8 * name))) →
      EntryFits c out (word_at (put d at (entry_by p)) at) (word_at (put d at (entry_by p)) (at + 4))
  entry_fits out plan.Stays l h a g = absurd (omega arith)
  entry_fits out (plan.Line n) l h a g = absurd (omega arith)
  entry_fits out (plan.Text place size) l h a g =
      rw (first_word d at (place + 1) size (let z = l.0 in omega arith) l.1 (omega arith), add-one place) (omega arith)
  entry_fits out (plan.Shown name) l h a g =
      rw (first_word d at 0 name (omega arith) l (omega arith), second_word d at 0 name (omega arith) l (omega arith)) (g name refl)

-- how many names a plan adds
added_little : (p : Plan) → added p ≤ 1
added_little plan.Stays = omega arith
added_little (plan.Line n) = omega arith
added_little (plan.Text place size) = omega arith
added_little (plan.Shown name) = omega arith

list_added : (classes : List (List ℕ)) (pool : List ℕ) (c : TreeCounts) (f : List ℕ) (g : ℕ → List ℕ) (m : ℕ) (p : Plan) →
    (added p ≡ 1 → g m ∷ [] ≡ name_of (plan_change classes pool c f p)) → list_from g m (added p) ≡ name_of (plan_change classes pool c f p)
unfolding list_from
list_added classes pool c f g m plan.Stays h = refl
list_added classes pool c f g m (plan.Line n) h = refl
list_added classes pool c f g m (plan.Text place size) h = h refl
list_added classes pool c f g m (plan.Shown name) h = h refl

-- The state of the walk.
pub record Stepping
    (classes rows : List (List ℕ))
    (pool : List ℕ)
    (c : TreeCounts)
    (f : List ℕ)
    (home context member number first count names : ℕ)
    (old new : List ℕ)
    (n more : ℕ) : Type 0 where
  pub ready : TokensReady classes rows pool c f home context number first count names old
  pub inside : n ≤ count
  pub to : TokensTo n more classes rows pool c f home context member number first names old new

module _ (classes rows : List (List ℕ)) (pool : List ℕ) (c : TreeCounts) (f : List ℕ) (home context member number first count names : ℕ) (old : List ℕ)
    (k : TokensReady classes rows pool c f home context number first count names old) where
  pub steps_start : Stepping classes rows pool c f home context member number first count names old old 0 names
  unfolding list_from new_names numbered join
  steps_start =
      let a : tokens_start c + 12 * (first + 0) - (tokens_start c + 12 * first) ≡ 0 = omega arith in
      record {
        ready = k;
        inside = omega arith;
        to = record {
          size = refl;
          counted = omega arith;
          room = k.rows_room;
          before = refl;
          tokens = rw a;
          kept = λ p l h. refl;
          texts = refl;
          fits = λ j l h. absurd (omega arith);
          behind = refl;
        };
      }

module _ {classes rows : List (List ℕ)} {pool : List ℕ} {c : TreeCounts} {f : List ℕ} {home context member number first count names : ℕ} {old new : List ℕ}
    {n more : ℕ} (k : Stepping classes rows pool c f home context member number first count names old new n more) where
  abbrev part : ℕ → List Changed
  part i = planned_from classes rows pool c f old home context member number first i

  pub steps_end : count ≤ n → TokensTo count more classes rows pool c f home context member number first names old new
  steps_end h =
      let z : n ≡ count = omega (arith, k.inside) in
      rw z at k.to

  -- the notes are as they were
  first_note : (i : ℕ) → i < c.names → word_at new (names_start c + 8 * i) ≡ word_at old (names_start c + 8 * i)
  first_note i h = k.to.kept (names_start c + 8 * i) (omega arith) (omega arith)

  second_note : (i : ℕ) → i < c.names → word_at new (names_start c + 8 * i + 4) ≡ word_at old (names_start c + 8 * i + 4)
  second_note i h = k.to.kept (names_start c + 8 * i + 4) (omega arith) (omega arith)

  notes_told : NotesTold classes pool c f new
  notes_told = record {
    room = omega (arith, k.ready.told.room, k.to.size);
    says = λ i h. rw (first_note i h, second_note i h) (k.ready.told.says i h);
  }

  module _ (h : n < count) where
    pub token_fits : c.tokens < 4294967296 → Fits w64 (first + n)
    token_fits l = omega (arith, k.ready.inside)

    there : first + n < c.tokens
    there = omega (arith, k.ready.inside)

    abbrev own : ℕ
    own = pick (eqb (first + n) member) number 0

    own_few : own ≤ length rows
    own_few = go (eqb (first + n) member)
      where
        go : (b : Bool) → pick b number 0 ≤ length rows
        go true = k.ready.few
        go false = omega arith

    pub step_ready : {w : ℕ} → w ≡ own → TurnReady classes rows pool c f home context w (first + n) more new
    step_ready e = rw e (record {
      formed = k.ready.formed;
      inside = there;
      few = own_few;
      told = notes_told;
      meant = k.ready.meant;
      low = k.ready.low;
      rows_room = omega (arith, k.to.room, k.to.size);
      most = omega (arith, k.ready.most, k.to.size);
    })

    abbrev p : Plan
    p = node_plan classes rows pool c f old home context member number (first + n)

    same_plan : plan_at classes rows pool c f new home context own (first + n) ≡ p
    same_plan = plan_kept classes rows pool c f old new home context own k.ready.formed first_note second_note (first + n) there

    abbrev this : Changed
    this = planned classes rows pool c f old home context member number (first + n)

    one_more : part (n + 1) ≡ part n ++ (this ∷ [])
    unfolding list_from
    one_more = list_append (planned classes rows pool c f old home context member number) first n 1

    names_more : new_names (part (n + 1)) ≡ new_names (part n) ++ name_of this.change
    unfolding new_names
    names_more = ap new_names one_more ∙ new_append (part n) (this ∷ []) ∙ ap (λ l. new_names (part n) ++ l) (append-nil (name_of this.change))

    names_length : length (new_names (part (n + 1))) ≡ length (new_names (part n)) + added p
    names_length =
        ap length names_more ∙ length-append (new_names (part n)) (name_of this.change)
        ∙ ap (λ m. length (new_names (part n)) + m) (plan_count classes pool c f p)

    rows_more : join (map token_row_bytes (numbered (c.names + names) (part (n + 1)))) ≡
        join (map token_row_bytes (numbered (c.names + names) (part n))) ++ row_by p (c.names + more) f (tokens_start c + 12 * (first + n))
    unfolding numbered join
    rows_more =
        let next : ℕ = c.names + names + length (new_names (part n)) in
        let t : Token = token_with next this.change this.token in
        let y : next ≡ c.names + more = omega (arith, k.to.counted) in
        ap (λ l. join (map token_row_bytes (numbered (c.names + names) l))) one_more
        ∙ ap (λ l. join (map token_row_bytes l)) (numbered_append (c.names + names) (part n) (this ∷ []))
        ∙ join_append token_row_bytes (numbered (c.names + names) (part n)) (t ∷ [])
        ∙ ap (λ l. join (map token_row_bytes (numbered (c.names + names) (part n))) ++ l)
        (append-nil (token_row_bytes t) ∙ plan_row classes pool c f k.ready.formed p next (first + n) there
        ∙ ap (λ m. row_by p m f (tokens_start c + 12 * (first + n))) y)

    module _ {w : ℕ} (e : w ≡ own) (r : Result ℕ NoRoom) (out : List ℕ)
        (g : PutBy r c f (first + n) (plan_at classes rows pool c f new home context w (first + n)) more new out) where
      put_by : PutBy r c f (first + n) p more new out
      put_by = subst (λ x. PutBy r c f (first + n) x more new out) same_plan
          (subst (λ x. PutBy r c f (first + n) (plan_at classes rows pool c f new home context x (first + n)) more new out) e g)

      -- there is no room for the plan of a name: what all tokens add is not less
      pub step_over : r ≡ Err no_room → NoRow c (names + length (new_names (part count))) old
      step_over i =
          let none : NoRow c (more + added p) new = rw i at put_by in
          let z : n + 1 + (count - (n + 1)) ≡ count = omega arith in
          let rest : List Changed = list_from (planned classes rows pool c f old home context member number) (first + (n + 1)) (count - (n + 1)) in
          let split : part count ≡ part (n + 1) ++ rest =
          ap part (sym z) ∙ list_append (planned classes rows pool c f old home context member number) first (n + 1) (count - (n + 1)) in
          let all = ap (λ l. length (new_names l)) split ∙ ap length (new_append (part (n + 1)) rest) ∙ length-append (new_names (part (n + 1))) (new_names rest) in
          record { over = omega (arith, none.over, k.to.size, k.to.counted, names_length, all) }

      module _ {next : ℕ} (i : r ≡ Ok next) where
        done : PlanPut next c f (first + n) p more new out
        done = rw i at put_by

        abbrev at : ℕ
        at = tokens_start c + 12 * (first + n)

        abbrev row : List ℕ
        row = row_by p (c.names + more) f at

        row_is : length row ≡ 12
        row_is = three_length _ _ _

        entry_is : length (entry_by p) ≡ 8 * added p
        entry_is = entry_length classes pool c f new at p

        row_fits : at + length row ≤ length new
        row_fits = let l = there in omega (arith, row_is, k.to.size, k.ready.rows_room)

        abbrev mid : List ℕ
        mid = put new at row

        mid_size : length mid ≡ length new
        mid_size = length_put new at row row_fits

        entry_room : entry_at c more + length (entry_by p) ≤ length mid
        entry_room = omega (arith, entry_is, mid_size, done.room)

        out_size : length out ≡ length new
        out_size = ap length done.is ∙ length_put mid (entry_at c more) (entry_by p) entry_room ∙ mid_size

        -- what stands between the rows of tokens and the new plan is not touched
        between_word : (q : ℕ) → at + 12 ≤ q → q + 4 ≤ entry_at c more → word_at out q ≡ word_at new q
        between_word q l m =
            ap (λ v. word_at v q) done.is
            ∙ word_before mid (entry_at c more) (entry_by p) entry_room q m
            ∙ word_after new at row row_fits q (omega (arith, row_is))

        names_first : names ≤ more
        names_first = omega (arith, k.to.counted)

        tokens_more : between out (tokens_start c + 12 * first) (tokens_start c + 12 * (first + (n + 1))) ≡
            join (map token_row_bytes (numbered (c.names + names) (part (n + 1))))
        tokens_more =
            let z : tokens_start c + 12 * (first + (n + 1)) ≡ at + length row = omega (arith, row_is) in
            let l = there in
            ap (λ v. between v (tokens_start c + 12 * first) (tokens_start c + 12 * (first + (n + 1)))) done.is
            ∙ part_before mid (entry_at c more) (entry_by p) entry_room (tokens_start c + 12 * first) (tokens_start c + 12 * (first + (n + 1))) (omega arith)
            ∙ ap (between mid (tokens_start c + 12 * first)) z
            ∙ part_more new at row row_fits (tokens_start c + 12 * first) (omega arith)
            ∙ ap (λ v. v ++ row) k.to.tokens
            ∙ sym rows_more

        low : PlanLow p
        low = plan_low classes rows pool c f old home context own k.ready.low k.ready.told own_few
            (omega (arith, k.ready.rows_room, k.ready.most)) k.ready.formed (first + n) there

        -- texts of plans before
        text_kept : (j : ℕ) → j < more → planned_text classes pool c f out j ≡ planned_text classes pool c f new j
        unfolding planned_text
        text_kept j l =
            let m = there in
            rw (between_word (entry_at c j) (omega arith) (omega arith), between_word (entry_at c j + 4) (omega arith) (omega arith))

        text_here : added p ≡ 1 → planned_text classes pool c f out more ∷ [] ≡ name_of this.change
        unfolding planned_text
        text_here a =
            ap (λ v. entry_text classes pool c f (word_at v (entry_at c more)) (word_at v (entry_at c more + 4)) ∷ []) done.is
            ∙ entry_text_lem classes pool c f mid (entry_at c more) p low (omega (arith, mid_size, done.room)) a

        texts_more : list_from (planned_text classes pool c f out) names (length (new_names (part (n + 1)))) ≡ new_names (part (n + 1))
        texts_more =
            let so_far : list_from (planned_text classes pool c f out) names (length (new_names (part n))) ≡ new_names (part n) =
            list_same (planned_text classes pool c f out) (planned_text classes pool c f new) names names (length (new_names (part n)))
            (λ j l. text_kept (names + j) (omega (arith, k.to.counted))) ∙ k.to.texts in
            ap (list_from (planned_text classes pool c f out) names) names_length
            ∙ list_append (planned_text classes pool c f out) names (length (new_names (part n))) (added p)
            ∙ ap (λ v. v ++ list_from (planned_text classes pool c f out) (names + length (new_names (part n))) (added p)) so_far
            ∙ ap (λ v. new_names (part n) ++ list_from (planned_text classes pool c f out) v (added p)) (sym k.to.counted)
            ∙ ap (λ v. new_names (part n) ++ v) (list_added classes pool c f (planned_text classes pool c f out) more p text_here)
            ∙ sym names_more

        -- plans before are as they were, and so are the notes that they go by
        note_kept : (name : ℕ) → name < c.names → word_at out (names_start c + 8 * name) ≡ word_at new (names_start c + 8 * name)
        note_kept name l = let m = there in between_word (names_start c + 8 * name) (omega arith) (omega arith)

        fits_kept : (a b : ℕ) → EntryFits c new a b → EntryFits c out a b
        fits_kept zero b l = (l.0, rw (note_kept b l.0) l.1)
        fits_kept (suc a) b l = l

        fits_more : (j : ℕ) → names ≤ j → j < next → EntryFits c out (word_at out (entry_at c j)) (word_at out (entry_at c j + 4))
        fits_more j l m = go (le_or_lt more j)
          where
            go : (more ≤ j) ⊎ (j < more) → EntryFits c out (word_at out (entry_at c j)) (word_at out (entry_at c j + 4))
            go (inr y) =
                let x = there in
                rw (between_word (entry_at c j) (omega arith) (omega arith), between_word (entry_at c j + 4) (omega arith) (omega arith))
                (fits_kept (word_at new (entry_at c j)) (word_at new (entry_at c j + 4)) (k.to.fits j l y))
            go (inl y) =
                let little = added_little p in
                let one : added p ≡ 1 = omega (arith, done.count) in
                let here : j ≡ more = omega (arith, done.count) in
                subst (λ v. EntryFits c out (word_at out (entry_at c v)) (word_at out (entry_at c v + 4))) (sym here)
                (subst (λ v. EntryFits c out (word_at v (entry_at c more)) (word_at v (entry_at c more + 4))) (sym done.is)
                (entry_fits classes pool c f mid (entry_at c more) out p low (omega (arith, mid_size, done.room)) one
                (λ name x. let t = shown_fits classes rows pool c f old home context own k.ready.formed (first + n) there x in
                (t.0, rw (note_kept name t.0, first_note name t.0) t.1))))

        rest : drop (entry_at c next) out ≡ drop (entry_at c next) old
        rest =
            let l = there in
            let z : entry_at c more + 8 * added p ≡ entry_at c next = omega (arith, done.count) in
            ap (drop (entry_at c next)) done.is
            ∙ drop_put mid (entry_at c more) (entry_by p) entry_room (entry_at c next) (omega (arith, entry_is))
            ∙ drop_put new at row row_fits (entry_at c next) (omega (arith, row_is))
            ∙ ap (λ v. drop v new) (sym z) ∙ sym (drop-drop (8 * added p) (entry_at c more) new)
            ∙ ap (drop (8 * added p)) k.to.behind
            ∙ drop-drop (8 * added p) (entry_at c more) old ∙ ap (λ v. drop v old) z

        front : take (tokens_start c + 12 * first) out ≡ take (tokens_start c + 12 * first) old
        front =
            let l = there in
            ap (take (tokens_start c + 12 * first)) done.is
            ∙ take_put mid (entry_at c more) (entry_by p) entry_room (tokens_start c + 12 * first) (omega arith)
            ∙ take_put new at row row_fits (tokens_start c + 12 * first) (omega arith)
            ∙ k.to.before

        pub steps_more : Stepping classes rows pool c f home context member number first count names old out (n + 1) next
        steps_more = record {
          ready = k.ready;
          inside = omega arith;
          to = record {
            size = out_size ∙ k.to.size;
            counted = omega (arith, done.count, k.to.counted, names_length);
            room = let z : next ≡ more + added p = done.count in rw z (omega (arith, done.room, k.to.size));
            before = front;
            tokens = tokens_more;
            kept = λ q l m. between_word q (let y = there in omega arith) (let y = names_first in omega arith) ∙ k.to.kept q l m;
            texts = texts_more;
            fits = fits_more;
            behind = rest;
          };
        }

pub ruleset stepping = (steps_start, steps_end, token_fits, step_ready, step_over, steps_more, rules)
