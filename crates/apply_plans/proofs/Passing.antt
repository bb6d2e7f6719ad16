-- All nodes planned, one after the other. Assumes nothing.
use Rattle.std.specs.Prelude.{Option, Some, None, Result, Ok, Err, IsErr}
use mathlib.Core.Path.{◌≡◌, refl, sym, ◌∙◌, ap}
use mathlib.Core.Bool.{Bool, true, false}
use mathlib.Core.List.{List, [], ◌∷◌, ◌++◌, map, append_assoc}
use mathlib.Core.Logic.{◌⊎◌, inl, inr}
use Prim.Native.Nat.{ℕ, zero, suc, ◌+◌, ◌*◌, ◌-◌, ◌≤◌, ◌<◌}
use native.Mathlib.Omega.{arith}
use lib.Dec.{eqb}
use lib.ListN.{length, get_or, drop, length-append, get_or-append}
use lib.Seq.{drop-drop, get_or-append_seam}
use mir.Val.{Fits}
use mir.Syntax.{w64}
use borrow.Author.Rules.{rules}
use borrow.Author.Tests.{ne_eqb}
use Rattle.ground.specs.Choice.{pick}
use Rattle.ground.specs.Join.{join}
use Rattle.ground.specs.Put.{between}
use Rattle.ground.proofs.Cases.{le_or_lt, clash}
use Rattle.ground.proofs.Joins.{join_append}
use Rattle.ground.proofs.Parts.{parts_join}
use Rattle.tables.specs.Back.{read_back}
use Rattle.tables.specs.Search.{last_raw}
use Rattle.name_rule.specs.MemberNames.{Key, key}
use Rattle.name_rule.specs.MemberRows.{field_row, method_row}
use Rattle.name_rule.proofs.Rows.{field_found, method_found}
use Rattle.tree_rule.specs.declared.TreeCounts.{TreeCounts}
use Rattle.tree_rule.specs.declared.Token.{Token}
use Rattle.tree_rule.specs.Words.{word_at, list_from, sum_from}
use Rattle.tree_rule.specs.Trees.{no_parent, parent_row, name_in}
use Rattle.tree_rule.specs.Files.{
  nodes_start,
  tokens_start,
  names_start,
  bytes_start,
  parent_at,
  token_count_at,
  token_at,
  token_row_bytes,
  parent_by,
  nodes_from,
  tree_by,
}
use Rattle.tree_rule.specs.Signatures.{opens, node_signature}
use Rattle.tree_rule.proofs.RowLaws.{list_length, list_append, list_same, sum_append}
use Rattle.tree_rule.proofs.Reading.{node_tokens}
use Rattle.apply_rule.specs.Changes.{Context, no_method, context_above, context_by, raw_name_at, owner_name, Signed, signed_by, signed_of, Change, change_of, Changed, changed_from, changed_nodes}
use Rattle.apply_rule.specs.Applying.{new_names, numbered, all_changed}
use Rattle.apply_rule.specs.Inner.Plans.{mapping_in, changes_in}
use Rattle.apply_rule.proofs.Numbering.{new_append, numbered_append, changed_length}
use Rattle.apply_rule.proofs.NodeChanges.{contextFrom, changesFrom, nodes_step}
use Rattle.apply_pieces.specs.Inner.Notes.{NotesTold}
use Rattle.apply_members.specs.declared.node.NodeNote.{NodeNote}
use Rattle.apply_members.specs.Inner.Notes.{noted_row, member_note, note_signed, context_number, home_row, MeantBy}
use Rattle.apply_plans.specs.Inner.Entries.{entry_at, planned_text, planned_names, EntryFits}
use Rattle.apply_plans.specs.Inner.Noted.{word_above, context_noted}
use Rattle.apply_plans.specs.Inner.Passed.{NodeReady, node_planned, NodeTo, NodeBy, PlansReady, PlansMade, NodesTo, PlansBy}
use Rattle.apply_plans.specs.Inner.Plan.{plan_at}
use Rattle.apply_plans.specs.Inner.Put.{NoRow}
use Rattle.apply_plans.specs.Inner.Tokens.{planned}
use Rattle.apply_plans.proofs.ContextNumbers.{number_meant, noted_context}
use Rattle.apply_plans.proofs.TokenPlans.{token_change}
use Rattle.table_pool.specs.declared.write.NoRoom.{NoRoom}
use Rattle.table_pool.specs.Inner.Wrote.{no_room}
use Rattle.tree_rule.specs.declared.NodeSignature.{NodeSignature}

sum_more : (f : List ℕ) (i : ℕ) → sum_from (token_count_at f) 0 (i + 1) ≡ sum_from (token_count_at f) 0 i + token_count_at f i
unfolding sum_from
sum_more f i =
    let a : 0 + i ≡ i = omega arith in
    let more : sum_from (token_count_at f) 0 (i + 1) ≡ sum_from (token_count_at f) 0 i + (token_count_at f (0 + i) + 0) =
    sum_append (token_count_at f) 0 i 1 in
    let same : token_count_at f (0 + i) ≡ token_count_at f i = ap (token_count_at f) a in
    omega arith

-- tokens one after the other, each with its change
changed_list : (change : ℕ → Token → Change) (g : ℕ → Token) (h : ℕ → Changed) (start first n : ℕ) →
    ((j : ℕ) → j < n → h (first + j) ≡ record { token = g (first + j); change = change (start + j) (g (first + j)) }) →
    list_from h first n ≡ changed_from change start (list_from g first n)
unfolding list_from changed_from
changed_list change g h start first zero e = refl
changed_list change g h start first (suc n) e =
    let a : first + 0 ≡ first = omega arith in
    let b : start + 0 ≡ start = omega arith in
    let here : h first ≡ record { token = g first; change = change start (g first) } = rw (a, b) at (e 0 (omega arith)) in
    let later : list_from h (suc first) n ≡ changed_from change (suc start) (list_from g (suc first) n) =
    changed_list change g h (suc start) (suc first) n
    (λ j l. let x : first + suc j ≡ suc first + j = omega arith in let y : start + suc j ≡ suc start + j = omega arith in rw (x, y) at (e (suc j) (omega arith))) in
    rw (here, later)

module _ (classes rows : List (List ℕ)) (pool class : List ℕ) (c : TreeCounts) (f : List ℕ) (old : List ℕ) (k : PlansReady classes rows pool c f old) where
  abbrev name : ℕ → List ℕ
  name n = name_in (tree_by c f) n

  abbrev all : List Changed
  all = changes_in classes rows pool class c f

  pub plans_start : NodesTo 0 0 0 classes rows pool class c f old old
  unfolding sum_from list_from new_names numbered join
  plans_start =
      let z : c.nodes - 0 ≡ c.nodes = omega arith in
      let a : tokens_start c + 12 * 0 - tokens_start c ≡ 0 = omega arith in
      record {
        inside = omega arith;
        firsts = refl;
        size = refl;
        contexts = [];
        context_count = refl;
        numbers = λ j h. absurd (omega arith);
        changed = [];
        changed_count = refl;
        rest = ap (λ n. all_changed (changed_nodes (mapping_in classes rows pool) class (name_in (tree_by c f)) [] (nodes_from c f 0 0 n))) (sym z);
        counted = refl;
        room = omega (arith, k.told.room);
        tokens = rw a;
        kept = λ p l h. refl;
        texts = refl;
        fits = record { fits = λ j h. absurd (omega arith) };
        behind = refl;
      }

  module _ {new : List ℕ} {i first names : ℕ} (p : NodesTo i first names classes rows pool class c f old new) where
    pub plans_end : c.nodes ≤ i → PlansMade names classes rows pool class c f old new
    unfolding nodes_from changed_nodes all_changed
    plans_end h =
        let z : i ≡ c.nodes = omega (arith, p.inside) in
        let none : c.nodes - i ≡ 0 = omega arith in
        let whole : all ≡ p.changed =
        p.rest ∙ ap (λ n. p.changed ++ all_changed (changed_nodes (mapping_in classes rows pool) class (name_in (tree_by c f)) p.contexts (nodes_from c f i first n))) none
        ∙ append_nil_right in
        let all_tokens_lem : first ≡ c.tokens = p.firsts ∙ ap (sum_from (token_count_at f) 0) z ∙ k.formed.sums in
        let e : tokens_start c + 12 * first ≡ names_start c = omega (arith, all_tokens_lem) in
        record {
          size = p.size;
          room = p.room;
          tokens = ap (between new (tokens_start c)) (sym e) ∙ p.tokens ∙ ap (λ l. join (map token_row_bytes (numbered c.names l))) (sym whole);
          kept = p.kept;
          texts = p.texts ∙ ap new_names (sym whole);
          fits = p.fits;
          behind = p.behind;
        }
      where
        append_nil_right : p.changed ++ [] ≡ p.changed
        append_nil_right = mathlib.Core.List.append-nil p.changed

    -- the notes are as they were
    pub now_told : NotesTold classes pool c f new
    now_told = record {
      room = omega (arith, k.told.room, p.size);
      says = λ n h. rw (p.kept (names_start c + 8 * n) (omega arith) (omega arith), p.kept (names_start c + 8 * n + 4) (omega arith) (omega arith)) (k.told.says n h);
    }

    module _ (h : i < c.nodes) where
      pub node_row : nodes_start + 8 * i + 8 ≤ length f
      node_row = omega (arith, k.formed.size)

      module _ {n : ℕ} (e : n ≡ token_count_at f i) where
        pub node_inside : first + n ≤ c.tokens
        node_inside = let t = node_tokens c f k.formed i h in let y = p.firsts in omega arith

        pub first_fits : c.tokens < 4294967296 → Fits w64 (first + n)
        first_fits l = let t = node_inside in omega arith

        abbrev ts : List Token
        ts = list_from (token_at c f) first n

        abbrev s : Signed
        s = signed_of class name ts

        module _ {note : NodeNote} (g : note ≡ note_signed classes rows pool class first s) where
          member_few : (q : Key) → (member_note classes rows pool class q).named ≤ length rows
          member_few q = go (opens q.descriptor) refl
            where
              few : (o : Option ℕ) → ((j : ℕ) → o ≡ Some j → j < length rows) → noted_row o ≤ length rows
              few (Some j) l = let y = l j refl in omega arith
              few None l = omega arith

              go : (b : Bool) → opens q.descriptor ≡ b → (member_note classes rows pool class q).named ≤ length rows
              go true y = rw y (few (method_row (read_back classes pool) q rows pool) (λ j l. (method_found (read_back classes pool) q rows pool l).0))
              go false y = rw y (few (field_row (read_back classes pool) q rows pool) (λ j l. (field_found (read_back classes pool) q rows pool l).0))

          named_few : (y : Option NodeSignature) → (note_signed classes rows pool class first (signed_by class name ts y)).named ≤ length rows
          named_few None = omega arith
          named_few (Some r) =
              member_few (key (owner_name class name ts r.owner) (raw_name_at name ts r.member) (raw_name_at name ts r.descriptor))

          pub node_ready : NodeReady classes rows pool c f i first n note names new
          node_ready = record {
            formed = k.formed;
            there = h;
            inside = node_inside;
            few = rw g (named_few (node_signature name ts));
            told = now_told;
            low = k.low;
            rows_room = omega (arith, p.room, p.size);
            most = omega (arith, k.most, p.size);
          }

          -- the number of its line context
          above_is : word_above f new i ≡ context_number classes rows pool class (context_above p.contexts (parent_by (parent_at f i)))
          above_is = go i refl
            where
              go : (j : ℕ) → i ≡ j → word_above f new i ≡ context_number classes rows pool class (context_above p.contexts (parent_by (parent_at f i)))
              go zero y = rw (y, k.formed.root)
              go (suc j) y =
                  let low : parent_at f i < i = k.formed.lower i (omega arith) h in
                  let fits : i < 4294967295 = omega (arith, k.formed.size, k.file) in
                  let other : eqb (parent_at f i) 4294967295 ≡ false = ne_eqb (parent_at f i) 4294967295 (λ z. let v : parent_at f i ≡ 4294967295 = z in omega arith) in
                  ap (word_above f new) y ∙ ap (λ v. word_at new (nodes_start + 8 * parent_at f v)) (sym y) ∙ p.numbers (parent_at f i) low
                  ∙ ap (λ b. context_number classes rows pool class (context_above p.contexts (pick b no_parent (parent_row (parent_at f i))))) (sym other)

          abbrev here : Context
          here = contextFrom (mapping_in classes rows pool) class (name_in (tree_by c f)) c f p.contexts i first

          context_is : context_noted f new i note ≡ context_number classes rows pool class here
          context_is =
              noted_context classes rows pool class first s (context_above p.contexts (parent_by (parent_at f i))) above_is g
              ∙ ap (λ v. context_number classes rows pool class (context_by class (signed_of class name (list_from (token_at c f) first v)) (context_above p.contexts (parent_by (parent_at f i))))) e

          module _ {given : Option ℕ} (v : given ≡ last_raw classes pool class) {home : ℕ} (u : home ≡ home_row given) where
            w : home ≡ home_row (last_raw classes pool class)
            w = u ∙ ap home_row v

            pub node_meant : MeantBy classes rows pool home (context_noted f new i note)
            node_meant = number_meant classes rows pool class w here context_is

            abbrev part : List Changed
            part = changesFrom (mapping_in classes rows pool) class (name_in (tree_by c f)) c f p.contexts i first

            abbrev later : List Changed
            later =
                all_changed (changed_nodes (mapping_in classes rows pool) class (name_in (tree_by c f)) (p.contexts ++ (here ∷ []))
                (nodes_from c f (i + 1) (first + n) (c.nodes - (i + 1))))

            split : all ≡ (p.changed ++ part) ++ later
            split =
                let left : c.nodes - i ≡ suc (c.nodes - (i + 1)) = omega arith in
                let one : suc i ≡ i + 1 = omega arith in
                p.rest
                ∙ ap (λ v. p.changed ++ all_changed (changed_nodes (mapping_in classes rows pool) class (name_in (tree_by c f)) p.contexts (nodes_from c f i first v))) left
                ∙ ap (λ v. p.changed ++ v) (nodes_step (mapping_in classes rows pool) class (name_in (tree_by c f)) c f p.contexts i first (c.nodes - (i + 1)))
                ∙ ap (λ v. p.changed ++ (part ++ all_changed (changed_nodes (mapping_in classes rows pool) class (name_in (tree_by c f)) (p.contexts ++ (here ∷ []))
                (nodes_from c f v (first + token_count_at f i) (c.nodes - (i + 1)))))) one
                ∙ ap (λ v. p.changed ++ (part ++ all_changed (changed_nodes (mapping_in classes rows pool) class (name_in (tree_by c f)) (p.contexts ++ (here ∷ []))
                (nodes_from c f (i + 1) (first + v) (c.nodes - (i + 1)))))) (sym e)
                ∙ sym (append_assoc p.changed part later)

            part_size : length part ≡ n
            part_size =
                changed_length (change_of (mapping_in classes rows pool) class (name_in (tree_by c f)) (signed_of class name (list_from (token_at c f) first (token_count_at f i))) here) 0
                (list_from (token_at c f) first (token_count_at f i))
                ∙ list_length (token_at c f) first (token_count_at f i) ∙ sym e

            -- each token's plan stands for its change
            planned_is : (j : ℕ) → j < n →
                planned classes rows pool c f new home (context_noted f new i note) note.member note.named (first + j)
                ≡ record { token = token_at c f (first + j); change = change_of (mapping_in classes rows pool) class (name_in (tree_by c f)) s here (0 + j) (token_at c f (first + j)) }
            unfolding plan_at
            planned_is j m =
                let zero_at : 0 + j ≡ j = omega arith in
                ap (λ v. record { token = token_at c f (first + j); change = v })
                (token_change classes rows pool class c f new now_told w first s here g context_is j (token_at c f (first + j))
                (k.formed.tokens (first + j) (let y = node_inside in omega arith))
                ∙ ap (λ v. change_of (mapping_in classes rows pool) class (name_in (tree_by c f)) s here v (token_at c f (first + j))) (sym zero_at))

            part_is : node_planned classes rows pool c f new home i first n note ≡ part
            part_is =
                changed_list (change_of (mapping_in classes rows pool) class (name_in (tree_by c f)) s here) (token_at c f)
                (planned classes rows pool c f new home (context_noted f new i note) note.member note.named) 0 first n planned_is
                ∙ ap (λ v. changed_from (change_of (mapping_in classes rows pool) class (name_in (tree_by c f)) (signed_of class name (list_from (token_at c f) first v)) here) 0
                (list_from (token_at c f) first v)) e

            names_more : new_names (p.changed ++ part) ≡ new_names p.changed ++ new_names part
            names_more = new_append p.changed part

            names_length : length (new_names (p.changed ++ part)) ≡ names + length (new_names part)
            names_length = ap length names_more ∙ length-append (new_names p.changed) (new_names part) ∙ ap (λ v. v + length (new_names part)) (sym p.counted)

            module _ (r : Result ℕ NoRoom) (next : List ℕ) (d : NodeBy r classes rows pool c f home i first n note names new next) where
              -- no room for a plan of this node: all nodes do not add less
              pub plans_over : r ≡ Err no_room → NoRow c (length (new_names all)) old
              plans_over y =
                  let none : NoRow c (names + length (new_names (node_planned classes rows pool c f new home i first n note))) new = rw y at d in
                  let same = ap (λ l. length (new_names l)) part_is in
                  let whole = ap (λ l. length (new_names l)) split ∙ ap length (new_append (p.changed ++ part) later)
                  ∙ length-append (new_names (p.changed ++ part)) (new_names later) in
                  record { over = omega (arith, none.over, same, whole, names_length, p.size) }

              module _ {more : ℕ} (y : r ≡ Ok more) where
                done : NodeTo more classes rows pool c f home i first n note names new next
                done = rw y at d

                more_is : more ≡ names + length (new_names part)
                more_is = done.counted ∙ ap (λ l. names + length (new_names l)) part_is

                contexts_more : (j : ℕ) → j < i + 1 → word_at next (nodes_start + 8 * j) ≡ context_number classes rows pool class (get_or (p.contexts ++ (here ∷ [])) j no_method)
                contexts_more j m = go (le_or_lt i j)
                  where
                    go : (i ≤ j) ⊎ (j < i) → word_at next (nodes_start + 8 * j) ≡ context_number classes rows pool class (get_or (p.contexts ++ (here ∷ [])) j no_method)
                    go (inl o) =
                        let z : i ≡ j = omega arith in
                        let x : length p.contexts ≡ j = p.context_count ∙ z in
                        ap (λ v. word_at next (nodes_start + 8 * v)) (sym z) ∙ done.context ∙ context_is
                        ∙ ap (context_number classes rows pool class) (sym (get_or-append_seam p.contexts here [] no_method))
                        ∙ ap (λ v. context_number classes rows pool class (get_or (p.contexts ++ (here ∷ [])) v no_method)) x
                    go (inr o) =
                        done.contexts j o ∙ p.numbers j o
                        ∙ ap (context_number classes rows pool class) (sym (get_or-append p.contexts (here ∷ []) no_method j (omega (arith, p.context_count))))

                tokens_more : between next (tokens_start c) (tokens_start c + 12 * (first + n)) ≡ join (map token_row_bytes (numbered c.names (p.changed ++ part)))
                tokens_more =
                    sym (parts_join next (tokens_start c) (tokens_start c + 12 * first) (tokens_start c + 12 * (first + n)) (omega arith) (omega arith))
                    ∙ ap (λ v. v ++ between next (tokens_start c + 12 * first) (tokens_start c + 12 * (first + n))) (done.earlier ∙ p.tokens)
                    ∙ ap (λ v. join (map token_row_bytes (numbered c.names p.changed)) ++ v)
                    (done.tokens ∙ ap (λ l. join (map token_row_bytes (numbered (c.names + names) l))) part_is
                    ∙ ap (λ m. join (map token_row_bytes (numbered (c.names + m) part))) p.counted)
                    ∙ sym (join_append token_row_bytes (numbered c.names p.changed) (numbered (c.names + length (new_names p.changed)) part))
                    ∙ ap (λ l. join (map token_row_bytes l)) (sym (numbered_append c.names p.changed part))

                text_kept : (j : ℕ) → j < names → planned_text classes pool c f next j ≡ planned_text classes pool c f new j
                unfolding planned_text
                text_kept j m =
                    rw (done.kept (entry_at c j) (omega arith) (omega arith), done.kept (entry_at c j + 4) (omega arith) (omega arith))

                texts_more : planned_names classes pool c f next more ≡ new_names (p.changed ++ part)
                texts_more =
                    let zero_at : 0 + names ≡ names = omega arith in
                    ap (planned_names classes pool c f next) more_is
                    ∙ list_append (planned_text classes pool c f next) 0 names (length (new_names part))
                    ∙ ap (λ v. v ++ list_from (planned_text classes pool c f next) (0 + names) (length (new_names part)))
                    (list_same (planned_text classes pool c f next) (planned_text classes pool c f new) 0 0 names (λ j m. text_kept (0 + j) (omega arith)) ∙ p.texts)
                    ∙ ap (λ v. new_names p.changed ++ list_from (planned_text classes pool c f next) v (length (new_names part))) zero_at
                    ∙ ap (λ v. new_names p.changed ++ v)
                    (ap (λ l. list_from (planned_text classes pool c f next) names (length (new_names l))) (sym part_is) ∙ done.texts ∙ ap new_names part_is)
                    ∙ sym names_more

                fits_kept : (a b : ℕ) → EntryFits c new a b → EntryFits c next a b
                fits_kept zero b l = (l.0, rw (done.kept (names_start c + 8 * b) (omega arith) (let x = l.0 in omega arith)) l.1)
                fits_kept (suc a) b l = l

                fits_more : (j : ℕ) → j < more → EntryFits c next (word_at next (entry_at c j)) (word_at next (entry_at c j + 4))
                fits_more j m = go (le_or_lt names j)
                  where
                    go : (names ≤ j) ⊎ (j < names) → EntryFits c next (word_at next (entry_at c j)) (word_at next (entry_at c j + 4))
                    go (inl o) = done.fits j o m
                    go (inr o) =
                        rw (done.kept (entry_at c j) (omega arith) (omega arith), done.kept (entry_at c j + 4) (omega arith) (omega arith))
                        (fits_kept (word_at new (entry_at c j)) (word_at new (entry_at c j + 4)) (p.fits.fits j o))

                rest_kept : drop (entry_at c more) next ≡ drop (entry_at c more) old
                rest_kept =
                    let z : entry_at c names + 8 * length (new_names part) ≡ entry_at c more = omega (arith, more_is) in
                    done.behind ∙ ap (λ v. drop v new) (sym z) ∙ sym (drop-drop (8 * length (new_names part)) (entry_at c names) new)
                    ∙ ap (drop (8 * length (new_names part))) p.behind
                    ∙ drop-drop (8 * length (new_names part)) (entry_at c names) old ∙ ap (λ v. drop v old) z

                pub plans_more : NodesTo (i + 1) (first + n) more classes rows pool class c f old next
                plans_more = record {
                  inside = omega arith;
                  firsts = omega (arith, p.firsts, sum_more f i);
                  size = done.size ∙ p.size;
                  contexts = p.contexts ++ (here ∷ []);
                  context_count = length-append p.contexts (here ∷ []) ∙ ap (λ v. v + 1) p.context_count;
                  numbers = contexts_more;
                  changed = p.changed ++ part;
                  changed_count = length-append p.changed part ∙ rw (p.changed_count, part_size);
                  rest = split;
                  counted = more_is ∙ sym names_length;
                  room = omega (arith, done.room, p.size);
                  tokens = tokens_more;
                  kept = λ q l m. done.kept q l (omega arith) ∙ p.kept q l m;
                  texts = texts_more;
                  fits = record { fits = fits_more };
                  behind = rest_kept;
                }

-- An answer that `?` hands on: there is no room.
pub refused_by : (classes rows : List (List ℕ)) (pool class : List ℕ) (c : TreeCounts) (f old new : List ℕ) (r : Result ℕ NoRoom) → IsErr r →
    NoRow c (length (new_names (changes_in classes rows pool class c f))) old → PlansBy r classes rows pool class c f old new
refused_by classes rows pool class c f old new (Ok n) e k = clash e refl
refused_by classes rows pool class c f old new (Err _) e k = k

pub ruleset passing = (plans_start, plans_end, now_told, node_row, node_inside, first_fits, node_ready, node_meant, plans_over, plans_more, rules)
