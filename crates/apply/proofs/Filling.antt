-- The passes, one after the other. Assumes nothing.
use Rattle.std.specs.Prelude.{Result, Ok, Err}
use mathlib.Core.Path.{◌≡◌, refl, sym, ◌∙◌, ap, subst}
use mathlib.Core.List.{List, ◌++◌, map}
use Prim.Native.Nat.{ℕ, zero, suc, ◌+◌, ◌*◌, ◌-◌, ◌≤◌, ◌<◌}
use native.Mathlib.Omega.{arith}
use lib.ListN.{length, get_or, drop, replicate}
use lib.Seq.{drop-drop}
use mir.Val.{Fits}
use mir.Syntax.{w8}
use borrow.Author.Rules.{rules}
use Rattle.tables.specs.declared.search.Side.TheVariants.{Raw}
use Rattle.table_index.specs.Inner.Index.{IndexBy}
use Rattle.tree_rule.specs.declared.TreeCounts.{TreeCounts}
use Rattle.tree_rule.specs.Files.{counts_in, names_start, bytes_start, file_length, token_row_bytes}
use Rattle.tree_rule.specs.Theorems.{FormedBy}
use Rattle.ground.proofs.Joins.{joined_length}
use Rattle.tree_rule.proofs.Formed.{formed_tree}
use Rattle.tree_rule.proofs.ReadWritten.{token_length}
use Rattle.tree_rule.proofs.RowLaws.{list_length}
use Rattle.apply_rule.specs.Changes.{Changed}
use Rattle.apply_rule.specs.Applying.{applied_file, new_names, numbered}
use Rattle.apply_rule.specs.Inner.Plans.{mapping_in, changes_in, laid_from, laid_out}
use Rattle.apply_rule.proofs.Laid.{laid_applied}
use Rattle.apply_rule.proofs.Numbering.{numbered_length}
use Rattle.apply_rule.proofs.NodeChanges.{changes_length}
use Rattle.apply_pieces.specs.Inner.Notes.{Noted}
use Rattle.apply_plans.specs.Inner.Entries.{entry_at, planned_text, planned_names}
use Rattle.apply_plans.specs.Inner.Passed.{PlansReady, PlansMade, PlansBy}
use Rattle.apply_plans.specs.Inner.Put.{NoRow}
use Rattle.apply_output.proofs.Listing.{laid_length}
use Rattle.apply_output.specs.Inner.Output.{Ready, output_from, OutputIs, OutputBy}
use Rattle.apply.specs.Inner.Filled.{PassReady, FillReady, FilledTo, NoneFilled, OutputFilledBy}
use Rattle.ground.specs.Join.{join}
use Rattle.table_pool.specs.declared.write.NoRoom.{NoRoom}
use Rattle.table_pool.specs.Inner.Wrote.{no_room}

-- Zeros.
pub zero_drop : (k n : ℕ) → ◌≡◌ {A = List ℕ} (drop k (replicate n 0)) (replicate (n - k) 0)
zero_drop zero n = let z : n - 0 ≡ n = omega arith in rw z
zero_drop (suc k) zero = let z : 0 - suc k ≡ 0 = omega arith in rw z
zero_drop (suc k) (suc n) = let z : suc n - suc k ≡ n - k = omega arith in rw z (zero_drop k n)

-- what is laid out with the changes of a file
module _ (classes rows : List (List ℕ)) (pool class : List ℕ) (c : TreeCounts) (f : List ℕ) (k : FormedBy c f) where
  abbrev changes : List Changed
  changes = changes_in classes rows pool class c f

  abbrev laid : List ℕ
  laid = laid_out c f changes

  laid_size : length laid ≡ bytes_start c + 8 * length (new_names changes) + c.bytes + length (join (new_names changes))
  laid_size =
      laid_length c f (join (map token_row_bytes (numbered c.names changes))) (new_names changes) k.size
      (joined_length token_row_bytes 12 token_length (numbered c.names changes)
      ∙ ap (λ n. 12 * n) (numbered_length c.names changes ∙ changes_length classes rows pool class c f k))

  -- a file never gets shorter
  longer : file_length c ≤ length laid
  longer = omega (arith, laid_size)

module _ (classes rows : List (List ℕ)) (pool class : List ℕ) (c : TreeCounts) (f : List ℕ) (old : List ℕ) (k : PassReady classes rows c f old) where
  pub pass_file : file_length c ≤ length f
  pass_file = omega (arith, k.formed.size)

  module _ {noted : List ℕ} (n : Noted c f classes pool old noted) where
    pub pass_plans : PlansReady classes rows pool c f noted
    pass_plans = record {
      formed = k.formed;
      file = k.file;
      told = record { room = omega (arith, k.room, n.size); says = n.notes };
      low = k.low;
      most = omega (arith, k.most, n.size);
    }

    module _ (r : Result ℕ NoRoom) (mid : List ℕ) (p : PlansBy r classes rows pool class c f noted mid) where
      -- no room for the plan of a name
      pub pass_none : r ≡ Err no_room → NoneFilled (laid_out c f (changes_in classes rows pool class c f)) old
      pass_none e =
          let none : NoRow c (length (new_names (changes_in classes rows pool class c f))) noted = rw e at p in
          record { over = omega (arith, none.over, laid_size classes rows pool class c f k.formed, n.size) }

      module _ {count : ℕ} (e : r ≡ Ok count) where
        made : PlansMade count classes rows pool class c f noted mid
        made = rw e at p

        pub pass_ready : {index : List ℕ} → IndexBy Raw classes pool index → Ready index classes pool c f count mid
        pass_ready x = record {
          formed = k.formed;
          room = omega (arith, k.room, made.size, n.size);
          most = omega (arith, k.most, made.size, n.size);
          rows = omega (arith, made.room, made.size);
          indexed = x;
          notes = λ i h. rw (made.kept (names_start c + 8 * i) (omega arith) (omega arith), made.kept (names_start c + 8 * i + 4) (omega arith) (omega arith)) (n.notes i h);
          plans = made.fits;
        }

        same_file : output_from classes pool c f count mid ≡ laid_out c f (changes_in classes rows pool class c f)
        same_file = ap (λ t. laid_from c f t (planned_names classes pool c f mid count)) made.tokens
            ∙ ap (laid_from c f (join (map token_row_bytes (numbered c.names (changes_in classes rows pool class c f))))) made.texts

        counted : count ≡ length (new_names (changes_in classes rows pool class c f))
        counted = sym (list_length (planned_text classes pool c f mid) 0 count) ∙ ap length made.texts

        behind : (x : ℕ) → file_length c ≤ x → entry_at c count ≤ x → drop x mid ≡ replicate (length old - x) 0
        behind x h l =
            let y : file_length c + (x - file_length c) ≡ x = omega arith in
            let z : entry_at c count + (x - entry_at c count) ≡ x = omega arith in
            ap (λ v. drop v mid) (sym z) ∙ sym (drop-drop (x - entry_at c count) (entry_at c count) mid) ∙ ap (drop (x - entry_at c count)) made.behind
            ∙ drop-drop (x - entry_at c count) (entry_at c count) noted ∙ ap (λ v. drop v noted) (z ∙ sym y)
            ∙ sym (drop-drop (x - file_length c) (file_length c) noted) ∙ ap (drop (x - file_length c)) n.behind
            ∙ drop-drop (x - file_length c) (file_length c) old ∙ ap (λ v. drop v old) y
            ∙ ap (drop x) k.zero ∙ zero_drop x (length old)

        done : {x : ℕ} {new : List ℕ} → OutputIs x classes pool c f count mid new →
            FilledTo x (laid_out c f (changes_in classes rows pool class c f)) old new
        done {x} {new} o =
            let file : List ℕ = laid_out c f (changes_in classes rows pool class c f) in
            let past : x ≡ length file = o.past ∙ ap length same_file in
            let long = laid_size classes rows pool class c f k.formed in
            let rest : drop x mid ≡ replicate (length old - x) 0 = behind x (omega (arith, past, long)) (omega (arith, past, long, counted)) in
            record {
              past = past;
              room = omega (arith, o.room, made.size, n.size);
              is = o.is ∙ ap (λ l. l ++ drop x mid) same_file ∙ ap (λ l. file ++ l) rest;
            }

        pub pass_by : (q : Result ℕ NoRoom) (new : List ℕ) → OutputBy q classes pool c f count mid new →
            OutputFilledBy q (laid_out c f (changes_in classes rows pool class c f)) old new
        pass_by (Ok x) new o = done o
        pass_by (Err _) new o = record { over = omega (arith, o.over, ap length same_file, made.size, n.size) }

pub ruleset passes = (pass_file, pass_plans, pass_none, pass_ready, pass_by, rules)

-- The whole file.
module _ (classes rows : List (List ℕ)) (pool class : List ℕ) (f old : List ℕ) (k : FillReady classes rows f old)
    (small : (i : ℕ) → Fits w8 (get_or f i 0)) where
  formed : FormedBy (counts_in f) f
  formed = formed_tree f k.formed

  file_is : {c : TreeCounts} → c ≡ counts_in f → laid_out c f (changes_in classes rows pool class c f) ≡ applied_file (mapping_in classes rows pool) class f
  file_is {c} e =
      laid_applied c f (subst (λ x. FormedBy x f) (sym e) formed) (λ i. let h = small i in omega arith) (mapping_in classes rows pool) class e

  pub fill_over : length old < length f → NoneFilled (applied_file (mapping_in classes rows pool) class f) old
  fill_over h =
      record { over = omega (arith, longer classes rows pool class (counts_in f) f formed, ap length (file_is refl), formed.size) }

  pub fill_head : 16 ≤ length f
  fill_head = omega (arith, formed.size)

  module _ {c : TreeCounts} (e : c ≡ counts_in f) where
    pub fill_ready : length f ≤ length old → PassReady classes rows c f old
    fill_ready h =
        subst (λ x. PassReady classes rows x f old) (sym e)
        (record {
          formed = formed;
          file = k.file;
          room = omega (arith, formed.size);
          most = k.most;
          zero = k.zero;
          few = k.few_classes;
          low = k.low;
        })

    pub fill_done : (r : Result ℕ NoRoom) (new : List ℕ) → OutputFilledBy r (laid_out c f (changes_in classes rows pool class c f)) old new →
        OutputFilledBy r (applied_file (mapping_in classes rows pool) class f) old new
    fill_done r new = subst (λ x. OutputFilledBy r x old new) (file_is e)

pub ruleset filling = (fill_over, fill_head, fill_ready, fill_done, rules)
