-- One node: its line context, then its tokens. Assumes nothing.
use Rattle.std.specs.Prelude.{Result, Ok, Err}
use mathlib.Core.Path.{◌≡◌, sym, ◌∙◌, ap, subst}
use mathlib.Core.List.{List, map}
use Prim.Native.Nat.{ℕ, ◌+◌, ◌*◌, ◌≤◌}
use native.Mathlib.Omega.{arith}
use lib.Dec.{eqb}
use lib.ListN.{length, take, drop}
use mir.Val.{Fits}
use mir.Syntax.{w32, w64}
use borrow.Author.Rules.{rules}
use Rattle.ground.specs.Choice.{pick}
use Rattle.ground.specs.Join.{join}
use Rattle.ground.specs.Put.{put, between}
use Rattle.ground.proofs.Parts.{drop_take}
use Rattle.ground.proofs.PutLaws.{length_put}
use Rattle.tree_rule.specs.declared.TreeCounts.{TreeCounts}
use Rattle.tree_rule.specs.Words.{word_at, word_bytes, list_from}
use Rattle.tree_rule.specs.Files.{nodes_start, tokens_start, names_start, token_at, token_row_bytes}
use Rattle.tree_rule.proofs.WordLaws.{bytes_length}
use Rattle.tree_rule.proofs.RowLaws.{list_same}
use Rattle.tree_rule.proofs.PutWords.{drop_put, part_after, word_take, word_before, word_after, word_put}
use Rattle.apply_rule.specs.Changes.{Changed}
use Rattle.apply_rule.specs.Applying.{new_names, numbered}
use Rattle.apply_pieces.specs.Inner.Notes.{NotesTold}
use Rattle.apply_members.specs.declared.node.NodeNote.{NodeNote}
use Rattle.apply_members.specs.Inner.Notes.{MeantBy}
use Rattle.apply_plans.specs.Inner.Entries.{entry_at, planned_text}
use Rattle.apply_plans.specs.Inner.Noted.{ParentBelow, context_noted}
use Rattle.apply_plans.specs.Inner.Passed.{NodeReady, node_planned, NodeBy}
use Rattle.apply_plans.specs.Inner.Plan.{plan_change}
use Rattle.apply_plans.specs.Inner.Put.{NoRow}
use Rattle.apply_plans.specs.Inner.Tokens.{TokensReady, planned_from, TokensBy}
use Rattle.apply_plans.proofs.Changing.{plan_kept}
use Rattle.table_pool.specs.declared.write.NoRoom.{NoRoom}

-- words before a place, by what is taken
pub word_front : (a b : List ℕ) (e : ℕ) → take e a ≡ take e b → (p : ℕ) → p + 4 ≤ e → word_at a p ≡ word_at b p
word_front a b e h p l = sym (word_take a e p l) ∙ ap (λ v. word_at v p) h ∙ word_take b e p l

-- parts before a place likewise
pub part_front : (a b : List ℕ) (e : ℕ) → take e a ≡ take e b → (s : ℕ) → s ≤ e → between a s e ≡ between b s e
part_front a b e h s l = sym (drop_take s e a) ∙ ap (drop s) h ∙ drop_take s e b

module _ (classes rows : List (List ℕ)) (pool : List ℕ) (c : TreeCounts) (f : List ℕ) (node first count : ℕ) (note : NodeNote) (names : ℕ) (out : List ℕ)
    (k : NodeReady classes rows pool c f node first count note names out) where
  pub node_file : nodes_start + 8 * node + 8 ≤ length f
  node_file = omega (arith, k.there, k.formed.size)

  pub node_out : nodes_start + 8 * node + 8 ≤ length out
  node_out = omega (arith, k.there, k.rows_room)

  pub node_parent : ParentBelow f node
  node_parent = record { lower = λ h. k.formed.lower node h k.there }

  pub node_word : 16 + 8 * node + 4 ≤ length out
  node_word = omega (arith, k.there, k.rows_room)

  pub nodes_fit : Fits w64 (8 * node)
  nodes_fit = omega (arith, k.there, k.rows_room, k.most)

  pub node_fits : Fits w64 (16 + 8 * node)
  node_fits = omega (arith, k.there, k.rows_room, k.most)

  module _ {w : ℕ} (e : w ≡ context_noted f out node note) {mid : List ℕ} (g : mid ≡ put out (16 + 8 * node) (word_bytes w)) where
    fits : nodes_start + 8 * node + length (word_bytes w) ≤ length out
    fits = omega (arith, bytes_length w, k.there, k.rows_room)

    mid_size : length mid ≡ length out
    mid_size = ap length g ∙ length_put out (nodes_start + 8 * node) (word_bytes w) fits

    later_word : (p : ℕ) → tokens_start c ≤ p → word_at mid p ≡ word_at out p
    later_word p h = ap (λ v. word_at v p) g ∙ word_after out (nodes_start + 8 * node) (word_bytes w) fits p (omega (arith, bytes_length w, k.there))

    mid_told : NotesTold classes pool c f mid
    mid_told = record {
      room = omega (arith, k.told.room, mid_size);
      says = λ n h. rw (later_word (names_start c + 8 * n) (omega arith), later_word (names_start c + 8 * n + 4) (omega arith)) (k.told.says n h);
    }

    pub tokens_ready : (home : ℕ) → MeantBy classes rows pool home (context_noted f out node note) →
        TokensReady classes rows pool c f home w note.named first count names mid
    tokens_ready home m = record {
      formed = k.formed;
      inside = k.inside;
      few = k.few;
      told = mid_told;
      meant = rw e m;
      low = k.low;
      rows_room = omega (arith, k.rows_room, mid_size);
      most = omega (arith, k.most, mid_size);
    }

    module _ (small : Fits w32 w) (home : ℕ) where
      abbrev by : ℕ → List ℕ → List Changed
      by v o = planned_from classes rows pool c f o home v note.member note.named first count

      part_is : by w mid ≡ node_planned classes rows pool c f out home node first count note
      part_is =
          list_same _ _ first first count
          (λ j h. ap (λ v. record { token = token_at c f (first + j); change = plan_change classes pool c f v })
          (plan_kept classes rows pool c f out mid home w (pick (eqb (first + j) note.member) note.named 0) k.formed
          (λ n l. later_word (names_start c + 8 * n) (omega arith)) (λ n l. later_word (names_start c + 8 * n + 4) (omega arith))
          (first + j) (omega (arith, k.inside))))
          ∙ ap (λ v. by v out) e

      pub node_done : (r : Result ℕ NoRoom) (new : List ℕ) →
          TokensBy r classes rows pool c f home w note.member note.named first count names mid new →
          NodeBy r classes rows pool c f home node first count note names out new
      node_done (Ok more) new t = record {
        size = t.size ∙ mid_size;
        counted = t.counted ∙ ap (λ v. names + length (new_names v)) part_is;
        room = omega (arith, t.room, mid_size);
        contexts = λ j h. front (nodes_start + 8 * j) (omega (arith, k.there))
            ∙ ap (λ v. word_at v (nodes_start + 8 * j)) g
            ∙ word_before out (nodes_start + 8 * node) (word_bytes w) fits (nodes_start + 8 * j) (omega arith);
        context = front (nodes_start + 8 * node) (omega (arith, k.there)) ∙ ap (λ v. word_at v (nodes_start + 8 * node)) g
            ∙ word_put out (nodes_start + 8 * node) w (let z = small in omega arith) fits ∙ e;
        earlier = part_front new mid (tokens_start c + 12 * first) t.before (tokens_start c) (omega arith)
            ∙ ap (λ v. between v (tokens_start c) (tokens_start c + 12 * first)) g
            ∙ part_after out (nodes_start + 8 * node) (word_bytes w) fits (tokens_start c) (tokens_start c + 12 * first) (omega (arith, bytes_length w, k.there));
        tokens = t.tokens ∙ ap (λ v. join (map token_row_bytes (numbered (c.names + names) v))) part_is;
        kept = λ p l m. t.kept p l m ∙ later_word p (omega arith);
        texts = ap (λ v. list_from (planned_text classes pool c f new) names (length (new_names v))) (sym part_is) ∙ t.texts ∙ ap new_names part_is;
        fits = t.fits;
        behind = t.behind ∙ ap (drop (entry_at c more)) g
            ∙ drop_put out (nodes_start + 8 * node) (word_bytes w) fits (entry_at c more) (omega (arith, bytes_length w, k.there));
      }
        where
          front : (p : ℕ) → p + 4 ≤ tokens_start c → word_at new p ≡ word_at mid p
          front p h = word_front new mid (tokens_start c + 12 * first) t.before p (omega arith)
      node_done (Err _) new t =
          let over : NoRow c (names + length (new_names (node_planned classes rows pool c f out home node first count note))) mid =
          subst (λ v. NoRow c (names + length (new_names v)) mid) part_is t in
          record { over = omega (arith, over.over, mid_size) }

pub ruleset noding = (node_file, node_out, node_parent, node_word, nodes_fit, node_fits, tokens_ready, node_done, rules)
