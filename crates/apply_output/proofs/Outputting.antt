-- The whole output, or no room for it. Assumes nothing.
use Rattle.std.specs.Prelude.{Result, Ok, Err}
use mathlib.Core.Path.{◌≡◌, sym, ◌∙◌, ap}
use mathlib.Core.List.{List, ◌++◌, map, append_assoc}
use Prim.Native.Nat.{ℕ, ◌+◌, ◌*◌, ◌-◌, ◌≤◌, ◌<◌}
use native.Mathlib.Omega.{arith}
use lib.ListN.{length, take, drop}
use lib.Seq.{take-take}
use mir.Val.{Fits}
use mir.Syntax.{w64}
use borrow.Author.Rules.{rules}
use Rattle.ground.specs.Join.{join}
use Rattle.ground.specs.Put.{between}
use Rattle.ground.proofs.Parts.{drop_take}
use Rattle.tree_rule.specs.declared.TreeCounts.{TreeCounts}
use Rattle.tree_rule.specs.Files.{
  tree_counts,
  nodes_start,
  tokens_start,
  names_start,
  bytes_start,
  file_length,
  bytes_in,
  name_row_bytes,
  count_bytes,
}
use Rattle.tree_rule.proofs.RowLaws.{list_length}
use Rattle.apply_rule.specs.Applying.{name_rows}
use Rattle.apply_rule.specs.Inner.Plans.{laid_counts}
use Rattle.apply_plans.specs.Inner.Entries.{planned_text, planned_names}
use Rattle.apply_output.specs.Inner.Output.{
  Ready,
  output_from,
  texts_start,
  NamesReady,
  NamesBelow,
  OutputOver,
  NamesBy,
  FinishReady,
  finished,
  OutputIs,
}
use Rattle.apply_output.proofs.Naming.{output_length}
use Rattle.apply_output.proofs.Finishing.{cut, stretches}
use Rattle.table_pool.specs.declared.write.NoRoom.{NoRoom}
use Rattle.table_pool.specs.Inner.Wrote.{no_room}

seven : (a b c d e g h t : List ℕ) →
    a ++ (b ++ (c ++ (d ++ (e ++ (g ++ (h ++ t)))))) ≡ (a ++ (b ++ (c ++ (d ++ (e ++ (g ++ h)))))) ++ t
seven a b c d e g h t = simp append_assoc

-- a part of what is the same up to a place
same_part : (old new : List ℕ) (a b n : ℕ) → b ≤ n → take n new ≡ take n old → between new a b ≡ between old a b
same_part old new a b n h e =
    let up : take b new ≡ take b old = sym (take-take b n new h) ∙ ap (take b) e ∙ take-take b n old h in
    sym (drop_take a b new) ∙ ap (drop a) up ∙ drop_take a b old

module _
    {index : List ℕ} {classes : List (List ℕ)} {pool : List ℕ} {c : TreeCounts} {f : List ℕ} {count : ℕ} {out : List ℕ}
    (k : Ready index classes pool c f count out) where
  pub rows_fit : Fits w64 (8 * count)
  rows_fit = omega (arith, k.rows, k.most)

  abbrev new : List (List ℕ)
  new = planned_names classes pool c f out count

  many : length new ≡ count
  many = list_length (planned_text classes pool c f out) 0 count

  module _ {s : ℕ} (g : s ≡ file_length c) where
    pub texts_fit : Fits w64 (s + 8 * count)
    texts_fit = omega (arith, k.rows, k.room, k.most)

    pub output_over : length out < s + 8 * count → OutputOver classes pool c f count out
    output_over h = record { over = omega (arith, output_length k) }

    module _ (h : s + 8 * count ≤ length out) where
      pub output_ready : NamesReady index classes pool c f count out
      output_ready = record { ready = k; rows_room = omega arith }

      module _ (r : Result ℕ NoRoom) (out₁ : List ℕ) (w : NamesBy r classes pool c f count out out₁) where
        pub output_none : r ≡ Err no_room → OutputOver classes pool c f count out
        output_none i = rw i at w

        module _ {«end» : ℕ} (i : r ≡ Ok «end») where
          put_there : NamesBelow count classes pool c f count «end» out out₁
          put_there = rw i at w

          pub output_order : s + 8 * count ≤ «end»
          output_order = omega (arith, put_there.past)

          size : «end» - (s + 8 * count) ≡ length (join new)
          size = omega (arith, put_there.past)

          pub output_finish : FinishReady c f count («end» - (s + 8 * count)) out₁
          output_finish = record {
            file = k.formed.size;
            room = omega (arith, put_there.past, put_there.room, put_there.size);
            most = omega (arith, put_there.size, k.most);
          }

          tokens : between out₁ (tokens_start c) (names_start c) ≡ between out (tokens_start c) (names_start c)
          tokens = same_part out out₁ (tokens_start c) (names_start c) (bytes_start c) (omega arith) put_there.before

          texts : drop (texts_start c count) out₁ ≡ join new ++ drop «end» out
          texts = cut out₁ (texts_start c count) «end» (omega (arith, put_there.past)) ∙ rw (put_there.texts, put_there.behind)

          whole : finished c f count («end» - (s + 8 * count)) out₁ ≡ output_from classes pool c f count out ++ drop «end» out
          whole =
              stretches c f count («end» - (s + 8 * count)) out₁ output_finish
              ∙ rw (tokens, put_there.rows, texts, size)
              (ap (λ n. count_bytes (tree_counts c.nodes c.tokens (c.names + n) (c.bytes + length (join new))) ++ rest) (sym many)
              ∙ seven (count_bytes (laid_counts c new)) (between f nodes_start (tokens_start c)) (between out (tokens_start c) (names_start c))
              (between f (names_start c) (bytes_start c)) (join (map name_row_bytes (name_rows c.bytes new))) (bytes_in c f)
              (join new) (drop «end» out))
            where
              rest : List ℕ
              rest =
                  between f nodes_start (tokens_start c) ++
                  (between out (tokens_start c) (names_start c) ++
                  (between f (names_start c) (bytes_start c) ++
                  (join (map name_row_bytes (name_rows c.bytes new)) ++ (bytes_in c f ++ (join new ++ drop «end» out)))))

          pub output_done : {out₂ : List ℕ} → out₂ ≡ finished c f count («end» - (s + 8 * count)) out₁ →
              OutputIs «end» classes pool c f count out out₂
          output_done j = record { past = omega (arith, put_there.past, output_length k); room = put_there.room; is = j ∙ whole }

pub ruleset outputs = (
  rows_fit,
  texts_fit,
  output_over,
  output_ready,
  output_none,
  output_order,
  output_finish,
  output_done,
  rules,
)
