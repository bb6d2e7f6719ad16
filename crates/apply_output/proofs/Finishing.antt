-- The counts, and what stands as it did in the tree: with the rows and texts that stand there already they are the output. Assumes nothing.
use mathlib.Core.Path.{◌≡◌, sym, ◌∙◌, ap}
use mathlib.Core.List.{List, ◌++◌}
use Prim.Native.Nat.{ℕ, ◌+◌, ◌*◌, ◌-◌, ◌≤◌}
use native.Mathlib.Omega.{arith}
use lib.ListN.{length, drop, take-append-drop}
use lib.Seq.{drop-drop}
use mir.Val.{Fits}
use mir.Syntax.{w32}
use borrow.Author.Rules.{rules}
use Rattle.ground.specs.Put.{put, between}
use Rattle.ground.proofs.PutLaws.{length_put}
use Rattle.tree_rule.specs.declared.TreeCounts.{TreeCounts}
use Rattle.tree_rule.specs.Files.{tree_counts, nodes_start, tokens_start, names_start, bytes_start, bytes_in, count_bytes}
use Rattle.tree_rule.proofs.Reading.{bytes_count}
use Rattle.tree_rule.proofs.PutWords.{drop_put, part_before, part_after, part_more}
use Rattle.apply_output.specs.Inner.Output.{texts_start, FinishReady, finished}
use Rattle.apply_output.proofs.Listing.{counts_length}
use Rattle.ground.proofs.Parts.{between_length}

-- what stands from a place on is a part and what stands behind it
pub cut : (s : List ℕ) (a b : ℕ) → a ≤ b → drop a s ≡ between s a b ++ drop b s
cut s a b h =
    let z : a + (b - a) ≡ b = omega arith in
    sym (ap (λ l. between s a b ++ l) (sym (drop-drop (b - a) a s ∙ ap (λ n. drop n s) z)) ∙ take-append-drop (b - a) (drop a s))

-- what was put stands there
placed : (d : List ℕ) (at : ℕ) (s : List ℕ) (e : ℕ) → e ≡ at + length s → e ≤ length d → between (put d at s) at e ≡ s
placed d at s e g h =
    let z : at - at ≡ 0 = omega arith in
    ap (between (put d at s) at) g ∙ part_more d at s (omega arith) at (omega arith) ∙ rw z

-- Four texts that are put.
module _ (c : TreeCounts) (f : List ℕ) (count size : ℕ) (out : List ℕ) (k : FinishReady c f count size out) where
  abbrev laid : TreeCounts
  laid = tree_counts c.nodes c.tokens (c.names + count) (c.bytes + size)

  pub count_narrow : Fits w32 count
  count_narrow = omega (arith, k.room, k.most)

  pub size_narrow : Fits w32 size
  size_narrow = omega (arith, k.room, k.most)

  pub all_names_fit : Fits w32 (c.names + count)
  all_names_fit = omega (arith, k.room, k.most)

  pub all_bytes_fit : Fits w32 (c.bytes + size)
  all_bytes_fit = omega (arith, k.room, k.most)

  abbrev one : List ℕ
  one = put out 0 (count_bytes laid)

  abbrev nodes : List ℕ
  nodes = between f nodes_start (tokens_start c)

  abbrev two : List ℕ
  two = put one nodes_start nodes

  abbrev names : List ℕ
  names = between f (names_start c) (bytes_start c)

  abbrev three : List ℕ
  three = put two (names_start c) names

  abbrev four : List ℕ
  four = put three (bytes_start c + 8 * count) (bytes_in c f)

  counts_size : length (count_bytes laid) ≡ 16
  counts_size = counts_length laid

  nodes_size : length nodes ≡ 8 * c.nodes
  nodes_size = let l = between_length f nodes_start (tokens_start c) (omega (arith, k.file)) in omega arith

  names_size : length names ≡ 8 * c.names
  names_size = let l = between_length f (names_start c) (bytes_start c) (omega (arith, k.file)) in omega arith

  bytes_size : length (bytes_in c f) ≡ c.bytes
  bytes_size = bytes_count c f k.file

  fits_one : 0 + length (count_bytes laid) ≤ length out
  fits_one = omega (arith, counts_size, k.room)

  one_size : length one ≡ length out
  one_size = length_put out 0 (count_bytes laid) fits_one

  fits_two : nodes_start + length nodes ≤ length one
  fits_two = omega (arith, nodes_size, one_size, k.room)

  two_size : length two ≡ length out
  two_size = length_put one nodes_start nodes fits_two ∙ one_size

  fits_three : names_start c + length names ≤ length two
  fits_three = omega (arith, names_size, two_size, k.room)

  three_size : length three ≡ length out
  three_size = length_put two (names_start c) names fits_three ∙ two_size

  fits_four : bytes_start c + 8 * count + length (bytes_in c f) ≤ length three
  fits_four = omega (arith, bytes_size, three_size, k.room)

  -- each stretch
  counts_there : between four 0 16 ≡ count_bytes laid
  counts_there =
      part_before three (bytes_start c + 8 * count) (bytes_in c f) fits_four 0 16 (omega arith)
      ∙ part_before two (names_start c) names fits_three 0 16 (omega arith)
      ∙ part_before one nodes_start nodes fits_two 0 16 (omega arith)
      ∙ placed out 0 (count_bytes laid) 16 (omega (arith, counts_size)) (omega (arith, k.room))

  nodes_there : between four 16 (tokens_start c) ≡ nodes
  nodes_there =
      part_before three (bytes_start c + 8 * count) (bytes_in c f) fits_four 16 (tokens_start c) (omega arith)
      ∙ part_before two (names_start c) names fits_three 16 (tokens_start c) (omega arith)
      ∙ placed one nodes_start nodes (tokens_start c) (omega (arith, nodes_size)) (omega (arith, one_size, k.room))

  tokens_there : between four (tokens_start c) (names_start c) ≡ between out (tokens_start c) (names_start c)
  tokens_there =
      part_before three (bytes_start c + 8 * count) (bytes_in c f) fits_four (tokens_start c) (names_start c) (omega arith)
      ∙ part_before two (names_start c) names fits_three (tokens_start c) (names_start c) (omega arith)
      ∙ part_after one nodes_start nodes fits_two (tokens_start c) (names_start c) (omega (arith, nodes_size))
      ∙ part_after out 0 (count_bytes laid) fits_one (tokens_start c) (names_start c) (omega (arith, counts_size))

  names_there : between four (names_start c) (bytes_start c) ≡ names
  names_there =
      part_before three (bytes_start c + 8 * count) (bytes_in c f) fits_four (names_start c) (bytes_start c) (omega arith)
      ∙ placed two (names_start c) names (bytes_start c) (omega (arith, names_size)) (omega (arith, two_size, k.room))

  rows_there : between four (bytes_start c) (bytes_start c + 8 * count) ≡ between out (bytes_start c) (bytes_start c + 8 * count)
  rows_there =
      part_before three (bytes_start c + 8 * count) (bytes_in c f) fits_four (bytes_start c) (bytes_start c + 8 * count) (omega arith)
      ∙ part_after two (names_start c) names fits_three (bytes_start c) (bytes_start c + 8 * count) (omega (arith, names_size))
      ∙ part_after one nodes_start nodes fits_two (bytes_start c) (bytes_start c + 8 * count) (omega (arith, nodes_size))
      ∙ part_after out 0 (count_bytes laid) fits_one (bytes_start c) (bytes_start c + 8 * count) (omega (arith, counts_size))

  bytes_there : between four (bytes_start c + 8 * count) (texts_start c count) ≡ bytes_in c f
  bytes_there =
      placed three (bytes_start c + 8 * count) (bytes_in c f) (texts_start c count) (omega (arith, bytes_size))
      (omega (arith, three_size, k.room))

  texts_there : drop (texts_start c count) four ≡ drop (texts_start c count) out
  texts_there =
      drop_put three (bytes_start c + 8 * count) (bytes_in c f) fits_four (texts_start c count) (omega (arith, bytes_size))
      ∙ drop_put two (names_start c) names fits_three (texts_start c count) (omega (arith, names_size))
      ∙ drop_put one nodes_start nodes fits_two (texts_start c count) (omega (arith, nodes_size))
      ∙ drop_put out 0 (count_bytes laid) fits_one (texts_start c count) (omega (arith, counts_size))

  -- all stretches, one after the other
  pub stretches : finished c f count size out ≡
      count_bytes laid ++
      (nodes ++
      (between out (tokens_start c) (names_start c) ++
      (names ++
      (between out (bytes_start c) (bytes_start c + 8 * count) ++ (bytes_in c f ++ drop (texts_start c count) out)))))
  stretches =
      cut four 0 16 (omega arith)
      ∙ rw (
        counts_there,
        cut four 16 (tokens_start c) (omega arith),
        nodes_there,
        cut four (tokens_start c) (names_start c) (omega arith),
        tokens_there,
        cut four (names_start c) (bytes_start c) (omega arith),
        names_there,
        cut four (bytes_start c) (bytes_start c + 8 * count) (omega arith),
        rows_there,
        cut four (bytes_start c + 8 * count) (texts_start c count) (omega arith),
        bytes_there,
        texts_there,
      )

-- so by what each call leaves
pub finish_done : (c : TreeCounts) (f : List ℕ) (count size : ℕ) (out : List ℕ) {s t n : ℕ} →
    t ≡ tokens_start c → n ≡ names_start c → s ≡ bytes_start c → {out₁ out₂ out₃ out₄ : List ℕ} →
    out₁ ≡ put out 0 (count_bytes (tree_counts c.nodes c.tokens (c.names + count) (c.bytes + size))) →
    out₂ ≡ put out₁ 16 (between f 16 t) → out₃ ≡ put out₂ n (between f n s) →
    out₄ ≡ put out₃ (s + 8 * count) (between f s (s + c.bytes)) → out₄ ≡ finished c f count size out
finish_done c f count size out e g h i j l m = m ∙ rw (l, j, i, e, g, h)

pub ruleset finishing = (count_narrow, size_narrow, all_names_fit, all_bytes_fit, finish_done, rules)
