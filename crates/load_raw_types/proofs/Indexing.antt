-- The classes and their index while a pool is written: behind the classes, and one class more. Assumes nothing.
use mathlib.Core.Path.{◌≡◌, refl, sym, ◌∙◌, ap}
use mathlib.Core.List.{List, [], ◌∷◌, ◌++◌, map, append_assoc}
use mathlib.Core.Logic.{◌⊎◌, inl, inr}
use Prim.Native.Nat.{ℕ, suc, ◌+◌, ◌-◌, ◌≤◌, ◌<◌}
use native.Mathlib.Omega.{arith}
use lib.ListN.{length, get_or, take, drop, length-append, get_or-append}
use lib.Seq.{take-take, drop-drop, take_at, drop_at, get_or_at, length-take-le}
use Rattle.ground.specs.Put.{put}
use Rattle.ground.proofs.Cases.{le_or_lt}
use Rattle.ground.proofs.Parts.{drop_take}
use Rattle.table_pool.specs.Inner.Wrote.{Written}
use Rattle.table_pool.proofs.Writes.{written_length}
use Rattle.table_rows.specs.declared.rows.Text.{Text}
use Rattle.table_rows.specs.Rows.{text, pack_class, unpack_class}
use Rattle.tables.specs.declared.search.Side.TheVariants.{Display}
use Rattle.tables.specs.Back.{text_in, pair_of, read_back}
use Rattle.table_index.specs.Inner.Index.{IndexBy}
use Rattle.table_index.proofs.Keys.{keys_alike, index_kept}
use Rattle.load_raw_types.specs.Inner.Behind.{Below, Indexed}

-- A text that ends at the place `at` or before is one of the first `at` bytes.
text_of_prefix : (d : List ℕ) (at place size : ℕ) → place + size ≤ at → take size (drop place d) ≡ take size (drop place (take at d))
text_of_prefix d at place size h = sym (ap (take size) (drop_take place at d) ∙ take-take size (at - place) (drop place d) (omega arith))

prefix_put : {q : ℕ} {d : List ℕ} {at : ℕ} {b d₁ : List ℕ} → Written q d at b d₁ → take at d₁ ≡ take at d
unfolding put
prefix_put {q} {d} {at} {b} {d₁} w =
    ap (take at) w.is ∙ take_at (take at d) (b ++ drop (at + length b) d) at (length-take-le at d (let r = w.room in omega arith))

-- writing behind a text leaves it
pub text_put : {q : ℕ} {d : List ℕ} {at : ℕ} {b d₁ : List ℕ} → Written q d at b d₁ → (t : Text) → t.place + t.length ≤ at → text_in d₁ t ≡ text_in d t
text_put {d = d} {at = at} {d₁ = d₁} w t h =
    text_of_prefix d₁ at t.place t.length h ∙ ap (λ l. take t.length (drop t.place l)) (prefix_put w) ∙ sym (text_of_prefix d at t.place t.length h)

rows_alike : (rows : List (List ℕ)) (d d₁ : List ℕ) →
    ((i : ℕ) → i < length rows → text_in d₁ (unpack_class (get_or rows i [])).raw ≡ text_in d (unpack_class (get_or rows i [])).raw) →
    ((i : ℕ) → i < length rows → text_in d₁ (unpack_class (get_or rows i [])).display ≡ text_in d (unpack_class (get_or rows i [])).display) → read_back rows d₁ ≡ read_back rows d
rows_alike [] d d₁ f g = refl
rows_alike (row ∷ rows) d d₁ f g =
    let a : text_in d₁ (unpack_class row).raw ≡ text_in d (unpack_class row).raw = f 0 (omega arith) in
    let b : text_in d₁ (unpack_class row).display ≡ text_in d (unpack_class row).display = g 0 (omega arith) in
    let c : pair_of d₁ row ≡ pair_of d row = ap (λ x. record { raw = x; display = text_in d₁ (unpack_class row).display }) a ∙ ap (λ x. record { raw = text_in d (unpack_class row).raw; display = x }) b in
    let again : read_back rows d₁ ≡ read_back rows d = rows_alike rows d d₁ (λ i h. f (suc i) (omega arith)) (λ i h. g (suc i) (omega arith)) in
    ap (λ x. x ∷ read_back rows d₁) c ∙ ap (λ l. pair_of d row ∷ l) again

module _ {rows : List (List ℕ)} {pool : List ℕ} {at : ℕ} (x : Below rows pool at)
    {q : ℕ} {b pool₁ : List ℕ} (w : Written q pool at b pool₁) where
  -- what is written behind the classes leaves them
  read_back_below : read_back rows pool₁ ≡ read_back rows pool
  read_back_below =
      rows_alike rows pool pool₁ (λ i h. text_put w (unpack_class (get_or rows i [])).raw (x.raw_below i h))
      (λ i h. text_put w (unpack_class (get_or rows i [])).display (x.display_below i h))

  below_put : Below rows pool₁ q
  below_put = record {
    room = let a = w.past in let r = w.room in let n = written_length w in omega arith;
    raw_below = λ i h. let a = x.raw_below i h in let e = w.past in omega arith;
    display_below = λ i h. let a = x.display_below i h in let e = w.past in omega arith;
  }

module _ {rows : List (List ℕ)} {pool index : List ℕ} {at : ℕ} (x : Indexed rows pool index at) where
  -- for a search alone
  pub indexed_finds : IndexBy Display rows pool index
  indexed_finds = x.finds

  module _ {q : ℕ} {b pool₁ : List ℕ} (w : Written q pool at b pool₁) where
    pub read_back_put : read_back rows pool₁ ≡ read_back rows pool
    read_back_put = read_back_below x.below w

    pub indexed_put : Indexed rows pool₁ index q
    indexed_put = record {
      below = below_put x.below w;
      finds = index_kept Display rows pool pool₁ index
          (keys_alike Display rows pool pool₁ (λ i h. text_put w (unpack_class (get_or rows i [])).display (x.below.display_below i h)))
          x.finds;
    }

-- No class.
pub below_none : (pool : List ℕ) (at : ℕ) → at ≤ length pool → Below [] pool at
below_none pool at h = record { room = h; raw_below = λ i l. absurd (omega arith); display_below = λ i l. absurd (omega arith) }

map_append : {A B : Type 0} (f : A → B) (a b : List A) → map f (a ++ b) ≡ map f a ++ map f b
map_append f [] b = refl
map_append f (y ∷ a) b = ap (λ l. f y ∷ l) (map_append f a b)

-- One class more: its raw descriptor `r`, then its display descriptor `d`.
abbrev pub row_at : ℕ → List ℕ → List ℕ → List ℕ
row_at at r d = pack_class (record { raw = text at (length r); display = text (at + length r) (length d) })

module _ {q : ℕ} {pool : List ℕ} {at : ℕ} (r d : List ℕ) {pool₁ : List ℕ} (w : Written q pool at (r ++ d) pool₁) where
  written_there : drop at pool₁ ≡ r ++ (d ++ drop (at + length (r ++ d)) pool)
  unfolding put
  written_there =
      ap (drop at) w.is ∙ drop_at (take at pool) ((r ++ d) ++ drop (at + length (r ++ d)) pool) at (length-take-le at pool (let o = w.room in omega arith))
      ∙ append_assoc r d (drop (at + length (r ++ d)) pool)

  raw_there : text_in pool₁ (text at (length r)) ≡ r
  raw_there = ap (take (length r)) written_there ∙ take_at r (d ++ drop (at + length (r ++ d)) pool) (length r) refl

  display_there : text_in pool₁ (text (at + length r) (length d)) ≡ d
  display_there =
      ap (take (length d)) (sym (drop-drop (length r) at pool₁) ∙ ap (drop (length r)) written_there ∙ drop_at r (d ++ drop (at + length (r ++ d)) pool) (length r) refl)
      ∙ take_at d (drop (at + length (r ++ d)) pool) (length d) refl

  module _ {rows : List (List ℕ)} (x : Below rows pool at) where
    pub read_back_class :
        read_back (rows ++ (row_at at r d ∷ [])) pool₁ ≡ read_back rows pool ++ (record { raw = r; display = d } ∷ [])
    read_back_class =
        let pair : pair_of pool₁ (row_at at r d) ≡ record { raw = r; display = d } =
        ap (λ y. record { raw = y; display = text_in pool₁ (text (at + length r) (length d)) }) raw_there
        ∙ ap (λ y. record { raw = r; display = y }) display_there in
        map_append (pair_of pool₁) rows (row_at at r d ∷ [])
        ∙ ap (λ l. l ++ (pair_of pool₁ (row_at at r d) ∷ [])) (read_back_below x w)
        ∙ ap (λ y. read_back rows pool ++ (y ∷ [])) pair

    after : q ≡ at + length r + length d
    after = let e = w.past in let n = length-append r d in omega arith

    -- a row is one of those before, or the new one
    module _ (P : ℕ → List ℕ → Type 0) (old : (i : ℕ) → i < length rows → P i (get_or rows i []))
        (new : P (length rows) (row_at at r d)) where
      each_row : (i : ℕ) → i < length (rows ++ (row_at at r d ∷ [])) → P i (get_or (rows ++ (row_at at r d ∷ [])) i [])
      each_row i h = go (le_or_lt (length rows) i)
        where
          go : (length rows ≤ i) ⊎ (i < length rows) → P i (get_or (rows ++ (row_at at r d ∷ [])) i [])
          go (inl l) =
              let n = length-append rows (row_at at r d ∷ []) in
              let e : length rows ≡ i = omega arith in
              rw (← e, get_or_at rows (row_at at r d) [] [] (length rows) refl) new
          go (inr l) = rw (get_or-append rows (row_at at r d ∷ []) [] i l) (old i l)

    pub below_class : Below (rows ++ (row_at at r d ∷ [])) pool₁ q
    below_class =
        let put_there = below_put x w in
        let e = after in
        record {
          room = put_there.room;
          raw_below =
              each_row (λ i row. (unpack_class row).raw.place + (unpack_class row).raw.length ≤ q) put_there.raw_below (omega arith);
          display_below =
              each_row (λ i row. (unpack_class row).display.place + (unpack_class row).display.length ≤ q) put_there.display_below
              (omega arith);
        }
