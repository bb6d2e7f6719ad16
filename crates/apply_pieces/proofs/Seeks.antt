-- The first known piece from a place on, however the text is cut: from piece to piece. Assumes nothing.
use Rattle.std.specs.Prelude.{Some, None}
use mathlib.Core.Path.{◌≡◌, refl, sym, ◌∙◌, ap}
use mathlib.Core.Bool.{Bool, true, false}
use mathlib.Core.List.{List, [], ◌∷◌, ◌++◌, append_assoc}
use mathlib.Core.Logic.{◌⊎◌, inl, inr}
use Prim.Native.Nat.{ℕ, zero, suc, ◌+◌, ◌-◌, ◌≤◌, ◌<◌}
use native.Mathlib.Omega.{arith}
use lib.Dec.{eqb}
use lib.ListN.{length, get_or, take, drop, take-append-drop}
use lib.Seq.{drop-drop, length-take-le, take-take, get_or-take}
use Rattle.ground.specs.Choice.{pick}
use Rattle.ground.specs.Join.{join}
use Rattle.ground.specs.Look.{Look}
use Rattle.ground.specs.Put.{between}
use Rattle.ground.proofs.Cases.{le_or_lt}
use Rattle.ground.proofs.Parts.{drop_take, parts_join}
use Rattle.text_places.specs.Places.{first_from, first_where, starts}
use Rattle.text_places.specs.Inner.Blocks.{Without}
use Rattle.text_places.proofs.PlaceLaws.{byte_here}
use Rattle.table_rows.specs.Classes.{shown}
use Rattle.tables.specs.Back.{read_back}
use Rattle.tables.specs.Search.{last_raw}
use Rattle.descriptor.specs.Pieces.{parts_from, turn}
use Rattle.apply_rule.specs.Changes.{piece_known}
use Rattle.apply_rule.proofs.Pieces.{unknown_without_l}
use Rattle.apply_pieces.specs.Inner.Known.{PieceAt, raw_of, one_known, all_shown, KnownAt, piece_between}
use Rattle.apply_pieces.specs.Inner.Within.{FirstAt}
use Rattle.apply_pieces.specs.Inner.Sought.{NeverKnown, FirstKnown, SoughtSays}
use Rattle.apply_pieces.proofs.Knowing.{unclosed, closed_known, closed_turns}
use Rattle.apply_pieces.proofs.Knowing.{Unknowing, unknowing_starts, seek_on, piece_long, seek_found}
use Rattle.apply_pieces.proofs.Cuts.{found_none, found_first, without_cut, without_up_to, first_cut}

-- Bytes without an `L` stay, and hold no piece.
module _ (look : List ℕ → Look) where
  plain_known : (k : ℕ) (a l : List ℕ) → first_from (starts 0x4C) k a ≡ None →
      piece_known look (parts_from [] (a ++ l)) ≡ piece_known look (parts_from [] l)
  unfolding first_from parts_from piece_known
  plain_known k [] l e = refl
  plain_known k (x ∷ a) l e = go (eqb x 0x4C) refl (plain_known (suc k) a l) e
    where
      go : (t : Bool) → eqb x 0x4C ≡ t →
          (first_from (starts 0x4C) (suc k) a ≡ None → piece_known look (parts_from [] (a ++ l)) ≡ piece_known look (parts_from [] l)) →
          pick t (Some k) (first_from (starts 0x4C) (suc k) a) ≡ None →
          piece_known look (parts_from [] (x ∷ (a ++ l))) ≡ piece_known look (parts_from [] l)
      go true q again f = absurd (let z : ◌≡◌ {A = ℕ} 0 1 = cc in omega arith)
      go false q again f = rw q (again f)

  plain_turns : (k : ℕ) (a l : List ℕ) → first_from (starts 0x4C) k a ≡ None → turn look (a ++ l) ≡ a ++ turn look l
  unfolding first_from parts_from join
  plain_turns k [] l e = refl
  plain_turns k (x ∷ a) l e = go (eqb x 0x4C) refl (plain_turns (suc k) a l) e
    where
      go : (t : Bool) → eqb x 0x4C ≡ t → (first_from (starts 0x4C) (suc k) a ≡ None → turn look (a ++ l) ≡ a ++ turn look l) →
          pick t (Some k) (first_from (starts 0x4C) (suc k) a) ≡ None → turn look (x ∷ (a ++ l)) ≡ x ∷ (a ++ turn look l)
      go true q again f = absurd (let z : ◌≡◌ {A = ℕ} 0 1 = cc in omega arith)
      go false q again f = rw q (ap (λ m. x ∷ m) (again f))

-- One text.
module _ (classes : List (List ℕ)) (pool text : List ℕ) where
  abbrev look : List ℕ → Look
  look = shown (read_back classes pool)

  no_l : (a : ℕ) → Without 0x4C text a (length text) → one_known classes pool (drop a text) ≡ false
  no_l a w = unknown_without_l look (drop a text) (found_none w)

  module _ (a i : ℕ) (w : Without 0x4C text a i) where
    no_l_there : first_where (starts 0x4C) (between text a i) ≡ None
    no_l_there = ap (first_where (starts 0x4C)) (sym (drop_take a i text)) ∙ found_none (without_up_to w i w.goes (omega arith))

    split : drop a text ≡ between text a i ++ drop i text
    split =
        let z : a + (i - a) ≡ i = omega (arith, w.goes) in
        sym (take-append-drop (i - a) (drop a text)) ∙ ap (λ l. between text a i ++ l) (drop-drop (i - a) a text ∙ ap (λ k. drop k text) z)

    plain_unknowing : Unknowing classes pool text a i
    plain_unknowing = record {
      after = w.goes;
      inside = w.inside;
      decides = ap (one_known classes pool) split ∙ plain_known look 0 (between text a i) (drop i text) no_l_there;
      turns = ap (all_shown classes pool) split ∙ plain_turns look 0 (between text a i) (drop i text) no_l_there;
    }

  module _ (start : ℕ) (h : start < length text) (l : get_or text start 0 ≡ 0x4C) where
    begins : starts 0x4C (drop start text) ≡ true
    begins = byte_here 0x4C text start h l

    at_open : Without 0x3B text start (length text) → one_known classes pool (drop start text) ≡ false
    at_open w = unclosed look text start h begins (found_none w)

    at_piece : (semi : ℕ) → FirstAt 0x3B text start semi → PieceAt text start start (semi + 1)
    at_piece semi f =
        let g = f.before.goes in
        let y : semi - start + 1 ≡ semi + 1 - start = omega arith in
        let z : start + (semi + 1 - start) ≡ semi + 1 = omega arith in
        let n : start - start ≡ 0 = omega arith in
        record {
          after = omega arith;
          some = omega arith;
          inside = omega (arith, f.inside);
          one = λ k.
              rw (y, drop-drop (semi + 1 - start) start text, z) at
              (closed_known k text start h begins (semi - start) (found_first f));
          turns = λ k.
              rw n (rw (y, drop-drop (semi + 1 - start) start text, z) at
              (closed_turns k text start h begins (semi - start) (found_first f)));
        }

-- What is first behind a stretch in which nothing is known.
known_behind : {classes : List (List ℕ)} {pool text : List ℕ} {a b start row : ℕ} → Unknowing classes pool text a b →
    KnownAt classes pool text b start row → KnownAt classes pool text a start row
known_behind {classes} {pool} {text} {a} {b} {start} {row} u k =
    let h = u.after in
    let i = k.after in
    record {
      after = omega arith;
      inside = k.inside;
      filled = k.filled;
      ends = k.ends;
      last = k.last;
      one = u.decides ∙ k.one;
      turns =
          u.turns ∙ ap (λ l. between text a b ++ l) k.turns ∙ sym (append_assoc (between text a b) (between text b start) _)
          ∙ rw (parts_join text a b start h i);
    }

-- No piece from `a` up to `b` is known, however the text is cut.
pub record Passed (classes : List (List ℕ)) (pool text : List ℕ) (a b : ℕ) : Type 0 where
  pub after : a ≤ b
  pub inside : b ≤ length text
  pub short : (e : ℕ) → a ≤ e → e < b → one_known classes pool (drop a (take e text)) ≡ false
  pub long : (e : ℕ) → b ≤ e → e ≤ length text → Unknowing classes pool (take e text) a b

module _ {classes : List (List ℕ)} {pool text : List ℕ} {a b : ℕ} (p : Passed classes pool text a b) where
  passed_never : NeverKnown classes pool text b → NeverKnown classes pool text a
  passed_never k = record { never = λ e h i. go e h i (le_or_lt b e) }
    where
      go : (e : ℕ) → a ≤ e → e ≤ length text → (b ≤ e) ⊎ (e < b) → one_known classes pool (drop a (take e text)) ≡ false
      go e h i (inl j) = (p.long e j i).decides ∙ k.never e j i
      go e h i (inr j) = p.short e h j

  passed_first : {start row : ℕ} → FirstKnown classes pool text b start row → FirstKnown classes pool text a start row
  passed_first {start} {row} k = record {
    ends = k.ends;
    short = λ e h i. go e h i (le_or_lt b e);
    long = λ e h i.
        let last = k.long (length text) k.ends (omega arith) in
        let behind = last.after in
        known_behind (p.long e (omega arith) i) (k.long e h i);
  }
    where
      go : (e : ℕ) → a ≤ e → e < start + length (raw_of classes pool row) → (b ≤ e) ⊎ (e < b) →
          one_known classes pool (drop a (take e text)) ≡ false
      go e h i (inl j) = (p.long e j (omega (arith, k.ends))).decides ∙ k.short e j i
      go e h i (inr j) = p.short e h j

  pub passed_says : (start row : ℕ) → SoughtSays start row classes pool text b → SoughtSays start row classes pool text a
  passed_says zero row k = passed_never k
  passed_says (suc start) row k = passed_first k

-- bytes without an `L`
pub passed_plain : (classes : List (List ℕ)) (pool text : List ℕ) (a b : ℕ) → Without 0x4C text a b → Passed classes pool text a b
passed_plain classes pool text a b w = record {
  after = w.goes;
  inside = w.inside;
  short = λ e h i. no_l classes pool (take e text) a (without_up_to w e h (omega arith));
  long = λ e h i. plain_unknowing classes pool (take e text) a b (without_cut w e h i);
}

-- the end of a text
pub never_at_end : (classes : List (List ℕ)) (pool text : List ℕ) → NeverKnown classes pool text (length text)
never_at_end classes pool text = record {
  never = λ e h i.
      let size : length (take e text) ≡ e = length-take-le e text i in
      no_l classes pool (take e text) (length text)
      (record { goes = omega (arith, size); inside = omega arith; each = λ k u v. absurd (omega (arith, size)) });
}

-- From an `L` on.
module _
    (classes : List (List ℕ)) (pool text : List ℕ) (start : ℕ) (l : get_or text start 0 ≡ 0x4C) where
  -- up to where no `;` stands
  open_short : {n : ℕ} → Without 0x3B text start n → (e : ℕ) → start ≤ e → e ≤ n → one_known classes pool (drop start (take e text)) ≡ false
  open_short {n} w e h i = go (le_or_lt e start)
    where
      size : length (take e text) ≡ e
      size = length-take-le e text (omega (arith, w.inside))

      go : (e ≤ start) ⊎ (start < e) → one_known classes pool (drop start (take e text)) ≡ false
      go (inl j) =
          let here : e ≡ start = omega arith in
          no_l classes pool (take e text) start
          (record { goes = omega (arith, size); inside = omega arith; each = λ k u v. absurd (omega (arith, size)) })
      go (inr j) =
          at_open classes pool (take e text) start (omega (arith, size)) (get_or-take e text start 0 j ∙ l) (without_up_to w e h i)

  pub open_never : Without 0x3B text start (length text) → NeverKnown classes pool text start
  open_never w = record { never = λ e h i. open_short w e h i }

  module _ (semi : ℕ) (f : FirstAt 0x3B text start semi) where
    some : start ≤ semi
    some = f.before.goes

    closed : (e : ℕ) → semi < e → e ≤ length text → PieceAt (take e text) start start (semi + 1)
    closed e h i =
        let s = some in
        at_piece classes pool (take e text) start (omega (arith, length-take-le e text i)) (get_or-take e text start 0 (omega arith) ∙ l) semi
        (first_cut f e h i)

    -- the piece itself
    same_piece : (e : ℕ) → semi < e → between (take e text) start (semi + 1) ≡ between text start (semi + 1)
    same_piece e h =
        let s = some in
        sym (drop_take start (semi + 1) (take e text)) ∙ ap (drop start) (take_less e (omega arith)) ∙ drop_take start (semi + 1) text
      where
        take_less : (e : ℕ) → semi + 1 ≤ e → take (semi + 1) (take e text) ≡ take (semi + 1) text
        take_less e j = take-take (semi + 1) e text j

    nothing : (e : ℕ) → e ≤ length text → start ≤ e → Unknowing classes pool (take e text) start start
    nothing e i h = unknowing_starts classes pool (take e text) start (omega (arith, length-take-le e text i))

    pub passed_piece : last_raw classes pool (between text start (semi + 1)) ≡ None → Passed classes pool text start (semi + 1)
    passed_piece u =
        let s = some in
        record {
          after = omega arith;
          inside = omega (arith, f.inside);
          short = λ e h i. open_short f.before e h (omega arith);
          long = λ e h i.
              seek_on (nothing e i (omega arith)) (Some (piece_between start (semi + 1))) (closed e (omega arith) i) refl
              (ap (last_raw classes pool) (sym (same_piece e (omega arith)))) u;
        }

    pub first_piece : {row : ℕ} → last_raw classes pool (between text start (semi + 1)) ≡ Some row →
        FirstKnown classes pool text start start row
    first_piece {row} u =
        let s = some in
        let whole : start + length (raw_of classes pool row) ≡ semi + 1 =
        piece_long (unknowing_starts classes pool text start (omega (arith, f.inside))) (Some (piece_between start (semi + 1)))
        (at_piece classes pool text start (omega (arith, f.inside)) l semi f) refl refl u in
        record {
          ends = omega (arith, f.inside, whole);
          short = λ e h i. open_short f.before e h (omega (arith, whole));
          long = λ e h i.
              seek_found (nothing e i (omega (arith, whole))) (Some (piece_between start (semi + 1))) (closed e (omega (arith, whole)) i) refl
              (ap (last_raw classes pool) (sym (same_piece e (omega (arith, whole))))) u;
        }
