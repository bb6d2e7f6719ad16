-- A descriptor whose classes are shown, and turned back, is the descriptor, for any two look-ups of which the second returns what the first
-- shows. Assumes nothing.
use mathlib.Core.Path.{◌≡◌, refl, sym, ◌∙◌, ap}
use mathlib.Core.Bool.{Bool, true, false, not}
use mathlib.Core.List.{List, [], ◌∷◌, ◌++◌, map, append_assoc, append-nil}
use Prim.Native.Nat.{ℕ}
use lib.Dec.{eqb}
use borrow.Author.Tests.{eqb-true, not-true}
use Rattle.ground.specs.Choice.{pick}
use Rattle.ground.specs.Join.{join}
use Rattle.ground.specs.Look.{Look, look_or}
use Rattle.ground.proofs.Cases.{both_left, both_right}
use Rattle.tables.specs.Check.{all_of}
use Rattle.tables.proofs.Checking.{all_append}
use Rattle.descriptor.specs.Pieces.{Part, byte, piece, parts_from, turned, turn}
use Rattle.descriptor.proofs.Turning.{only_bytes}
use Rattle.meaning.specs.TurnedBack.{no_semicolon}

-- Tests that hold of all.
module _ {A : Type 0} (p : A → Bool) where
  pub all_head : (x : A) (l : List A) → all_of p (x ∷ l) ≡ true → p x ≡ true
  unfolding all_of
  all_head x l e = both_left (p x) (all_of p l) e

  pub all_tail : (x : A) (l : List A) → all_of p (x ∷ l) ≡ true → all_of p l ≡ true
  unfolding all_of
  all_tail x l e = both_right (p x) (all_of p l) e

-- Bytes other than `;`.
abbrev unlike : ℕ → Bool
unlike x = not (eqb x 0x3B)

one_unlike : (x : ℕ) → eqb x 0x3B ≡ false → no_semicolon (x ∷ []) ≡ true
unfolding all_of
one_unlike x e = rw e

first_unlike : (x : ℕ) (m : List ℕ) → no_semicolon (x ∷ m) ≡ true → eqb x 0x3B ≡ false
first_unlike x m h = not-true (eqb x 0x3B) (all_head unlike x m h)

-- One class piece: an `L`, no `;`, and a `;` at the end.
pub record OnePiece (q : List ℕ) : Type 0 where
  pub name : List ℕ
  pub is : q ≡ 0x4C ∷ (name ++ (0x3B ∷ []))
  pub closed : no_semicolon name ≡ true

-- what has been read of a piece that has begun, or nothing
pub data Begun : List ℕ → Type 0 where
  none_begun : Begun []
  begun : (m : List ℕ) → no_semicolon m ≡ true → Begun (0x4C ∷ m)

begun_more : (a : ℕ) (w : List ℕ) (b : ℕ) → Begun (a ∷ w) → eqb b 0x3B ≡ false → Begun (a ∷ (w ++ (b ∷ [])))
begun_more a w b (begun m h) e = begun (m ++ (b ∷ [])) (all_append unlike m (b ∷ []) h (one_unlike b e))

begun_closed : (a : ℕ) (w : List ℕ) (b : ℕ) → Begun (a ∷ w) → eqb b 0x3B ≡ true → OnePiece (a ∷ (w ++ (b ∷ [])))
begun_closed a w b (begun m h) e =
    record { name = m; is = ap (λ x. 0x4C ∷ (m ++ (x ∷ []))) (eqb-true b 0x3B e); closed = h }

begun_here : (x : ℕ) → eqb x 0x4C ≡ true → Begun (x ∷ [])
unfolding all_of
begun_here x e = rw (eqb-true x 0x4C e) (begun [] refl)

-- How one piece, a byte that begins none, and a piece that is not closed are read, whatever follows.
piece_from : (w m r : List ℕ) → no_semicolon m ≡ true →
    parts_from (0x4C ∷ w) (m ++ (0x3B ∷ r)) ≡ piece (0x4C ∷ (w ++ (m ++ (0x3B ∷ [])))) ∷ parts_from [] r
unfolding parts_from
piece_from w [] r h = refl
piece_from w (x ∷ m) r h =
    rw (first_unlike x m h)
    (piece_from (w ++ (x ∷ [])) m r (all_tail unlike x m h)
    ∙ ap (λ l. piece (0x4C ∷ l) ∷ parts_from [] r) (append_assoc w (x ∷ []) (m ++ (0x3B ∷ []))))

unclosed_from : (w m : List ℕ) → no_semicolon m ≡ true → parts_from (0x4C ∷ w) m ≡ map byte (0x4C ∷ (w ++ m))
unfolding parts_from
unclosed_from w [] h = ap (λ l. map byte (0x4C ∷ l)) (sym (append-nil w))
unclosed_from w (x ∷ m) h =
    rw (first_unlike x m h)
    (unclosed_from (w ++ (x ∷ [])) m (all_tail unlike x m h) ∙ ap (λ l. map byte (0x4C ∷ l)) (append_assoc w (x ∷ []) m))

module _ (look : List ℕ → Look) where
  abbrev made : List Part → List ℕ
  made ps = join (map (turned look) ps)

  one_piece : {q : List ℕ} → OnePiece q → (r : List ℕ) → turn look (q ++ r) ≡ look_or q (look q) ++ turn look r
  unfolding parts_from join
  one_piece {q} o r =
      let split : q ++ r ≡ 0x4C ∷ (o.name ++ (0x3B ∷ r)) =
      ap (λ l. l ++ r) o.is ∙ ap (λ l. 0x4C ∷ l) (append_assoc o.name (0x3B ∷ []) r) in
      ap (turn look) split
      ∙ ap made (piece_from [] o.name r o.closed)
      ∙ ap (λ l. look_or l (look l) ++ turn look r) (sym o.is)

  no_piece : (b : ℕ) (r : List ℕ) → eqb b 0x4C ≡ false → turn look (b ∷ r) ≡ b ∷ turn look r
  unfolding parts_from join
  no_piece b r e = rw e

  begun_stays : {w : List ℕ} → Begun w → turn look w ≡ w
  unfolding parts_from join
  begun_stays none_begun = refl
  begun_stays (begun m h) = ap made (unclosed_from [] m h) ∙ only_bytes look (0x4C ∷ m)

-- Two look-ups: what the first shows for a class is one piece, and the second returns the class for it.
pub record Returns (there again : List ℕ → Look) (p : List ℕ) : Type 0 where
  pub one : OnePiece (look_or p (there p))
  pub back : look_or (look_or p (there p)) (again (look_or p (there p))) ≡ p

module _ (there again : List ℕ → Look) (fine : Part → Bool)
    (returns : (p : List ℕ) → OnePiece p → fine (piece p) ≡ true → Returns there again p) where
  abbrev Comes : List ℕ → List Part → Type 0
  Comes whole ps = all_of fine ps ≡ true → turn again (made there ps) ≡ whole

  trip_from : (w s : List ℕ) → Begun w → Comes (w ++ s) (parts_from w s)
  unfolding parts_from join
  trip_from w [] b e = ap (turn again) (only_bytes there w) ∙ begun_stays again b ∙ sym (append-nil w)
  trip_from [] (x ∷ s) b e = go (eqb x 0x4C) refl (trip_from (x ∷ []) s) (trip_from [] s none_begun) e
    where
      go : (t : Bool) → eqb x 0x4C ≡ t → (Begun (x ∷ []) → Comes (x ∷ s) (parts_from (x ∷ []) s)) → Comes s (parts_from [] s) →
          Comes (x ∷ s) (pick t (parts_from (x ∷ []) s) (byte x ∷ parts_from [] s))
      go true q begins plain f = begins (begun_here x q) f
      go false q begins plain f =
          no_piece again x (made there (parts_from [] s)) q
          ∙ ap (λ l. x ∷ l) (plain (all_tail fine (byte x) (parts_from [] s) f))
  trip_from (a ∷ w) (x ∷ s) b e = go (eqb x 0x3B) refl (trip_from [] s none_begun) (trip_from here s) e
    where
      here : List ℕ
      here = a ∷ (w ++ (x ∷ []))

      go : (t : Bool) → eqb x 0x3B ≡ t → Comes s (parts_from [] s) → (Begun here → Comes (here ++ s) (parts_from here s)) →
          Comes (a ∷ (w ++ (x ∷ s))) (pick t (piece here ∷ parts_from [] s) (parts_from here s))
      go true q closed goes f =
          let r = returns here (begun_closed a w x b q) (all_head fine (piece here) (parts_from [] s) f) in
          one_piece again r.one (made there (parts_from [] s))
          ∙ rw (r.back, closed (all_tail fine (piece here) (parts_from [] s) f)) (append_assoc (a ∷ w) (x ∷ []) s)
      go false q closed goes f = goes (begun_more a w x b q) f ∙ append_assoc (a ∷ w) (x ∷ []) s

  -- every descriptor comes back
  pub round_trip : (d : List ℕ) → all_of fine (parts_from [] d) ≡ true → turn again (turn there d) ≡ d
  round_trip d e = trip_from [] d none_begun e
