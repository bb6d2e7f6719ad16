-- The classes of a mapping: what a raw descriptor shows as is turned back to it, where no display descriptor stands on two class lines and
-- no display name has a `;`. Assumes nothing.
use mathlib.Core.Path.{◌≡◌, refl, ◌∙◌, ap}
use mathlib.Core.Bool.{Bool, true, false, not}
use mathlib.Core.List.{List, [], ◌∷◌, ◌++◌, map}
use Prim.Native.Nat.{ℕ}
use lib.Dec.{eqb}
use borrow.Author.Tests.{not-true}
use Rattle.ground.specs.Choice.{pick, either}
use Rattle.ground.specs.Look.{Look, known, unknown, is_known, look_or, or_look}
use Rattle.ground.proofs.Cases.{both_left, both_right, either_left, either_right, clash}
use Rattle.text_places.specs.Places.{same}
use Rattle.text_places.specs.Spans.{part_of}
use Rattle.text_places.proofs.PlaceLaws.{same_equal, same_refl}
use Rattle.line.specs.declared.line.Line.{Line}
use Rattle.line.specs.declared.line.Line.TheVariants.{Blank, Comment, Class, Field, Method, Refused}
use Rattle.line.specs.Kinds.{line_of}
use Rattle.table_rows.specs.Classes.{Pair, shown, back}
use Rattle.table_pool.specs.Names.{slash, slashed}
use Rattle.tables.specs.Check.{all_of}
use Rattle.descriptor.specs.Pieces.{piece, parts_from, turn}
use Rattle.load_rule.specs.Classes.{class_in, classes_of}
use Rattle.tree_rule.specs.Theorems.{Every, every_none, every_one}
use Rattle.apply_rule.proofs.Fitting.{every_append}
use Rattle.meaning.specs.TurnedBack.{is_among, each_once, class_display, displays_once, display_name_in, display_names, no_semicolon, names_closed, unmistaken}
use Rattle.meaning.proofs.RoundTrip.{all_head, all_tail, OnePiece, Returns, round_trip}

-- a display descriptor that no class has is turned back to none
back_unknown : (q : List ℕ) (cs : List Pair) → is_among q (map class_display cs) ≡ false → back cs q ≡ unknown
unfolding is_among shown
back_unknown q [] e = refl
back_unknown q (c ∷ cs) e =
    rw (
      back_unknown q cs (either_right (same c.display q) (is_among q (map class_display cs)) e),
      either_left (same c.display q) (is_among q (map class_display cs)) e,
    )

-- one that a class has is turned back to the raw descriptor that shows it
back_shown : (cs : List Pair) → each_once (map class_display cs) ≡ true → (p : List ℕ) {q : List ℕ} → shown cs p ≡ known q →
    back cs q ≡ known p
unfolding each_once shown
back_shown [] h p e = clash (ap is_known e) refl
back_shown (c ∷ cs) h p {q} e = go (shown cs p) refl (λ later s. back_shown cs later p s) e
  where
    rest : Bool
    rest = is_among c.display (map class_display cs)

    here : (t : Bool) → same c.raw p ≡ t → pick t (known c.display) unknown ≡ known q →
        or_look (back cs q) (pick (same c.display q) (known c.raw) unknown) ≡ known p
    here false s f = clash (ap is_known f) refl
    here true s f =
        let is : c.display ≡ q = cc in
        let raw : c.raw ≡ p = same_equal c.raw p s in
        let others : back cs c.display ≡ unknown =
        back_unknown c.display cs (not-true rest (both_left (not rest) (each_once (map class_display cs)) h)) in
        rw (← is, others, same_refl c.display, raw)

    go : (l : Look) → shown cs p ≡ l → (each_once (map class_display cs) ≡ true → shown cs p ≡ known q → back cs q ≡ known p) →
        or_look l (pick (same c.raw p) (known c.display) unknown) ≡ known q →
        or_look (back cs q) (pick (same c.display q) (known c.raw) unknown) ≡ known p
    go (known x) s later f = rw (later (both_right (not rest) (each_once (map class_display cs)) h) (s ∙ f))
    go unknown s later f = here (same c.raw p) refl f

-- every display descriptor is one piece
abbrev DisplayClosed : Pair → Type 0
DisplayClosed c = OnePiece c.display

slash_closed : (x : ℕ) → eqb x 0x3B ≡ false → eqb (slash x) 0x3B ≡ false
slash_closed x e = go (eqb x 0x2E)
  where
    go : (t : Bool) → eqb (pick t 0x2F x) 0x3B ≡ false
    go true = refl
    go false = e

slashed_closed : (s : List ℕ) → no_semicolon s ≡ true → no_semicolon (slashed s) ≡ true
unfolding all_of
slashed_closed [] e = refl
slashed_closed (x ∷ s) e =
    rw (
      slash_closed x (not-true (eqb x 0x3B) (all_head (λ y. not (eqb y 0x3B)) x s e)),
      slashed_closed s (all_tail (λ y. not (eqb y 0x3B)) x s e),
    )

class_closed : (l : List ℕ) (k : Line) → all_of no_semicolon (display_name_in l k) ≡ true → Every DisplayClosed (class_in l k)
class_closed l Blank e = every_none
class_closed l (Comment brace) e = every_none
class_closed l (Class display raw) e =
    every_one
    (record {
      name = slashed (part_of l display);
      is = refl;
      closed = slashed_closed (part_of l display) (all_head no_semicolon (part_of l display) [] e);
    })
    every_none
class_closed l (Field declared name raw) e = every_none
class_closed l (Method m raw) e = every_none
class_closed l (Refused r) e = every_none

pub all_first : {A : Type 0} (p : A → Bool) (a b : List A) → all_of p (a ++ b) ≡ true → all_of p a ≡ true
unfolding all_of
all_first p [] b e = refl
all_first p (x ∷ a) b e = rw (both_left (p x) (all_of p (a ++ b)) e) (all_first p a b (both_right (p x) (all_of p (a ++ b)) e))

pub all_second : {A : Type 0} (p : A → Bool) (a b : List A) → all_of p (a ++ b) ≡ true → all_of p b ≡ true
unfolding all_of
all_second p [] b e = e
all_second p (x ∷ a) b e = all_second p a b (both_right (p x) (all_of p (a ++ b)) e)

classes_closed : (ls : List (List ℕ)) → all_of no_semicolon (display_names ls) ≡ true → Every DisplayClosed (classes_of ls)
unfolding display_names classes_of
classes_closed [] e = every_none
classes_closed (l ∷ ls) e =
    every_append (class_in l (line_of l)) (classes_of ls)
    (class_closed l (line_of l) (all_first no_semicolon (display_name_in l (line_of l)) (display_names ls) e))
    (classes_closed ls (all_second no_semicolon (display_name_in l (line_of l)) (display_names ls) e))

shown_closed : (cs : List Pair) → Every DisplayClosed cs → (p : List ℕ) {q : List ℕ} → shown cs p ≡ known q → OnePiece q
unfolding shown
shown_closed [] h p e = clash (ap is_known e) refl
shown_closed (c ∷ cs) (every_one o h) p {q} e = go (shown cs p) refl (λ s. shown_closed cs h p s) e
  where
    here : (t : Bool) → pick t (known c.display) unknown ≡ known q → OnePiece q
    here false f = clash (ap is_known f) refl
    here true f = let is : c.display ≡ q = cc in rw is at o

    go : (l : Look) → shown cs p ≡ l → (shown cs p ≡ known q → OnePiece q) →
        or_look l (pick (same c.raw p) (known c.display) unknown) ≡ known q → OnePiece q
    go (known x) s later f = later (s ∙ f)
    go unknown s later f = here (same c.raw p) f

-- The mapping of lines whose display descriptors stand once, with no `;` in a display name.
module _ (ls : List (List ℕ)) (once : displays_once ls ≡ true) (closed : names_closed ls ≡ true) where
  returns : (p : List ℕ) → OnePiece p → unmistaken (classes_of ls) (piece p) ≡ true →
      Returns (shown (classes_of ls)) (back (classes_of ls)) p
  returns p o e = go (shown (classes_of ls) p) refl e
    where
      unknown_stays : (l : Look) → not (is_known l) ≡ true → look_or p l ≡ p
      unknown_stays (known x) f = clash f refl
      unknown_stays unknown f = refl

      go : (l : Look) → shown (classes_of ls) p ≡ l → either (is_known l) (not (is_known (back (classes_of ls) p))) ≡ true →
          Returns (shown (classes_of ls)) (back (classes_of ls)) p
      go (known q) s f =
          record {
            one = rw s (shown_closed (classes_of ls) (classes_closed ls closed) p s);
            back = rw (s, back_shown (classes_of ls) once p s);
          }
      go unknown s f = record { one = rw s o; back = rw s (unknown_stays (back (classes_of ls) p) f) }

  -- a descriptor that names no class that is unknown as raw yet a display in the mapping
  pub descriptor_back : (d : List ℕ) → all_of (unmistaken (classes_of ls)) (parts_from [] d) ≡ true →
      turn (back (classes_of ls)) (turn (shown (classes_of ls)) d) ≡ d
  descriptor_back d e = round_trip (shown (classes_of ls)) (back (classes_of ls)) (unmistaken (classes_of ls)) returns d e
