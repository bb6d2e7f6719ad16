-- The last row with a descriptor, and what it says of the classes read back from the pool. Assumes nothing.
use Rattle.std.specs.Prelude.{Option, Some, None}
use mathlib.Core.Path.{◌≡◌, refl, sym, ◌∙◌, ap}
use mathlib.Core.Bool.{Bool, true, false}
use mathlib.Core.List.{List, [], ◌∷◌, ◌++◌, map}
use Prim.Native.Nat.{ℕ, zero, suc, ◌+◌, ◌-◌, ◌≤◌, ◌<◌}
use native.Mathlib.Omega.{arith}
use lib.ListN.{length, get_or, drop}
use lib.Seq.{drop-cons, drop-length}
use borrow.Author.Rules.{rules}
use Rattle.ground.specs.Choice.{pick}
use Rattle.text_places.specs.Places.{same}
use Rattle.ground.specs.Look.{Look, known, unknown, or_look}
use Rattle.table_rows.specs.Classes.{Pair, shown, swapped, back}
use Rattle.table_rows.specs.declared.rows.Text.{Text}
use Rattle.table_rows.specs.declared.rows.Class.{Class}
use Rattle.tables.specs.declared.search.Side.{Side}
use Rattle.table_rows.specs.Rows.{unpack_class}
use Rattle.tables.specs.Back.{text_in, pair_of, read_back}
use Rattle.tables.specs.Search.{or_row, last_row_from, text_on, has_name, last_raw, last_display}

-- the last row of which `p` holds answers
pub last_answers : (p : List ℕ → Bool) (at : ℕ) (rows : List (List ℕ)) (row : List ℕ) → p row ≡ true → last_row_from p at (rows ++ (row ∷ [])) ≡ Some (at + length rows)
unfolding last_row_from
last_answers p at [] row e = let z : at + 0 ≡ at = omega arith in rw (e, z)
last_answers p at (r ∷ rows) row e = let z : suc at + length rows ≡ at + suc (length rows) = omega arith in rw (last_answers p (suc at) rows row e, z)

-- Backwards: there is none from here on.
pub record Scanning (p : List ℕ → Bool) (rows : List (List ℕ)) («end» : ℕ) : Type 0 where
  pub inside : «end» ≤ length rows
  pub none : last_row_from p «end» (drop «end» rows) ≡ None

pub scanning_starts : (p : List ℕ → Bool) (rows : List (List ℕ)) → Scanning p rows (length rows)
unfolding last_row_from
scanning_starts p rows = record { inside = omega arith; none = rw (drop-length rows) }

last_cons : (p : List ℕ → Bool) (at : ℕ) (row : List ℕ) (rows : List (List ℕ)) → last_row_from p at (row ∷ rows) ≡ or_row (last_row_from p (suc at) rows) (pick (p row) (Some at) None)
unfolding last_row_from
last_cons p at row rows = refl

-- a last row from somewhere on is the last of all
last_stays : (p : List ℕ → Bool) (rows : List (List ℕ)) (at i : ℕ) → at ≤ length rows → last_row_from p at (drop at rows) ≡ Some i → last_row_from p 0 rows ≡ Some i
last_stays p rows zero i h e = e
last_stays p rows (suc at) i h e = last_stays p rows at i (omega arith) (rw (drop-cons rows at [] h, last_cons, e))

-- where there is none behind a row, the row itself decides
step_back : (p : List ℕ → Bool) (rows : List (List ℕ)) (at : ℕ) → at < length rows → last_row_from p (suc at) (drop (suc at) rows) ≡ None →
    last_row_from p at (drop at rows) ≡ pick (p (get_or rows at [])) (Some at) None
step_back p rows at h e = rw (drop-cons rows at [] h, last_cons, e)

module _ {p : List ℕ → Bool} {rows : List (List ℕ)} {«end» : ℕ} (k : Scanning p rows «end») where
  pub scanning_ends : «end» ≤ 0 → None ≡ last_row_from p 0 rows
  scanning_ends h = let z : «end» ≡ 0 = omega arith in sym (rw z at k.none)

  module _ (h : 0 < «end») where
    pub scanning_inside : «end» - 1 < length rows
    scanning_inside = omega (arith, k.inside)

    before : last_row_from p («end» - 1) (drop («end» - 1) rows) ≡ pick (p (get_or rows («end» - 1) [])) (Some («end» - 1)) None
    before =
        let up : «end» ≡ suc («end» - 1) = omega arith in
        step_back p rows («end» - 1) scanning_inside (rw up at k.none)

    pub scanning_found : p (get_or rows («end» - 1) []) ≡ true → Some («end» - 1) ≡ last_row_from p 0 rows
    scanning_found e = sym (last_stays p rows («end» - 1) («end» - 1) (omega (arith, k.inside)) (rw (before, e)))

    pub scanning_more : p (get_or rows («end» - 1) []) ≡ false → Scanning p rows («end» - 1)
    scanning_more e = record { inside = omega (arith, k.inside); none = rw (before, e) }

-- where no row from a place on is the one
pub scanning_from : (p : List ℕ → Bool) (rows : List (List ℕ)) («end» : ℕ) → «end» ≤ length rows →
    ((i : ℕ) → «end» ≤ i → i < length rows → p (get_or rows i []) ≡ false) → Scanning p rows «end»
scanning_from p rows «end» h none = go (length rows - «end») «end» (omega arith) none
  where
    go : (k e : ℕ) → e + k ≡ length rows → ((i : ℕ) → e ≤ i → i < length rows → p (get_or rows i []) ≡ false) → Scanning p rows e
    go zero e q n = let z : e ≡ length rows = omega arith in rw z (scanning_starts p rows)
    go (suc k) e q n =
        let later : Scanning p rows (suc e) = go k (suc e) (omega arith) (λ i a b. n i (omega arith) b) in
        let z : suc e - 1 ≡ e = omega arith in
        let here : p (get_or rows (suc e - 1) []) ≡ false = rw z (n e (omega arith) (omega arith)) in
        rw z at (scanning_more later (omega arith) here)

-- The test of a row, as the code makes it.
pub side_told : (side : Side) (pool name row : List ℕ) {c : Class} → c ≡ unpack_class row → {t : Text} → t ≡ text_on side c → {s : List ℕ} → s ≡ text_in pool t →
    {b : Bool} → b ≡ same s name → {z : Bool} → b ≡ z → has_name side pool name row ≡ z
side_told side pool name row e f g h q =
    ap (λ x. same (text_in pool (text_on side x)) name) (sym e) ∙ ap (λ x. same (text_in pool x) name) (sym f) ∙ ap (λ x. same x name) (sym g) ∙ sym h ∙ q

pub ruleset scanning = (scanning_starts, scanning_ends, scanning_inside, scanning_found, scanning_more, side_told, rules)

-- An answer that goes over the rows as the search does: where a row is found it is what that row says, and where none is found there is
-- none.
module _
    {L : Type 0} (none : L) (or_else : L → L → L) (says : List ℕ → L) (p : List ℕ → Bool) (g : List (List ℕ) → L)
    (empty : g [] ≡ none)
    (step : (row : List ℕ) (rows : List (List ℕ)) → g (row ∷ rows) ≡ or_else (g rows) (pick (p row) (says row) none))
    (else-none : (l : L) → or_else none l ≡ l)
    (else-says : (row : List ℕ) (l : L) → p row ≡ true → or_else (says row) l ≡ says row) where
  abbrev Told : ℕ → List (List ℕ) → Option ℕ → Type 0
  Told at rows (Some i) = (at ≤ i) × (i < at + length rows) × (p (get_or rows (i - at) []) ≡ true) × (g rows ≡ says (get_or rows (i - at) []))
  Told at rows None = g rows ≡ none

  told : (at : ℕ) (rows : List (List ℕ)) → Told at rows (last_row_from p at rows)
  unfolding last_row_from
  told at [] = empty
  told at (row ∷ rows) = later (last_row_from p (suc at) rows) (p row) refl (told (suc at) rows)
    where
      later : (o : Option ℕ) (b : Bool) → p row ≡ b → Told (suc at) rows o → Told at (row ∷ rows) (or_row o (pick b (Some at) None))
      later (Some i) b e (h, j, q, f) =
          let z : i - at ≡ suc (i - suc at) = omega arith in
          (omega arith, omega arith, rw z q, step row rows ∙ rw (f, z) (else-says (get_or rows (i - suc at) []) _ q))
      later None true e f =
          let z : at - at ≡ 0 = omega arith in
          (omega arith, omega arith, rw z e, step row rows ∙ rw (f, e, z) (else-none (says row)))
      later None false e f = step row rows ∙ rw (f, e) (else-none none)

  module _ (rows : List (List ℕ)) where
    pub answer_row : {i : ℕ} → last_row_from p 0 rows ≡ Some i → (i < length rows) × (p (get_or rows i []) ≡ true) × (g rows ≡ says (get_or rows i []))
    answer_row {i} e =
        let t : Told 0 rows (Some i) = rw e at (told 0 rows) in
        let z : i - 0 ≡ i = omega arith in
        (omega (arith, t.1), rw z at t.2, rw z at t.3)

    pub answer_none : last_row_from p 0 rows ≡ None → g rows ≡ none
    answer_none e = rw e at (told 0 rows)

-- Of the classes read back: the pairs `f row` of the rows.
module _ (f : List ℕ → Pair) (name : List ℕ) (rows : List (List ℕ)) where
  abbrev has : List ℕ → Bool
  has row = same (f row).raw name

  abbrev shows : List ℕ → Look
  shows row = known (f row).display

  shown_step : (row : List ℕ) (rest : List (List ℕ)) → shown (map f (row ∷ rest)) name ≡ or_look (shown (map f rest) name) (pick (has row) (shows row) unknown)
  unfolding shown
  shown_step row rest = refl

  shown_empty : shown (map f []) name ≡ unknown
  unfolding shown
  shown_empty = refl

  told_row : {i : ℕ} → last_row_from has 0 rows ≡ Some i → (i < length rows) × (shown (map f rows) name ≡ known (f (get_or rows i [])).display)
  told_row e =
      let t = answer_row unknown or_look shows has (λ l. shown (map f l) name) shown_empty shown_step (λ l. refl) (λ row l q. refl) rows e in
      (t.0, t.2)

  told_unknown : last_row_from has 0 rows ≡ None → shown (map f rows) name ≡ unknown
  told_unknown e = answer_none unknown or_look shows has (λ l. shown (map f l) name) shown_empty shown_step (λ l. refl) (λ row l q. refl) rows e

swapped_rows : (f : List ℕ → Pair) (rows : List (List ℕ)) → map swapped (map f rows) ≡ map (λ row. swapped (f row)) rows
swapped_rows f [] = refl
swapped_rows f (row ∷ rows) = ap (λ l. swapped (f row) ∷ l) (swapped_rows f rows)

-- the row that is found shows its display descriptor, and where none is found the class is not known
module _ (rows : List (List ℕ)) (pool name : List ℕ) where
  pub raw_found : {i : ℕ} → last_raw rows pool name ≡ Some i →
      (i < length rows) × (shown (read_back rows pool) name ≡ known (text_in pool (unpack_class (get_or rows i [])).display))
  raw_found e = told_row (pair_of pool) name rows e

  pub raw_unknown : last_raw rows pool name ≡ None → shown (read_back rows pool) name ≡ unknown
  raw_unknown e = told_unknown (pair_of pool) name rows e

  -- and the other way
  abbrev turnedPair : List ℕ → Pair
  turnedPair row = swapped (pair_of pool row)

  turned_back : back (read_back rows pool) name ≡ shown (map turnedPair rows) name
  turned_back = ap (λ l. shown l name) (swapped_rows (pair_of pool) rows)

  pub display_found : {i : ℕ} → last_display rows pool name ≡ Some i →
      (i < length rows) × (back (read_back rows pool) name ≡ known (text_in pool (unpack_class (get_or rows i [])).raw))
  display_found e = let t = told_row turnedPair name rows e in (t.0, turned_back ∙ t.1)

  pub display_unknown : last_display rows pool name ≡ None → back (read_back rows pool) name ≡ unknown
  display_unknown e = turned_back ∙ told_unknown turnedPair name rows e
