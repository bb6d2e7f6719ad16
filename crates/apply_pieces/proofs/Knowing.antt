-- The first class piece that is known, looked for from piece to piece. Assumes nothing.
use Rattle.std.specs.Prelude.{Option, Some, None}
use mathlib.Core.Path.{◌≡◌, refl, sym, ◌∙◌, ap}
use mathlib.Core.Bool.{true, false}
use mathlib.Core.List.{List, [], ◌∷◌, ◌++◌, append_assoc}
use Prim.Native.Nat.{ℕ, suc, ◌+◌, ◌-◌, ◌^◌, ◌≤◌, ◌<◌}
use native.Mathlib.Omega.{arith}
use lib.Dec.{eqb}
use lib.ListN.{length, get_or, take, drop, length-drop}
use lib.Seq.{drop-cons, drop-drop, length-take-le}
use mir.Val.{Fits}
use mir.Syntax.{w64}
use borrow.Author.Rules.{rules}
use Rattle.ground.specs.Choice.{either}
use Rattle.ground.specs.Look.{Look, known, unknown, is_known, look_or, or_look}
use Rattle.ground.specs.Put.{between}
use Rattle.ground.proofs.Parts.{parts_join}
use Rattle.text_places.specs.Places.{first_where, starts, same}
use Rattle.text_places.proofs.PlaceLaws.{same_equal, from_here, from_inside}
use Rattle.text_places.proofs.Holds.{first_holds}
use Rattle.table_rows.specs.Classes.{shown}
use Rattle.tables.specs.declared.search.Side.TheVariants.{Raw}
use Rattle.tables.specs.Back.{pair_of, read_back}
use Rattle.tables.specs.Search.{has_name, last_raw}
use Rattle.tables.proofs.Searching.{answer_row, raw_unknown}
use Rattle.descriptor.specs.Pieces.{parts_from, turn}
use Rattle.descriptor.proofs.Turning.{piece_step, plain_step}
use Rattle.apply_rule.specs.Changes.{piece_known}
use Rattle.apply_rule.proofs.Pieces.{known_at_piece, unknown_at_rest, known_past_plain, unknown_without_l}
use Rattle.apply_pieces.specs.Inner.Known.{PieceAt, PieceBy, raw_of, display_of, one_known, all_shown, KnownAt, piece_between}
use Rattle.apply_pieces.specs.declared.known.NextPiece.{NextPiece}

-- A byte that is looked for from a place on stands there.
byte_there : (b : ℕ) (text : List ℕ) (at : ℕ) {p : Option ℕ} → p ≡ first_where (starts b) (between text at (length text)) →
    {n : ℕ} → p ≡ Some n → starts b (drop (at + n) text) ≡ true
byte_there b text at e {n} f =
    ap (starts b) (sym (drop-drop n at text)) ∙ first_holds (starts b) (drop at text) (sym (from_here b text at e) ∙ f)

-- an `L` at a place, with a `;` at a distance, and with none
module _ (look : List ℕ → Look) (text : List ℕ) (start : ℕ) (h : start < length text) (l : starts 0x4C (drop start text) ≡ true) where
  begins : drop start text ≡ get_or text start 0 ∷ drop (suc start) text
  begins = drop-cons text start 0 h

  is_l : eqb (get_or text start 0) 0x4C ≡ true
  is_l = rw begins at l

  pub unclosed : first_where (starts 0x3B) (drop start text) ≡ None → piece_known look (parts_from [] (drop start text)) ≡ false
  unclosed e = rw begins (unknown_at_rest look (get_or text start 0) (drop (suc start) text) is_l (rw begins at e))

  module _ (gap : ℕ) (e : first_where (starts 0x3B) (drop start text) ≡ Some gap) where
    pub closed_known : piece_known look (parts_from [] (drop start text)) ≡
        either (is_known (look (take (gap + 1) (drop start text)))) (piece_known look (parts_from [] (drop (gap + 1) (drop start text))))
    closed_known = rw begins (known_at_piece look (get_or text start 0) (drop (suc start) text) is_l (rw begins at e))

    pub closed_turns : turn look (drop start text) ≡
        look_or (take (gap + 1) (drop start text)) (look (take (gap + 1) (drop start text))) ++ turn look (drop (gap + 1) (drop start text))
    closed_turns = rw begins (piece_step look (get_or text start 0) (drop (suc start) text) is_l (rw begins at e))

-- From an `L` to its `;`.
module _
    (text : List ℕ) («from» : ℕ) (i : «from» ≤ length text) {p : Option ℕ}
    (e : p ≡ first_where (starts 0x4C) (between text «from» (length text))) where
  pub piece_no_l : p ≡ None → (look : List ℕ → Look) → piece_known look (parts_from [] (drop «from» text)) ≡ false
  piece_no_l f look = unknown_without_l look (drop «from» text) (sym (from_here 0x4C text «from» e) ∙ f)

  module _ {n : ℕ} (f : p ≡ Some n) where
    at_l : «from» + n < length text
    at_l = from_inside 0x4C text «from» i e f

    pub l_fits : length text < 2 ^ 64 → Fits w64 («from» + n)
    l_fits z = let a = at_l in omega arith

    pub l_inside : «from» + n ≤ length text
    l_inside = let a = at_l in omega arith

    first_l : first_where (starts 0x4C) (drop «from» text) ≡ Some n
    first_l = sym (from_here 0x4C text «from» e) ∙ f

    is_there : starts 0x4C (drop («from» + n) text) ≡ true
    is_there = byte_there 0x4C text «from» e f

    plain : (look : List ℕ → Look) →
        turn look (drop «from» text) ≡ between text «from» («from» + n) ++ turn look (drop («from» + n) text)
    plain look =
        let z : «from» + n - «from» ≡ n = omega arith in
        plain_step look (drop «from» text) first_l ∙ rw (z, drop-drop n «from» text)

    module _ {q : Option ℕ} (g : q ≡ first_where (starts 0x3B) (between text («from» + n) (length text))) where
      pub piece_unclosed : q ≡ None → (look : List ℕ → Look) → piece_known look (parts_from [] (drop «from» text)) ≡ false
      piece_unclosed h look =
          known_past_plain look (drop «from» text) first_l ∙ ap (λ l. piece_known look (parts_from [] l)) (drop-drop n «from» text)
          ∙ unclosed look text («from» + n) at_l is_there (sym (from_here 0x3B text («from» + n) g) ∙ h)

      module _ {m : ℕ} (h : q ≡ Some m) where
        at_end : «from» + n + m < length text
        at_end = from_inside 0x3B text («from» + n) l_inside g h

        pub end_fits : length text < 2 ^ 64 → Fits w64 («from» + n + m)
        end_fits z = let a = at_end in omega arith

        pub past_fits : length text < 2 ^ 64 → Fits w64 («from» + n + m + 1)
        past_fits z = let a = at_end in omega arith

        closes : first_where (starts 0x3B) (drop («from» + n) text) ≡ Some m
        closes = sym (from_here 0x3B text («from» + n) g) ∙ h

        here : take (m + 1) (drop («from» + n) text) ≡ between text («from» + n) («from» + n + m + 1)
        here = let z : «from» + n + m + 1 - («from» + n) ≡ m + 1 = omega arith in rw z

        rest : drop (m + 1) (drop («from» + n) text) ≡ drop («from» + n + m + 1) text
        rest =
            let z : «from» + n + (m + 1) ≡ «from» + n + m + 1 = omega arith in
            drop-drop (m + 1) («from» + n) text ∙ ap (λ j. drop j text) z

        pub piece_found : PieceAt text «from» («from» + n) («from» + n + m + 1)
        piece_found = record {
          after = omega arith;
          some = omega arith;
          inside = let a = at_end in omega arith;
          one = λ look.
              known_past_plain look (drop «from» text) first_l ∙ ap (λ l. piece_known look (parts_from [] l)) (drop-drop n «from» text)
              ∙ (rw (here, rest) at (closed_known look text («from» + n) at_l is_there m closes));
          turns = λ look.
              plain look
              ∙ ap (λ l. between text «from» («from» + n) ++ l)
              (rw (here, rest) at (closed_turns look text («from» + n) at_l is_there m closes));
        }

pub ruleset piece_by_piece = (piece_no_l, l_fits, l_inside, piece_unclosed, end_fits, past_fits, piece_found, rules)

-- What a row that is found says.
module _ (rows : List (List ℕ)) (pool name : List ℕ) {i : ℕ} (e : last_raw rows pool name ≡ Some i) where
  pub row_says : (i < length rows)
      × (same (raw_of rows pool i) name ≡ true)
      × (shown (read_back rows pool) name ≡ known (display_of rows pool i))
  unfolding shown
  row_says =
      answer_row unknown or_look (λ row. known (pair_of pool row).display) (has_name Raw pool name) (λ l. shown (read_back l pool) name) refl
      (λ row rest. refl) (λ l. refl) (λ row l q. refl) rows e

  pub row_has : raw_of rows pool i ≡ name
  row_has = same_equal (raw_of rows pool i) name row_says.1

-- No piece between the places `from` and `at` is known.
pub record Unknowing (classes : List (List ℕ)) (pool text : List ℕ) («from» at : ℕ) : Type 0 where
  pub after : «from» ≤ at
  pub inside : at ≤ length text
  pub decides : one_known classes pool (drop «from» text) ≡ one_known classes pool (drop at text)
  pub turns : all_shown classes pool (drop «from» text) ≡ between text «from» at ++ all_shown classes pool (drop at text)

pub unknowing_starts : (classes : List (List ℕ)) (pool text : List ℕ) («from» : ℕ) → «from» ≤ length text →
    Unknowing classes pool text «from» «from»
unknowing_starts classes pool text «from» h =
    let z : «from» - «from» ≡ 0 = omega arith in
    record { after = omega arith; inside = h; decides = refl; turns = rw z }

-- it goes on: a stretch that stays
goes_on : {classes : List (List ℕ)} {pool text : List ℕ} {«from» at : ℕ} → Unknowing classes pool text «from» at →
    (next : ℕ) → at ≤ next → next ≤ length text →
    one_known classes pool (drop at text) ≡ one_known classes pool (drop next text) →
    all_shown classes pool (drop at text) ≡ between text at next ++ all_shown classes pool (drop next text) →
    Unknowing classes pool text «from» next
goes_on {classes} {pool} {text} {«from»} {at} k next h i e f = record {
  after = let a = k.after in omega arith;
  inside = i;
  decides = k.decides ∙ e;
  turns =
      k.turns ∙ ap (λ l. between text «from» at ++ l) f
      ∙ sym (append_assoc (between text «from» at) (between text at next) (all_shown classes pool (drop next text)))
      ∙ ap (λ l. l ++ all_shown classes pool (drop next text)) (parts_join text «from» at next k.after h);
}

module _
    {classes : List (List ℕ)} {pool text : List ℕ} {«from» at : ℕ} (k : Unknowing classes pool text «from» at)
    (n : Option NextPiece) (e : PieceBy n text at) where
  pub seek_none : n ≡ None → one_known classes pool (drop «from» text) ≡ false
  seek_none f = let none : PieceBy None text at = rw f at e in k.decides ∙ none (shown (read_back classes pool))

  module _ {x : NextPiece} (f : n ≡ Some x) where
    here_piece : PieceAt text at x.start x.«end»
    here_piece = rw f at e

    pub piece_order : x.start ≤ x.«end»
    piece_order = let a = here_piece.some in omega arith

    pub piece_inside : x.«end» ≤ length text
    piece_inside = here_piece.inside

    pub seek_less : length text - x.«end» < length text - at
    seek_less =
        let a = here_piece.after in
        let b = here_piece.some in
        let c = here_piece.inside in
        omega arith

    abbrev found : List ℕ
    found = between text x.start x.«end»

    module _ {r : Option ℕ} (w : r ≡ last_raw classes pool (between text x.start x.«end»)) where
      pub seek_on : r ≡ None → Unknowing classes pool text «from» x.«end»
      seek_on u =
          let a = here_piece.after in
          let b = here_piece.some in
          let none : shown (read_back classes pool) found ≡ unknown = raw_unknown classes pool found (sym w ∙ u) in
          goes_on k x.«end» (omega arith) here_piece.inside (here_piece.one (shown (read_back classes pool)) ∙ rw none)
          (here_piece.turns (shown (read_back classes pool))
          ∙ rw none (sym (append_assoc (between text at x.start) found (all_shown classes pool (drop x.«end» text)))
          ∙ ap (λ l. l ++ all_shown classes pool (drop x.«end» text)) (parts_join text at x.start x.«end» a (omega arith))))

      module _ {i : ℕ} (u : r ≡ Some i) where
        says : (i < length classes)
            × (same (raw_of classes pool i) found ≡ true)
            × (shown (read_back classes pool) found ≡ known (display_of classes pool i))
        says = row_says classes pool found (sym w ∙ u)

        pub piece_long : x.start + length (raw_of classes pool i) ≡ x.«end»
        piece_long =
            let a = here_piece.some in
            let b = here_piece.inside in
            let n = length-take-le (x.«end» - x.start) (drop x.start text) (omega (arith, length-drop x.start text)) in
            let c : length (raw_of classes pool i) ≡ x.«end» - x.start = ap length (row_has classes pool found (sym w ∙ u)) ∙ n in
            omega arith

        pub seek_found : KnownAt classes pool text «from» x.start i
        seek_found =
            let a = k.after in
            let b = here_piece.after in
            let c = here_piece.some in
            let d = here_piece.inside in
            record {
              after = omega arith;
              inside = says.0;
              filled = omega (arith, piece_long);
              ends = omega (arith, piece_long);
              last = rw piece_long (sym w ∙ u);
              one = k.decides ∙ here_piece.one (shown (read_back classes pool)) ∙ rw says.2;
              turns =
                  k.turns ∙ ap (λ l. between text «from» at ++ l) (here_piece.turns (shown (read_back classes pool)))
                  ∙ sym (append_assoc (between text «from» at) (between text at x.start) _)
                  ∙ rw (parts_join text «from» at x.start a b, says.2, piece_long);
            }

pub ruleset knowing = (unknowing_starts, seek_none, piece_order, piece_inside, seek_less, seek_on, seek_found, rules)
