-- The note about a part of a text, by the first known piece from its start on. Assumes nothing.
use mathlib.Core.Path.{◌≡◌, sym, ◌∙◌, ap, subst}
use mathlib.Core.Bool.{false}
use mathlib.Core.List.{List}
use Prim.Native.Nat.{ℕ, suc, ◌+◌, ◌-◌, ◌≤◌, ◌<◌}
use native.Mathlib.Numerals.{add-one}
use native.Mathlib.Omega.{arith}
use lib.ListN.{length, take, drop, length-drop}
use lib.Seq.{drop-drop, length-take-le}
use mir.Val.{Fits}
use mir.Syntax.{w32, w64}
use borrow.Author.Rules.{rules}
use Rattle.ground.proofs.Parts.{drop_take}
use Rattle.apply_rule.specs.Applying.{most_tree}
use Rattle.apply_pieces.specs.declared.note.Note.{Note}
use Rattle.apply_pieces.specs.Inner.Known.{raw_of, one_known, KnownAt}
use Rattle.apply_pieces.specs.Inner.Notes.{NoteBy}
use Rattle.apply_pieces.specs.Inner.Sought.{NeverKnown, FirstKnown, SoughtSays, Sought}

-- What is known of a text from a place on is known of the rest from its start on.
known_rest : (classes : List (List ℕ)) (pool text : List ℕ) (a start row : ℕ) → a ≤ length text → KnownAt classes pool text a start row →
    KnownAt classes pool (drop a text) 0 (start - a) row
known_rest classes pool text a start row i k =
    let h = k.after in
    let y : start - a - 0 ≡ start - a = omega arith in
    let z : a + (start - a + length (raw_of classes pool row)) ≡ start + length (raw_of classes pool row) = omega arith in
    let rest : drop (start - a + length (raw_of classes pool row)) (drop a text) ≡ drop (start + length (raw_of classes pool row)) text =
    drop-drop (start - a + length (raw_of classes pool row)) a text ∙ ap (λ n. drop n text) z in
    let there : a + (start - a) ≡ start = omega arith in
    let long : start - a + length (raw_of classes pool row) - (start - a) ≡ start + length (raw_of classes pool row) - start = omega arith in
    let piece : drop (start - a) (drop a text) ≡ drop start text = drop-drop (start - a) a text ∙ ap (λ n. drop n text) there in
    record {
      after = omega arith;
      inside = k.inside;
      filled = k.filled;
      ends = omega (arith, k.ends, length-drop a text);
      last = rw (long, piece) k.last;
      one = k.one;
      turns = rw (y, rest) k.turns;
    }

-- A note that tells of a piece.
module _
    {classes : List (List ℕ)} {pool text : List ℕ} {«from» : ℕ} {note : Note} (s : Sought note classes pool text «from»)
    (n : note.start ≡ 0 → ⊥) where
  pub cut_some : 1 ≤ note.start
  cut_some = go n
    where
      go : (note.start ≡ 0 → ⊥) → 1 ≤ note.start
      go m = omega arith

  first : FirstKnown classes pool text «from» (note.start - 1) note.row
  first =
      let z : note.start ≡ suc (note.start - 1) = let a = cut_some in omega arith in
      subst (λ m. SoughtSays m note.row classes pool text «from») z s.says

  whole : KnownAt classes pool (take (length text) text) «from» (note.start - 1) note.row
  whole = first.long (length text) first.ends (omega arith)

  pub cut_row : note.row < length classes
  cut_row = whole.inside

  pub cut_order : «from» ≤ note.start - 1
  cut_order = whole.after

  module _ {m : ℕ} (e : m ≡ length (raw_of classes pool note.row)) (short : length text ≤ most_tree) where
    pub cut_end_fits : Fits w64 (note.start - 1 + m)
    cut_end_fits = omega (arith, first.ends, e)

    pub cut_place_fits : Fits w64 (note.start - 1 - «from» + 1)
    cut_place_fits = omega (arith, first.ends, e)

    pub cut_narrow : Fits w32 (note.start - 1 - «from» + 1)
    cut_narrow = omega (arith, first.ends, e)

-- The part of so many bytes.
module _
    {classes : List (List ℕ)} {pool text : List ℕ} {«from» : ℕ} {note : Note} (s : Sought note classes pool text «from»)
    (size : ℕ) (i : «from» + size ≤ length text) where
  abbrev part : List ℕ
  part = take size (drop «from» text)

  -- it is the rest of what the text is cut to
  part_is : drop «from» (take («from» + size) text) ≡ part
  part_is = let z : «from» + size - «from» ≡ size = omega arith in rw z at (drop_take «from» («from» + size) text)

  nothing : one_known classes pool (drop «from» (take («from» + size) text)) ≡ false →
      NoteBy (record { start = 0; row = 0 }) classes pool part
  nothing e = record { says = ap (one_known classes pool) (sym part_is) ∙ e; start_small = omega arith; row_small = omega arith }

  pub cut_none : note.start ≡ 0 → NoteBy (record { start = 0; row = 0 }) classes pool part
  cut_none e =
      let k : NeverKnown classes pool text «from» = subst (λ n. SoughtSays n note.row classes pool text «from») e s.says in
      nothing (k.never («from» + size) (omega arith) i)

  pub cut_size_fits : length text ≤ most_tree → Fits w64 («from» + size)
  cut_size_fits short = omega arith

  module _ (n : note.start ≡ 0 → ⊥) {m : ℕ} (e : m ≡ length (raw_of classes pool note.row)) where
    abbrev start : ℕ
    start = note.start - 1

    pub cut_short : «from» + size < start + m → NoteBy (record { start = 0; row = 0 }) classes pool part
    cut_short h = nothing ((first s n).short («from» + size) (omega arith) (omega (arith, e)))

    pub cut_found : length text ≤ most_tree → start + m ≤ «from» + size →
        NoteBy (record { start = start - «from» + 1; row = note.row }) classes pool part
    cut_found short h =
        let long = length-take-le («from» + size) text i in
        let there : KnownAt classes pool (take («from» + size) text) «from» start note.row =
        (first s n).long («from» + size) (omega (arith, e)) i in
        let here : KnownAt classes pool part 0 (start - «from») note.row =
        rw part_is at (known_rest classes pool (take («from» + size) text) «from» start note.row (omega (arith, long)) there) in
        record {
          says = rw (add-one (start - «from»)) here;
          start_small = omega (arith, (first s n).ends);
          row_small = s.row_small;
        }

pub ruleset cutting = (
  cut_none,
  cut_some,
  cut_row,
  cut_short,
  cut_end_fits,
  cut_size_fits,
  cut_order,
  cut_place_fits,
  cut_narrow,
  cut_found,
  rules,
)
