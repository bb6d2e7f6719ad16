-- White space at the start of a line, and what it opens with behind that. Assumes nothing.
use Rattle.std.specs.Prelude.{Some}
use mathlib.Core.Path.{◌≡◌, refl, sym, ◌∙◌, ap}
use mathlib.Core.Bool.{Bool, true, false}
use mathlib.Core.List.{List, [], ◌∷◌, ◌++◌, append-nil, append_assoc}
use mathlib.Core.Logic.{◌⊎◌, inl, inr}
use Prim.Native.Nat.{ℕ, suc, ◌+◌, ◌-◌, ◌^◌, ◌≤◌, ◌<◌}
use native.Mathlib.Nat.{add-zero}
use native.Mathlib.Omega.{arith}
use lib.Dec.{eqb, lit<}
use lib.ListN.{length, get_or, take, drop, length-drop, drop_of_length-le}
use lib.Seq.{drop-drop, drop-cons, get_or-drop}
use mir.Val.{Fits}
use mir.Syntax.{w64}
use borrow.Author.Tests.{ne_eqb, eqb-true}
use borrow.Author.Rules.{rules}
use Rattle.ground.specs.Choice.{pick, both}
use Rattle.ground.specs.Put.{between}
use Rattle.ground.proofs.Cases.{le_or_lt, both_right, within_yes}
use Rattle.ground.proofs.Parts.{drop_take, between_length, between_byte, parts_join}
use Rattle.text_places.specs.Lines.{cr_end, lines, Taken}
use Rattle.text_places.specs.Inner.NextLine.{to_lf, next_line, taken_line}
use Rattle.text_places.proofs.LineLaws.{ToLf, lf_starts, lf_none, lf_found, cr_end_le, to_lf_le, line_ends_in_lf, line_ends_text, line_split}
use Rattle.text_places.proofs.BlockLaws.{lf_past}
use Rattle.text_utf8.specs.declared.sequence.Sequence.TheVariants.{Good}
use Rattle.text_utf8.specs.Utf8.{sequence_of, pieces_from}
use Rattle.text_utf8.proofs.Sequences.{good_fits, sequence_ascii}
use Rattle.text_white.specs.White.{is_white, in_ranges, white_ranges}
use Rattle.text_white.specs.Trim.{run_of, trim_start, trim_end}
use Rattle.text_white.specs.Inner.Before.{white_length, white_length_of}
use Rattle.text_white.proofs.Ink.{ink_dark, space_white}
use Rattle.text_white.proofs.Sync.{good_inner, white_length_reads}
use Rattle.line.specs.declared.line.Line.TheVariants as kinds
use Rattle.line.specs.Kinds.{line_of}
use Rattle.line.proofs.Kinding.{line_blank}
use Rattle.load_rule.specs.Comments.{residual_in}
use Rattle.load_residual.specs.declared.residual.Opening.TheVariants.{Blank, Comment, Other}
use Rattle.load_residual.specs.Inner.Openings.{OpensBy}
use Rattle.load_residual.proofs.Local.{white_headed, dark_cut, dark_ends}
use Rattle.load_residual.proofs.Opened.{other_gives}
use Rattle.ground.proofs.Answered.{some_part}
use Rattle.text_places.specs.declared.lines.NextLine.{NextLine}

cr_white : (x : ℕ) → x ≡ 0x0D → is_white x ≡ true
unfolding is_white in_ranges white_ranges
cr_white x e = rw e refl

lf_white : is_white 0x0A ≡ true
unfolding is_white in_ranges white_ranges
lf_white = refl

wide_white : is_white 0x3000 ≡ true
unfolding is_white in_ranges white_ranges
wide_white = refl

-- The bytes from `at` up to `i` are white space, and none of them ends the line.
pub record Leading (s : List ℕ) (at i : ℕ) : Type 0 where
  pub lf : ToLf s at i
  pub trims : (r : List ℕ) → trim_start (between s at i ++ r) ≡ i - at + trim_start r
  pub crs : (j : ℕ) → at ≤ j → j < i → get_or s j 0 ≡ 0x0D → trim_start (between s at j) ≡ j - at

pub lead_starts : (s : List ℕ) (at : ℕ) → at < length s → Leading s at at
lead_starts s at h =
    let z : at - at ≡ 0 = omega arith in
    record { lf = lf_starts s at (omega arith); trims = λ r. rw z (omega arith); crs = λ j a b. absurd (omega arith) }

module _ {s : List ℕ} {at i : ℕ} (k : Leading s at i) where
  whole : trim_start (between s at i) ≡ i - at
  unfolding run_of pieces_from
  whole = sym (ap trim_start (append-nil (between s at i))) ∙ k.trims [] ∙ add-zero (i - at)

  -- One white space character more.
  module _ {d m : ℕ} (e : sequence_of (drop i s) ≡ Good d m) (w : is_white d ≡ true) (n : get_or s i 0 ≡ 0x0A → ⊥) where
    fits : (0 < m) × (i + m ≤ length s)
    fits = let f = good_fits (drop i s) e in let l = length-drop i s in let o = k.lf.inside in (omega arith, omega arith)

    inner : (j : ℕ) → i < j → j < i + m → 0x80 ≤ get_or s j 0
    inner j a b =
        let g = good_inner (drop i s) e (j - i) (omega arith) (omega arith) in
        let there : i + (j - i) ≡ j = omega arith in
        rw (get_or-drop i s (j - i) 0, there) at g.0

    lead_more : Leading s at (i + m)
    lead_more = record {
      lf = lf_past s at m i k.lf fits.1 (λ j a b. no_lf j a b (le_or_lt j i));
      trims = λ r. joined r;
      crs = λ j a b. cr j a b (le_or_lt i j) (le_or_lt j i);
    }
      where
        no_lf : (j : ℕ) → i ≤ j → j < i + m → (j ≤ i) ⊎ (i < j) → get_or s j 0 ≡ 0x0A → ⊥
        no_lf j a b (inl o) = let q : j ≡ i = omega arith in rw q n
        no_lf j a b (inr o) = λ c. let g = inner j o b in omega arith

        joined : (r : List ℕ) → trim_start (between s at (i + m) ++ r) ≡ i + m - at + trim_start r
        joined r =
            let o = k.lf.past in
            let cut : i + m - i ≡ m = omega arith in
            let split : between s at (i + m) ≡ between s at i ++ take m (drop i s) = rw (← parts_join s at i (i + m) o (omega arith), cut) in
            let t = white_headed (drop i s) r e w in
            ap (λ l. trim_start (l ++ r)) split ∙ ap trim_start (append_assoc (between s at i) (take m (drop i s)) r) ∙ k.trims (take m (drop i s) ++ r) ∙ omega arith

        cr : (j : ℕ) → at ≤ j → j < i + m → (i ≤ j) ⊎ (j < i) → (j ≤ i) ⊎ (i < j) → get_or s j 0 ≡ 0x0D → trim_start (between s at j) ≡ j - at
        cr j a b (inr o) u c = k.crs j a o c
        cr j a b (inl o) (inl u) c = let q : j ≡ i = omega arith in rw q whole
        cr j a b (inl o) (inr u) c = absurd (let g = inner j u b in omega arith)

    more_fits : length s < 2 ^ 64 → Fits w64 (i + m)
    more_fits b = let f = fits in omega arith

    more_falls : length s - (i + m) < length s - i
    more_falls = let f = fits in omega arith

  module _ (h : i < length s) where
    pub lead_space : get_or s i 0 ≡ 0x20 → Leading s at (i + 1)
    lead_space c = lead_more (sym (sequence_ascii s i h (omega arith))) (space_white (get_or s i 0) c) (λ z. omega arith)

    pub lead_cr : get_or s i 0 ≡ 0x0D → Leading s at (i + 1)
    lead_cr c = lead_more (sym (sequence_ascii s i h (omega arith))) (cr_white (get_or s i 0) c) (λ z. omega arith)

    module _ (n : get_or s i 0 ≡ 0x0A → ⊥) {r : Bool} (f : r ≡ true → sequence_of (drop i s) ≡ Good 0x3000 3) (t : r ≡ true) where
      pub lead_wide : Leading s at (i + 3)
      lead_wide = lead_more (f t) wide_white n

      pub wide_fits : length s < 2 ^ 64 → Fits w64 (i + 3)
      wide_fits = more_fits (f t) wide_white n

      pub wide_falls : length s - (i + 3) < length s - i
      wide_falls = more_falls (f t) wide_white n

    module _ (n : get_or s i 0 ≡ 0x0A → ⊥) {m : ℕ} (e : m ≡ white_length (drop i s)) (z : m ≡ 0 → ⊥) where
      reads : (d : ℕ) × (sequence_of (drop i s) ≡ Good d m) × (is_white d ≡ true)
      reads = white_length_reads (drop i s) m (sym e) (omega arith)

      pub lead_white : Leading s at (i + m)
      lead_white = lead_more reads.1 reads.2 n

      pub white_fits : length s < 2 ^ 64 → Fits w64 (i + m)
      white_fits = more_fits reads.1 reads.2 n

      pub white_falls : length s - (i + m) < length s - i
      white_falls = more_falls reads.1 reads.2 n

-- The CR at the end of a line.
cr_stands : (l : List ℕ) → cr_end l < length l → get_or l (cr_end l) 0 ≡ 0x0D
unfolding cr_end
cr_stands [] h = absurd (omega arith)
cr_stands (b ∷ l) h = go (both (eqb (cr_end l) 0) (eqb b 0x0D)) refl h (cr_stands l)
  where
    go : (t : Bool) → both (eqb (cr_end l) 0) (eqb b 0x0D) ≡ t → pick t 0 (suc (cr_end l)) < suc (length l) → (cr_end l < length l → get_or l (cr_end l) 0 ≡ 0x0D) →
        get_or (b ∷ l) (pick t 0 (suc (cr_end l))) 0 ≡ 0x0D
    go true q h again = eqb-true b 0x0D (both_right (eqb (cr_end l) 0) (eqb b 0x0D) q)
    go false q h again = again (omega arith)

cr_some : (x : ℕ) (l : List ℕ) → (x ≡ 0x0D → ⊥) → 0 < cr_end (x ∷ l)
unfolding cr_end
cr_some x l n = rw (ne_eqb x 0x0D n) (go (eqb (cr_end l) 0))
  where
    go : (t : Bool) → 0 < pick (both t false) 0 (suc (cr_end l))
    go true = omega arith
    go false = omega arith

cr_behind : (w c : List ℕ) → 0 < cr_end c → cr_end (w ++ c) ≡ length w + cr_end c
unfolding cr_end
cr_behind [] c h = omega arith
cr_behind (b ∷ w) c h = let e = cr_behind w c h in rw (ne_eqb (cr_end (w ++ c)) 0 (λ z. omega arith)) (omega arith)

trimmed_blank : (l : List ℕ) → trim_start l ≡ length l → line_of l ≡ kinds.Blank
unfolding trim_end
trimmed_blank l e =
    let none : drop (trim_start l) l ≡ [] = drop_of_length-le l {i = trim_start l} (omega arith) in
    let stop : trim_end (drop (trim_start l) l) ≡ 0 = rw none in
    sym (line_blank l refl (omega arith))

pub part_left : (s : List ℕ) (a e i : ℕ) → a ≤ i → i ≤ e → drop (i - a) (between s a e) ≡ between s i e
part_left s a e i h l =
    let there : a + (i - a) ≡ i = omega arith in
    let size : e - a - (i - a) ≡ e - i = omega arith in
    rw (drop_take (i - a) (e - a) (drop a s), drop-drop (i - a) a s, there, size)

-- Nothing but white space stands in the line.
module _ {s : List ℕ} {at i : ℕ} (k : Leading s at i) (start : at < length s) where
  blank_here : line_of (between s at (at + cr_end (between s at i))) ≡ kinds.Blank
  blank_here = trimmed_blank (between s at (at + cr_end (between s at i))) (go (le_or_lt (i - at) (cr_end (between s at i))))
    where
      o : at ≤ i
      o = k.lf.past

      within : i ≤ length s
      within = k.lf.inside

      few : cr_end (between s at i) ≤ i - at
      few = let c = cr_end_le (between s at i) in let n = between_length s at i within in omega arith

      size : length (between s at (at + cr_end (between s at i))) ≡ cr_end (between s at i)
      size = let f = few in let p = o in let q = within in let n = between_length s at (at + cr_end (between s at i)) (omega arith) in omega arith

      go : (i - at ≤ cr_end (between s at i)) ⊎ (cr_end (between s at i) < i - at) →
          trim_start (between s at (at + cr_end (between s at i))) ≡ length (between s at (at + cr_end (between s at i)))
      go (inl l) =
          let f = few in
          let p = o in
          let q : at + cr_end (between s at i) ≡ i = omega arith in
          let n = size in
          let v : trim_start (between s at (at + cr_end (between s at i))) ≡ i - at = rw q (whole k) in
          omega arith
      go (inr l) =
          let p = o in
          let n = between_length s at i within in
          let there : at + cr_end (between s at i) - at ≡ cr_end (between s at i) = omega arith in
          let c : get_or s (at + cr_end (between s at i)) 0 ≡ 0x0D =
          sym (between_byte s at i (at + cr_end (between s at i)) (omega arith) (omega arith)) ∙ ap (λ j. get_or (between s at i) j 0) there
          ∙ cr_stands (between s at i) (omega arith) in
          let t = k.crs (at + cr_end (between s at i)) (omega arith) (omega arith) c in
          let m = size in
          omega arith

  pub lead_blank : i < length s → get_or s i 0 ≡ 0x0A → OpensBy (Blank (i + 1)) s at
  lead_blank h c = record {
    «end» = at + cr_end (between s at i);
    taken = line_split s at (sym (line_ends_in_lf s at (lf_found k.lf h c) start refl h));
    is = blank_here;
  }

  pub lead_ends : length s ≤ i → OpensBy (Blank i) s at
  lead_ends h = record {
    «end» = at + cr_end (between s at i);
    taken = line_split s at (sym (line_ends_text s at (lf_none k.lf h) start refl h));
    is = blank_here;
  }

-- Something else stands there.
module _ (s : List ℕ) (i : ℕ) (h : i < length s) where
  told_length : (x : ℕ) → get_or s i 0 ≡ x → x < 0x80 → white_length (drop i s) ≡ pick (is_white x) 1 0
  told_length x e l = ap white_length_of (sym (sequence_ascii s i h (omega arith))) ∙ ap (λ y. pick (is_white y) 1 0) e

  not_lf : white_length (drop i s) ≡ 0 → get_or s i 0 ≡ 0x0A → ⊥
  not_lf z c = let t = told_length 0x0A c (lit< tt) in let w = ap {B = ℕ} (λ b. pick b 1 0) lf_white in omega arith

  not_cr : white_length (drop i s) ≡ 0 → get_or s i 0 ≡ 0x0D → ⊥
  not_cr z c = let t = told_length 0x0D c (lit< tt) in let w = ap {B = ℕ} (λ b. pick b 1 0) (cr_white 0x0D refl) in omega arith

  pub ink_length : 0x20 < get_or s i 0 → get_or s i 0 < 0x80 → white_length (drop i s) ≡ 0
  ink_length a b = told_length (get_or s i 0) refl b ∙ ap (λ w. pick w 1 0) (ink_dark (get_or s i 0) (within_yes 0x21 0x7F (get_or s i 0) (omega arith) (omega arith)))

module _ {s : List ℕ} {at i : ℕ} (k : Leading s at i) (h : i < length s) (z : white_length (drop i s) ≡ 0) where
  abbrev last : ℕ
  last = i + to_lf (drop i s)

  past_here : i < last
  unfolding to_lf
  past_here = rw (drop-cons s i 0 h, ne_eqb (get_or s i 0) 0x0A (not_lf s i h z)) (omega arith)

  last_inside : last ≤ length s
  last_inside = omega (arith, to_lf_le (drop i s), length-drop i s)

  cr_to : (e : ℕ) → i < e → 0 < cr_end (between s i e)
  cr_to e l =
      let n : e - i ≡ suc (e - i - 1) = omega arith in
      rw (n, drop-cons s i 0 h) (cr_some (get_or s i 0) (take (e - i - 1) (drop (suc i) s)) (not_cr s i h z))

  cr_past : 0 < cr_end (between s i last)
  cr_past = cr_to last past_here

  cr_same : at + cr_end (between s at last) ≡ i + cr_end (between s i last)
  cr_same =
      let o = k.lf.past in
      let p = past_here in
      let n = between_length s at i (omega arith) in
      let e = ap cr_end (sym (parts_join s at i last o (omega arith))) ∙ cr_behind (between s at i) (between s i last) cr_past in
      omega arith

  -- where the line ends, and where the following one starts
  record Ends : Type 0 where
    «end» : ℕ
    next : ℕ
    here : next_line s i ≡ Some (taken_line i «end» next)
    there : next_line s at ≡ Some (taken_line at «end» next)
    behind : i < «end»
    inside : «end» ≤ length s

  ends : Ends
  ends = go (le_or_lt (length s) last)
    where
      start : at < length s
      start = let o = k.lf.past in omega arith

      few : i + cr_end (between s i last) ≤ length s
      few =
          let c = cr_end_le (between s i last) in
          let p = past_here in
          let l = last_inside in
          let n = between_length s i last l in
          omega arith

      go : (length s ≤ last) ⊎ (last < length s) → Ends
      go (inl l) = record {
        «end» = i + cr_end (between s i last);
        next = last;
        here = sym (line_ends_text s i refl h refl l);
        there = sym (line_ends_text s at k.lf.decides start refl l) ∙ ap (λ e. Some (taken_line at e last)) cr_same;
        behind = let c = cr_past in omega arith;
        inside = few;
      }
      go (inr l) = record {
        «end» = i + cr_end (between s i last);
        next = last + 1;
        here = sym (line_ends_in_lf s i refl h refl l);
        there = sym (line_ends_in_lf s at k.lf.decides start refl l) ∙ ap (λ e. Some (taken_line at e (last + 1))) cr_same;
        behind = let c = cr_past in omega arith;
        inside = few;
      }

  dark_trims : (e : ℕ) → i < e → e ≤ length s → trim_start (between s at e) ≡ i - at
  dark_trims e l u =
      let o = k.lf.past in
      ap trim_start (sym (parts_join s at i e o (omega arith))) ∙ k.trims (between s i e) ∙ ap (λ x. i - at + x) (dark_cut (drop i s) (e - i) z) ∙ add-zero (i - at)

  other_here : (get_or s i 0 ≡ 0x23 → ⊥) → OpensBy Other s at
  unfolding residual_in
  other_here n =
      let e = ends in
      let o = k.lf.past in
      let l : List ℕ = between s at e.«end» in
      let t = dark_trims e.«end» e.behind e.inside in
      let size = between_length s at e.«end» e.inside in
      let left : drop (trim_start l) l ≡ between s i e.«end» = ap (λ j. drop j l) t ∙ part_left s at e.«end» i o (omega (arith, e.behind)) in
      let byte : get_or l (trim_start l) 0 ≡ get_or s i 0 = ap (λ j. get_or l j 0) t ∙ between_byte s at e.«end» i o e.behind in
      let kept : 0 < trim_end (drop (trim_start l) l) =
      rw left (dark_ends (between s i e.«end») (dark_cut (drop i s) (e.«end» - i) z) (omega (arith, between_length s i e.«end» e.inside, e.behind))) in
      ap residual_in (line_split s at e.there).split ∙ other_gives l (omega (arith, e.behind)) kept (residual_in (lines (drop e.next s))) (λ c. n (sym byte ∙ c))

  pub hash_here : get_or s i 0 ≡ 0x23 → OpensBy (Comment i) s at
  hash_here c = record {
    goes = k.lf.past;
    inside = h;
    stands = c;
    takes = λ e n q. taken e n q;
    trims = λ e l u. dark_trims e l u;
    past = λ e n q. behind e n q;
  }
    where
      taken : (e n : ℕ) → next_line s i ≡ Some (taken_line i e n) → Taken s at at e n
      taken e n q =
          let v = ends in
          let j = sym v.here ∙ q in
          let stops : v.«end» ≡ e = some_part (λ (r : NextLine). r.«end») j in
          let goes_on : v.next ≡ n = some_part (λ (r : NextLine). r.next) j in
          line_split s at (v.there ∙ ap (λ b. Some (taken_line at b v.next)) stops ∙ ap (λ b. Some (taken_line at e b)) goes_on)

      behind : (e n : ℕ) → next_line s i ≡ Some (taken_line i e n) → i < e
      behind e n q = let v = ends in let j : Some (taken_line i v.«end» v.next) ≡ Some (taken_line i e n) = sym v.here ∙ q in let g : v.«end» ≡ e = some_part (λ (r : NextLine). r.«end») j in let b = v.behind in omega arith

module _ {s : List ℕ} {at i : ℕ} (k : Leading s at i) (h : i < length s) where
  pub lead_hash : get_or s i 0 ≡ 0x23 → OpensBy (Comment i) s at
  lead_hash c = hash_here k h (ink_length s i h (omega arith) (omega arith)) c

  module _ (n : get_or s i 0 ≡ 0x23 → ⊥) where
    pub lead_ink : 0x20 < get_or s i 0 → get_or s i 0 < 0x80 → OpensBy Other s at
    lead_ink a b = other_here k h (ink_length s i h a b) n

    pub lead_other : {m : ℕ} → m ≡ white_length (drop i s) → m ≡ 0 → OpensBy Other s at
    lead_other e z = other_here k h (sym e ∙ z) n

pub ruleset leading = (
  lead_starts,
  lead_space,
  lead_cr,
  lead_wide,
  wide_fits,
  wide_falls,
  lead_white,
  white_fits,
  white_falls,
  lead_blank,
  lead_ends,
  lead_hash,
  lead_ink,
  lead_other,
  rules,
)
