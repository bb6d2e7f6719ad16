-- Items in brackets or braces, by places: what was passed stands before what the rest gives. Assumes nothing.
use Rattle.std.specs.Prelude.{Option, Some, None}
use mathlib.Core.Path.{◌≡◌, refl, sym, ◌∙◌, ap}
use mathlib.Core.List.{List, [], ◌∷◌, ◌++◌}
use Prim.Native.Nat.{ℕ, zero, suc, ◌+◌, ◌-◌, ◌≤◌, ◌<◌}
use native.Mathlib.Numerals.{add-one}
use native.Mathlib.Omega.{arith}
use lib.ListN.{length, get_or, drop, length-drop}
use lib.Seq.{drop-cons}
use borrow.Author.Tests.{eq-eqb}
use Rattle.json_grammar.specs.Reader.{Out, got, bad, and_then, is_ws, skip, structural, items_of, inside_of, enclosed_of, after_item}
use Rattle.json_grammar.proofs.ValuesTook.{skip_twice}
use Rattle.json_grammar.proofs.Items.{before, before_nothing, before_both, structural_shorter, inside_closed, inside_items, after_comma, after_closed, after_wrong, items_none, items_item}
use Rattle.json_string.specs.Inner.Means.{Reached, Means}
use Rattle.json_values.specs.Inner.Runs.{Past}
use Rattle.json_values.proofs.Numbers.{means_next, means_unread}

-- `whole` is what all of the items give; from `place` on they are still to be read
pub record Listing {X : Type 0} (p : List ℕ → Out X) (closing : ℕ) (whole : Out (List X)) (s : List ℕ) (place : ℕ) : Type 0 where
  pub inside : place ≤ length s
  pub passed : List X
  -- how many items the rule still allows, which are enough
  pub allowed : ℕ
  pub enough : length s - place ≤ allowed
  pub decides : whole ≡ before passed (items_of p closing allowed (drop place s))

-- an item `x` stands at `place`, and after it reading goes on at `next`
pub record Turn {X : Type 0} (p : List ℕ → Out X) (s : List ℕ) (place next : ℕ) (x : X) : Type 0 where
  pub goes : place ≤ next
  pub inside : next ≤ length s
  pub reads : p (drop place s) ≡ got x (drop next s)

-- The opening character.
module _ {X : Type 0} (p : List ℕ → Out X) (opening closing : ℕ) (s : List ℕ) (at : ℕ) (h : at < length s) (o : get_or s at 0 ≡ opening) {place : ℕ} (w : Past is_ws s (at + 1) place) where
  opened : enclosed_of p opening closing (drop at s) ≡ inside_of p closing (drop place s)
  unfolding enclosed_of
  opened = rw (drop-cons s at 0 h, eq-eqb (get_or s at 0) opening o, ← add-one, w.rest)

  no_space : skip (drop place s) ≡ drop place s
  no_space = ap skip (sym w.rest) ∙ skip_twice (drop (at + 1) s) ∙ w.rest

  pub empty_reads : {y : ℕ} {r : List ℕ} → structural closing (drop place s) ≡ got y r → enclosed_of p opening closing (drop at s) ≡ got [] r
  empty_reads e = opened ∙ inside_closed p closing (drop place s) no_space e

  pub listing_empty : {t : Option ℕ} {n : ℕ} → Means s t (structural closing (drop place s)) → t ≡ Some n → Reached s n (enclosed_of p opening closing (drop at s))
  listing_empty {t} {n} m e =
      let r = means_next s (structural closing (drop place s)) t m e in
      record { inside = r.inside; value = []; reads = empty_reads r.reads }

  pub listing_starts : {t : Option ℕ} → Means s t (structural closing (drop place s)) → t ≡ None → Listing p closing (enclosed_of p opening closing (drop at s)) s place
  listing_starts {t} m e = record {
    inside = w.inside;
    passed = [];
    allowed = length (drop place s);
    enough = rw length-drop (omega arith);
    decides =
        opened ∙ inside_items p closing (drop place s) no_space (means_unread s (structural closing (drop place s)) t m e)
        ∙ before_nothing (items_of p closing (length (drop place s)) (drop place s));
  }

  pub starts_passed : {t : Option ℕ} (m : Means s t (structural closing (drop place s))) (e : t ≡ None) → (listing_starts m e).passed ≡ []
  unfolding listing_starts
  starts_passed m e = refl

module _ {X : Type 0} {p : List ℕ → Out X} {closing : ℕ} {whole : Out (List X)} {s : List ℕ} {place : ℕ} (k : Listing p closing whole s place) where
  pub listing_none : p (drop place s) ≡ bad → whole ≡ bad
  unfolding and_then
  listing_none e = k.decides ∙ rw (items_none p closing k.allowed (drop place s) e)

  -- one item less is allowed
  module _ (h : place < length s) {next : ℕ} {x : X} (t : Turn p s place next x) where
    record Passed : Type 0 where
      left : ℕ
      enough : length s - place ≤ suc left
      decides : whole ≡ before k.passed (after_item closing x (items_of p closing left) (skip (drop next s)))

    passes : Passed
    passes = go k.allowed k.enough k.decides
      where
        go : (n : ℕ) → length s - place ≤ n → whole ≡ before k.passed (items_of p closing n (drop place s)) → Passed
        go zero e d = absurd (omega arith)
        go (suc n) e d = record { left = n; enough = e; decides = d ∙ ap (before k.passed) (items_item p closing n (drop place s) t.reads) }

    pub listing_on : {u : Option ℕ} {again : ℕ} → Means s u (structural 0x2C (drop next s)) → u ≡ Some again → Listing p closing whole s again
    listing_on {u} {again} m e =
        let r = means_next s (structural 0x2C (drop next s)) u m e in
        let f = structural_shorter 0x2C (drop next s) r.reads in
        record {
          inside = r.inside;
          passed = k.passed ++ (x ∷ []);
          allowed = passes.left;
          enough = falls r.inside f passes.enough;
          decides =
              passes.decides ∙ ap (before k.passed) (after_comma p closing x (items_of p closing passes.left) (drop next s) r.reads)
              ∙ before_both k.passed (x ∷ []) (items_of p closing passes.left (drop again s));
        }
      where
        falls : again ≤ length s → length (drop again s) < length (drop next s) → {n : ℕ} → length s - place ≤ suc n → length s - again ≤ n
        falls i f {n} g =
            let a = length-drop again s in
            let b = length-drop next s in
            let c = t.goes in
            omega arith

    pub listing_passed : {u : Option ℕ} {again : ℕ} (m : Means s u (structural 0x2C (drop next s))) (e : u ≡ Some again) → (listing_on m e).passed ≡ k.passed ++ (x ∷ [])
    unfolding listing_on
    listing_passed m e = refl

    pub listing_falls : {u : Option ℕ} {again : ℕ} → Means s u (structural 0x2C (drop next s)) → u ≡ Some again → length s - again < length s - place
    listing_falls {u} {again} m e =
        let r = means_next s (structural 0x2C (drop next s)) u m e in
        let f = structural_shorter 0x2C (drop next s) r.reads in
        omega (arith, r.inside, length-drop again s, length-drop next s, t.goes)

    -- the closing character, or nothing that may stand here
    module _ (n : structural 0x2C (drop next s) ≡ bad) where
      pub listing_closed : {y : ℕ} {q : List ℕ} → structural closing (drop next s) ≡ got y q → whole ≡ got (k.passed ++ (x ∷ [])) q
      unfolding and_then
      listing_closed e = passes.decides ∙ rw (after_closed p closing x (items_of p closing passes.left) (drop next s) n e)

      pub listing_wrong : structural closing (drop next s) ≡ bad → whole ≡ bad
      unfolding and_then
      listing_wrong e = passes.decides ∙ rw (after_wrong p closing x (items_of p closing passes.left) (drop next s) n e)

    pub listing_ends : {u : Option ℕ} → Means s u (structural 0x2C (drop next s)) → u ≡ None → (r : Option ℕ) → Means s r (structural closing (drop next s)) → Means s r whole
    listing_ends {u} m e (Some n) q = record {
      inside = q.inside;
      value = k.passed ++ (x ∷ []);
      reads = listing_closed (means_unread s (structural 0x2C (drop next s)) u m e) q.reads;
    }
    listing_ends {u} m e None q = listing_wrong (means_unread s (structural 0x2C (drop next s)) u m e) q
