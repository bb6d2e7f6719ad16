-- Plain bytes, by blocks and by bytes: how many stand at the head of a text. Assumes nothing.
use mathlib.Core.Path.{◌≡◌, refl, sym, ◌∙◌}
use mathlib.Core.Bool.{Bool, true, false}
use mathlib.Core.List.{List}
use mathlib.Core.Logic.{◌⊎◌, inl, inr}
use Prim.Native.Nat.{ℕ, zero, suc, ◌+◌, ◌-◌, ◌≤◌, ◌<◌, min}
use native.Mathlib.Nat.{add-zero, suc-add, add-suc}
use native.Mathlib.Numerals.{add-one}
use native.Mathlib.Omega.{arith}
use lib.Dec.{eqb, leb}
use lib.ListN.{length, get_or, drop, drop_of_length-le}
use lib.Seq.{drop-cons}
use borrow.Author.Tests.{le-leb, leb-true}
use borrow.Author.Rules.{rules}
use Rattle.ground.specs.Choice.{pick}
use Rattle.ground.proofs.Cases.{le_or_lt, clash}
use Rattle.ground.proofs.Stretch.{along_none, block_inside, along_told}
use Rattle.text_places.specs.Inner.Blocks.{is_byte}
use Rattle.text_places.proofs.MaskLaws.{Passed, passed_none, passed_more, passed_all}
use Rattle.json_string.specs.Inner.Plain.{is_plain, PlainTo, plain_run}

-- what was passed of a block: none is a quotation mark, none a reverse solidus, where nothing was marked; and no byte is below the least
pub record Looked (s : List ℕ) (at : ℕ) (ends escapes : Bool) (least i : ℕ) : Type 0 where
  pub quotes : Passed (is_byte 0x22) s at ends i
  pub solidi : Passed (is_byte 0x5C) s at escapes i
  pub small : least < 256
  pub bounds : (k : ℕ) → k < i → least ≤ get_or s (at + k) 0

pub looked_none : (s : List ℕ) (at : ℕ) → Looked s at false false 0xFF 0
looked_none s at = record {
  quotes = passed_none (is_byte 0x22) s at;
  solidi = passed_none (is_byte 0x5C) s at;
  small = omega arith;
  bounds = λ k h. absurd (omega arith);
}

module _ {s : List ℕ} {at : ℕ} {ends escapes : Bool} {least i : ℕ} (p : Looked s at ends escapes least i) where
  pub looked_more : i < 16 → {a b : Bool} {r : ℕ} → a ≡ pick (eqb (get_or s (at + i) 0) 0x22) true ends →
      b ≡ pick (eqb (get_or s (at + i) 0) 0x5C) true escapes → r < 256 → r ≡ min least (get_or s (at + i) 0) → Looked s at a b r (i + 1)
  looked_more h {r = r} a b f e = record {
    quotes = passed_more p.quotes h a;
    solidi = passed_more p.solidi h b;
    small = f;
    bounds = λ k l. go k l (le_or_lt i k);
  }
    where
      go : (k : ℕ) → k < i + 1 → (i ≤ k) ⊎ (k < i) → r ≤ get_or s (at + k) 0
      go k l (inl g) = let q : k ≡ i = omega arith in rw q (omega arith)
      go k l (inr g) = let q = p.bounds k g in omega arith

  pub looked_all : 16 ≤ i → ends ≡ false → escapes ≡ false → leb 0x20 least ≡ true → (k : ℕ) → k < 16 → is_plain (get_or s (at + k) 0) ≡ true
  looked_all h a b c k l =
      let q = p.bounds k (omega arith) in
      let low = leb-true 0x20 least c in
      rw (passed_all p.quotes h a k l, passed_all p.solidi h b k l)
      (le-leb 0x20 (get_or s (at + k) 0) (omega arith))

pub looked_not : (s : List ℕ) (at : ℕ) → false ≡ true → (k : ℕ) → k < 16 → is_plain (get_or s (at + k) 0) ≡ true
looked_not s at e k l = clash e refl

pub ruleset looking = (looked_none, looked_more, looked_all, looked_not, rules)

pub ruleset blocks = (along_none, block_inside, along_told, rules)

-- The run of plain bytes: where it ends from here on is where it ends from the start on.
pub record Running (s : List ℕ) (start at : ℕ) : Type 0 where
  pub goes : start ≤ at
  pub decides : at + plain_run (drop at s) ≡ start + plain_run (drop start s)

pub run_starts : (s : List ℕ) (start : ℕ) → Running s start start
run_starts s start = record { goes = omega arith; decides = refl }

plain_next : {s : List ℕ} {start at : ℕ} → Running s start at → at < length s → is_plain (get_or s at 0) ≡ true → Running s start (at + 1)
unfolding plain_run
plain_next {s} {start} {at} k h e = record {
  goes = let p = k.goes in omega arith;
  decides = rw add-one (rw (suc-add, ← add-suc) (rw (drop-cons s at 0 h, e) at k.decides));
}

-- a run that passes a stretch of plain bytes
run_past : (s : List ℕ) (start n at : ℕ) → Running s start at → at + n ≤ length s → ((i : ℕ) → at ≤ i → i < at + n → is_plain (get_or s i 0) ≡ true) → Running s start (at + n)
run_past s start zero at k h e = rw add-zero k
run_past s start (suc n) at k h e =
    let q : at + 1 + n ≡ at + suc n = omega arith in
    rw (← q) (run_past s start n (at + 1) (plain_next k (omega arith) (e at (omega arith) (omega arith))) (omega arith) (λ i l u. e i (omega arith) (omega arith)))

module _ {s : List ℕ} {start at : ℕ} (k : Running s start at) where
  pub run_all : length s ≤ at → at ≡ start + plain_run (drop start s)
  unfolding plain_run
  run_all h = sym (add-zero at) ∙ (rw (drop_of_length-le s h) at k.decides)

  module _ (h : at < length s) {b : Bool} (g : b ≡ is_plain (get_or s at 0)) where
    pub run_ends : b ≡ false → at ≡ start + plain_run (drop start s)
    unfolding plain_run
    run_ends e = sym (add-zero at) ∙ (rw (drop-cons s at 0 h, sym g ∙ e) at k.decides)

    pub run_more : b ≡ true → Running s start (at + 1)
    run_more e = plain_next k h (sym g ∙ e)

pub ruleset running = (run_starts, run_all, run_ends, run_more, rules)

-- By whole blocks first.
pub run_none : (s : List ℕ) (start : ℕ) → length s ≤ start → start ≡ start + plain_run (drop start s)
run_none s start h = run_all (run_starts s start) h

pub run_blocks : {s : List ℕ} {start to r : ℕ} → PlainTo s start to → r ≡ to + plain_run (drop to s) → r ≡ start + plain_run (drop start s)
run_blocks {s} {start} {to} w e =
    let q : start + (to - start) ≡ to = omega (arith, w.goes) in
    let k = run_past s start (to - start) start (run_starts s start) (omega (arith, w.goes, w.inside)) (λ i l u. w.each i l (omega (arith, w.goes))) in
    e ∙ (rw q at k).decides

pub ruleset runs = (run_none, run_blocks, rules)
