-- Complete: every value and every JSON text of the grammar is read. Assumes nothing.
use mathlib.Core.Path.{◌≡◌, refl, sym, ◌∙◌, ap}
use mathlib.Core.Bool.{Bool, true, false}
use mathlib.Core.List.{List, [], ◌∷◌, ◌++◌, append_assoc, append-nil, map}
use Prim.Native.Nat.{ℕ, zero, suc, ◌≤◌, ◌<◌}
use native.Mathlib.Omega.{arith}
use lib.Dec.{eqb, lit<}
use lib.ListN.{length}
use borrow.Author.Tests.{ne_eqb, eq-eqb, eqb-true}
use Rattle.ground.specs.Abnf.{octet, ◌⨾◌, left, right, absent, present, exactly, none, more}
use Rattle.ground.specs.Ascii.{ascii}
use Rattle.ground.specs.Choice.{pick, within}
use Rattle.ground.proofs.Cases.{within_both, within_high}
use Rattle.json_grammar.specs.Grammar
use Rattle.json_grammar.specs.Grammar.{Meaning, other, Named}
use Rattle.json_grammar.specs.Reader.{past_all, Out, got, bad, and_then, is_ws, skip, structural, past, int, json_number, string_of, past_word, flat_of, after_item, items_of, inside_of, enclosed_of, Item, item, member_of, nested_of, value_of, all_read, members_of, names}
use Rattle.json_grammar.proofs.Took.{Took, never_bad}
use Rattle.json_grammar.proofs.ValuesTook.{Between, member_took, value_took, skip_twice}
use Rattle.json_grammar.proofs.Items.{took_shorter, skip_shorter}
use Rattle.json_grammar.proofs.Onward.{no_value}
use Rattle.json_grammar.proofs.All.{is_stop, stops, skip_past, skip_none, structural_stands, structural_all, number_all}
use Rattle.json_grammar.proofs.StringsAll.{string_all}
use Rattle.ground.proofs.Joins.{cons_same}

-- The values that nest nothing: their first octet, and that they are read.
record First (a : List ℕ) : Type 0 where
  x : ℕ
  s : List ℕ
  are : a ≡ x ∷ s
  dark : is_ws x ≡ false
  no_object : eqb x 0x7B ≡ false
  no_array : eqb x 0x5B ≡ false

first_of : (a : List ℕ) (x : ℕ) (s : List ℕ) → a ≡ x ∷ s → is_ws x ≡ false → eqb x 0x7B ≡ false → eqb x 0x5B ≡ false → First a
first_of a x s e d o r = record { x = x; s = s; are = e; dark = d; no_object = o; no_array = r }

-- an octet of a number
record Numeral (a : List ℕ) : Type 0 where
  x : ℕ
  s : List ℕ
  are : a ≡ x ∷ s
  low : 0x2D ≤ x
  high : x ≤ 0x39

numeral : {a : List ℕ} → Grammar.Number a → Numeral a
numeral (absent ⨾ left (octet x e) ⨾ r) = let w = within_both 0x30 0x30 x e in record { x = x; s = _; are = refl; low = omega arith; high = omega arith }
numeral (absent ⨾ right (octet x e ⨾ d) ⨾ r) = let w = within_both 0x31 0x39 x e in record { x = x; s = _; are = refl; low = omega arith; high = omega arith }
numeral (present (octet x e) ⨾ r) = let w = within_both 0x2D 0x2D x e in record { x = x; s = _; are = refl; low = omega arith; high = omega arith }

numeral_not : {a : List ℕ} (n : Numeral a) (c : ℕ) → (0x39 < c) → eqb n.x c ≡ false
numeral_not n c h = ne_eqb n.x c (λ e. let l = n.high in omega arith)

numeral_dark : (x : ℕ) → 0x2D ≤ x → is_ws x ≡ false
numeral_dark x h = rw (within_high 0x20 0x20 x (omega arith), within_high 0x09 0x09 x (omega arith), within_high 0x0A 0x0A x (omega arith), within_high 0x0D 0x0D x (omega arith))

number_flat : (x : ℕ) (s r : List ℕ) (y : ℕ) → 0x2D ≤ x → x ≤ 0x39 → json_number (x ∷ s) ≡ got y r → flat_of (x ∷ s) ≡ got other r
unfolding flat_of and_then
number_flat x s r y l h e =
    rw (ne_eqb x 0x22 (λ q. omega arith), ne_eqb x 0x66 (λ q. omega arith), ne_eqb x 0x6E (λ q. omega arith), ne_eqb x 0x74 (λ q. omega arith), e)

numeral_flat : {a : List ℕ} (f : Numeral a) (r : List ℕ) (y : ℕ) → json_number (a ++ r) ≡ got y r → flat_of (a ++ r) ≡ got other r
numeral_flat f r y e =
    ap (λ l. flat_of (l ++ r)) f.are ∙ number_flat f.x (f.s ++ r) r y f.low f.high (ap (λ l. json_number (l ++ r)) (sym f.are) ∙ e)

flat_all : {a : List ℕ} {m : Meaning} → Grammar.Flat a m → (r : List ℕ) → stops r ≡ true → flat_of (a ++ r) ≡ got m r
unfolding flat_of past_word ascii and_then
flat_all (Grammar.name (left exactly)) r s = refl
flat_all (Grammar.name (right (left exactly))) r s = refl
flat_all (Grammar.name (right (right exactly))) r s = refl
flat_all (Grammar.number n) r s =
    let f = numeral n in
    let (y, e) = number_all n r s in
    numeral_flat f r y e
flat_all (Grammar.string (Grammar.quoted c)) r s = rw (string_all (Grammar.quoted c) r)

flat_first : {a : List ℕ} {m : Meaning} → Grammar.Flat a m → First a
unfolding ascii
flat_first (Grammar.name (left exactly)) = first_of _ 0x66 _ refl refl refl refl
flat_first (Grammar.name (right (left exactly))) = first_of _ 0x6E _ refl refl refl refl
flat_first (Grammar.name (right (right exactly))) = first_of _ 0x74 _ refl refl refl refl
flat_first (Grammar.number n) =
    let f = numeral n in
    first_of _ f.x f.s f.are (numeral_dark f.x f.low) (numeral_not f 0x7B (lit< tt)) (numeral_not f 0x5B (lit< tt))
flat_first (Grammar.string (Grammar.quoted c)) = first_of _ 0x22 _ refl refl refl refl

only_stop : (a : ℕ) → is_stop a ≡ true → (x : ℕ) → within a a x ≡ true → is_stop x ≡ true
only_stop a s x e = let q : x ≡ a = let w = within_both a a x e in omega arith in ap is_stop q ∙ s

-- What a reader makes of a part, up to the ws that follows.
pub record ReadAll {X : Type 0} (p : List ℕ → Out X) (a r : List ℕ) (x : X) : Type 0 where
  pub rest : List ℕ
  pub reads : p (skip (a ++ r)) ≡ got x rest
  pub leaves : skip rest ≡ skip r

flat_dark : {a : List ℕ} (f : First a) (r : List ℕ) → skip (a ++ r) ≡ f.x ∷ (f.s ++ r)
flat_dark f r = ap (λ l. skip (l ++ r)) f.are ∙ skip_none f.x (f.s ++ r) f.dark

flat_same : {a : List ℕ} (f : First a) (r : List ℕ) → skip (a ++ r) ≡ a ++ r
flat_same f r = flat_dark f r ∙ ap (λ l. l ++ r) (sym f.are)

-- what begins with a structural character that stops a value stops it
structural_stops : (x : ℕ) → is_stop x ≡ true → {c : List ℕ} → Grammar.Structural x c → (r : List ℕ) → stops (c ++ r) ≡ true
structural_stops x s (◌⨾◌ none (octet y e ⨾ v)) r = let q : y ≡ x = let w = within_both x x y e in omega arith in ap is_stop q ∙ s
structural_stops x s (◌⨾◌ (more (left (octet y e)) w) v) r = only_stop 0x20 refl y e
structural_stops x s (◌⨾◌ (more (right (left (octet y e))) w) v) r = only_stop 0x09 refl y e
structural_stops x s (◌⨾◌ (more (right (right (left (octet y e)))) w) v) r = only_stop 0x0A refl y e
structural_stops x s (◌⨾◌ (more (right (right (right (octet y e)))) w) v) r = only_stop 0x0D refl y e

-- Items and what encloses them, over any reader of an item that reads all of a kind. `f` is what the grammar says of an item.
module _
    {X Y : Type 0} (f : X → Y) (P : List ℕ → Y → Type 0) (p : List ℕ → Out X) (closing : ℕ)
    (item-all : (a : List ℕ) (y : Y) → P a y → (r : List ℕ) → stops r ≡ true → (x : X) × (f x ≡ y) × ReadAll p a r x)
    (item-shorter : (s : List ℕ) (x : X) (r : List ℕ) → p s ≡ got x r → length r ≤ length s)
    (item-empty : p [] ≡ bad) (item-closing : (t : List ℕ) → p (closing ∷ t) ≡ bad)
    (closing-dark : is_ws closing ≡ false) (closing-stops : is_stop closing ≡ true) (closing-other : eqb closing 0x2C ≡ false) where
  -- the fuel holds out: something is there to read
  some_fuel : (n : ℕ) (l : List ℕ) {x : X} {r : List ℕ} → p l ≡ got x r → length l ≤ n → 0 < n
  some_fuel zero [] e h = never_bad (sym item-empty ∙ e)
  some_fuel zero (y ∷ l) e h = absurd (omega arith)
  some_fuel (suc n) l e h = omega arith

  abbrev Done : List Y → List ℕ → Out (List X) → Type 0
  Done ys r o = (xs : List X) × (map f xs ≡ ys) × (o ≡ got xs (skip r))

  after_last : (x : X) (further : List ℕ → Out (List X)) (l t r : List ℕ) → l ≡ closing ∷ t → skip t ≡ skip r → after_item closing x further l ≡ got (x ∷ []) (skip r)
  unfolding after_item
  after_last x further l t r e g = ap (after_item closing x further) e ∙ rw (closing-other, eq-eqb closing closing refl, g)

  after_comma : (x : X) (further : List ℕ → Out (List X)) (l t r : List ℕ) (xs : List X) → l ≡ 0x2C ∷ t → further (skip t) ≡ got xs r → after_item closing x further l ≡ got (x ∷ xs) r
  unfolding after_item and_then
  after_comma x further l t r xs e g = ap (after_item closing x further) e ∙ rw g

  read_then : (n : ℕ) (l : List ℕ) (x : X) (m : List ℕ) (xs : List X) (r : List ℕ) → p l ≡ got x m → after_item closing x (items_of p closing n) (skip m) ≡ got xs r →
      items_of p closing (suc n) l ≡ got xs r
  unfolding items_of and_then
  read_then n l x m xs r e g = rw e g

  items_one : (n : ℕ) (a c r : List ℕ) (y : Y) → P a y → Grammar.Structural closing c → length (skip (a ++ (c ++ r))) ≤ n → Done (y ∷ []) r (items_of p closing n (skip (a ++ (c ++ r))))
  items_one n a c r y i k h =
      let (x, e, d) = item-all a y i (c ++ r) (structural_stops closing closing-stops k r) in
      go n x e d h (some_fuel n (skip (a ++ (c ++ r))) d.reads h)
    where
      go : (n : ℕ) (x : X) → f x ≡ y → ReadAll p a (c ++ r) x → length (skip (a ++ (c ++ r))) ≤ n → 0 < n → Done (y ∷ []) r (items_of p closing n (skip (a ++ (c ++ r))))
      go zero x e d h z = absurd (omega arith)
      go (suc n) x e d h z =
          let s = structural_stands closing closing-dark k r in (
            x ∷ [],
            ap (λ v. v ∷ []) e,
            read_then n (skip (a ++ (c ++ r))) x d.rest (x ∷ []) (skip r) d.reads
                (after_last x (items_of p closing n) (skip d.rest) s.tail r (d.leaves ∙ s.seen) s.leaves),
          )

  items_and : (n : ℕ) (a c b l r : List ℕ) (y : Y) (ys : List Y) → P a y → Grammar.value_separator c →
      ((m : ℕ) → length (skip (b ++ l)) ≤ m → Done ys r (items_of p closing m (skip (b ++ l)))) →
      length (skip (a ++ (c ++ (b ++ l)))) ≤ n → Done (y ∷ ys) r (items_of p closing n (skip (a ++ (c ++ (b ++ l)))))
  items_and n a c b l r y ys i k again h =
      let (x, e, d) = item-all a y i (c ++ (b ++ l)) (structural_stops 0x2C refl k (b ++ l)) in
      go n x e d h (some_fuel n (skip (a ++ (c ++ (b ++ l)))) d.reads h)
    where
      whole : List ℕ
      whole = skip (a ++ (c ++ (b ++ l)))

      go : (n : ℕ) (x : X) → f x ≡ y → ReadAll p a (c ++ (b ++ l)) x → length (skip (a ++ (c ++ (b ++ l)))) ≤ n → 0 < n →
          Done (y ∷ ys) r (items_of p closing n (skip (a ++ (c ++ (b ++ l)))))
      go zero x e d h z = absurd (omega arith)
      go (suc n) x e d h z =
          let s = structural_stands 0x2C refl k (b ++ l) in
          let seen : skip d.rest ≡ 0x2C ∷ s.tail = d.leaves ∙ s.seen in
          let shorter : length (skip (b ++ l)) ≤ n = rw (← s.leaves) (omega (arith, skip_shorter s.tail, skip_shorter d.rest, ap length seen, item-shorter (skip (a ++ (c ++ (b ++ l)))) x d.rest d.reads)) in
          let (xs, g, o) = again n shorter in (
            x ∷ xs,
            cons_same e g,
            read_then n (skip (a ++ (c ++ (b ++ l)))) x d.rest (x ∷ xs) (skip r) d.reads
                (after_comma x (items_of p closing n) (skip d.rest) s.tail (skip r) xs seen (ap (items_of p closing n) s.leaves ∙ o)),
          )

  done_as : (n : ℕ) (ys : List Y) (r : List ℕ) {s t : List ℕ} → s ≡ t → (length (skip t) ≤ n → Done ys r (items_of p closing n (skip t))) →
      length (skip s) ≤ n → Done ys r (items_of p closing n (skip s))
  done_as n ys r e k = rw e k

  items_all : {b : List ℕ} {ys : List Y} → Grammar.Separated P b ys → (c r : List ℕ) → Grammar.Structural closing c → (n : ℕ) → length (skip (b ++ (c ++ r))) ≤ n →
      Done ys r (items_of p closing n (skip (b ++ (c ++ r))))
  items_all (Grammar.one {a = a} {x = y} i) c r k n h = items_one n a c r y i k h
  items_all (Grammar.and {a = a} {c = d} {b = b} {x = y} {xs = ys} i s t) c r k n h =
      let flat : (a ++ (d ++ b)) ++ (c ++ r) ≡ a ++ (d ++ (b ++ (c ++ r))) = append_assoc a (d ++ b) (c ++ r) ∙ ap (λ l. a ++ l) (append_assoc d b (c ++ r)) in
      done_as n (y ∷ ys) r flat (items_and n a d b (c ++ r) r y ys i s (λ m l. items_all t c r k m l)) h

  -- after the opening character
  inside_items : (l r : List ℕ) (xs : List X) → items_of p closing (length l) l ≡ got xs r → inside_of p closing l ≡ got xs r
  unfolding inside_of items_of and_then
  inside_items [] r xs e = e
  inside_items (y ∷ l) r xs e = go (eqb y closing) refl
    where
      go : (b : Bool) → eqb y closing ≡ b → pick b (got [] (skip l)) (items_of p closing (length (y ∷ l)) (y ∷ l)) ≡ got xs r
      go true q = never_bad (sym (ap (λ o. and_then o (λ x m. after_item closing x (items_of p closing (length l)) (skip m))) (ap (λ c. p (c ∷ l)) (eqb-true y closing q) ∙ item-closing l)) ∙ e)
      go false q = e

  inside_empty : (l t r : List ℕ) → l ≡ closing ∷ t → skip t ≡ skip r → inside_of p closing l ≡ got [] (skip r)
  unfolding inside_of
  inside_empty l t r e g = ap (inside_of p closing) e ∙ rw (eq-eqb closing closing refl, g)

  module _ (opening : ℕ) (opening-dark : is_ws opening ≡ false) where
    opened : (l t m : List ℕ) → l ≡ opening ∷ t → skip t ≡ skip m → enclosed_of p opening closing l ≡ inside_of p closing (skip m)
    unfolding enclosed_of
    opened l t m e g = ap (enclosed_of p opening closing) e ∙ rw (eq-eqb opening opening refl, g)

    pub enclosed_all : {a : List ℕ} {ys : List Y} → Between opening closing P a ys → (r : List ℕ) → Done ys r (enclosed_of p opening closing (skip (a ++ r)))
    enclosed_all (Grammar.empty {a = a} {b = b} o c) r =
        let s = structural_stands opening opening-dark o (b ++ r) in
        let t = structural_stands closing closing-dark c r in (
          [],
          refl,
          opened (skip ((a ++ b) ++ r)) s.tail (b ++ r) (ap skip (append_assoc a b r) ∙ s.seen) s.leaves
              ∙ inside_empty (skip (b ++ r)) t.tail r t.seen t.leaves,
        )
    enclosed_all (Grammar.filled {a = a} {b = b} {c = c} o i k) r =
        let s = structural_stands opening opening-dark o (b ++ (c ++ r)) in
        let flat : (a ++ (b ++ c)) ++ r ≡ a ++ (b ++ (c ++ r)) = append_assoc a (b ++ c) r ∙ ap (λ l. a ++ l) (append_assoc b c r) in
        let (xs, g, e) = items_all i c r k (length (skip (b ++ (c ++ r)))) (omega arith) in
        (xs, g, opened (skip ((a ++ (b ++ c)) ++ r)) s.tail (b ++ (c ++ r)) (ap skip flat ∙ s.seen) s.leaves ∙ inside_items (skip (b ++ (c ++ r))) (skip r) xs e)

-- Members.
member_reads : (inner : List ℕ → Out Meaning) (s q : List ℕ) {k : List ℕ} {m : Meaning} {r t : List ℕ} → string_of s ≡ got k r → structural 0x3A r ≡ got 0x3A q → inner q ≡ got m t →
    member_of inner s ≡ got (item k m q) t
unfolding member_of and_then
member_reads inner s q e f g = rw (e, f, g)

abbrev named_of : Item → Named
named_of i = i.named

string_dark : {s k : List ℕ} → Grammar.String s k → (l : List ℕ) → skip (s ++ l) ≡ s ++ l
string_dark (Grammar.quoted c) l = skip_none 0x22 _ refl

member_all : (Inner : List ℕ → Meaning → Type 0) (inner : List ℕ → Out Meaning) →
    ((a : List ℕ) (m : Meaning) → Inner a m → (r : List ℕ) → stops r ≡ true → ReadAll inner a r m) →
    (a : List ℕ) (n : Named) → Grammar.Member Inner a n → (r : List ℕ) → stops r ≡ true → (i : Item) × (named_of i ≡ n) × ReadAll (member_of inner) a r i
member_all Inner inner inner-all a n (Grammar.member {a = s} {c = c} {b = b} {n = k} {m = m} q d v) r e =
    let flat : (s ++ (c ++ b)) ++ r ≡ s ++ (c ++ (b ++ r)) = append_assoc s (c ++ b) r ∙ ap (λ l. s ++ l) (append_assoc c b r) in
    let dark : skip ((s ++ (c ++ b)) ++ r) ≡ s ++ (c ++ (b ++ r)) = ap skip flat ∙ string_dark q (c ++ (b ++ r)) in
    let i = inner-all b m v r e in (
      item k m (skip (b ++ r)),
      refl,
      record {
        rest = i.rest;
        reads = ap (member_of inner) dark ∙ member_reads inner (s ++ (c ++ (b ++ r))) (skip (b ++ r)) (string_all q (c ++ (b ++ r))) (structural_all 0x3A refl d (b ++ r)) i.reads;
        leaves = i.leaves;
      },
    )

-- Values, level by level.
-- a reader of values that reads all of a kind
record Reader (Inner : List ℕ → Meaning → Type 0) (inner : List ℕ → Out Meaning) : Type 0 where
  all : (a : List ℕ) (m : Meaning) → Inner a m → (r : List ℕ) → stops r ≡ true → ReadAll inner a r m
  took : (s : List ℕ) (m : Meaning) (r : List ℕ) → inner s ≡ got m r → Took (λ a. Inner a m) s r
  empty : inner [] ≡ bad
  closing : (t : List ℕ) → inner (0x5D ∷ t) ≡ bad

module _ (Inner : List ℕ → Meaning → Type 0) (inner : List ℕ → Out Meaning) (k : Reader Inner inner) where
  inner_shorter : (s : List ℕ) (m : Meaning) (r : List ℕ) → inner s ≡ got m r → length r ≤ length s
  inner_shorter s m r e = took_shorter s r (k.took s m r e)

  member_shorter : (s : List ℕ) (i : Item) (r : List ℕ) → member_of inner s ≡ got i r → length r ≤ length s
  member_shorter s i r e = took_shorter s r (member_took Inner inner k.took s i r e)

  object_all : {a : List ℕ} {ms : List Named} → Grammar.Object Inner a ms → (r : List ℕ) →
      (xs : List Item) × (map named_of xs ≡ ms) × (enclosed_of (member_of inner) 0x7B 0x7D (skip (a ++ r)) ≡ got xs (skip r))
  unfolding member_of string_of and_then
  object_all o r =
      enclosed_all named_of (Grammar.Member Inner) (member_of inner) 0x7D (member_all Inner inner k.all) member_shorter refl (λ t. refl) refl refl refl 0x7B refl o r

  array_all : {a : List ℕ} {ms : List Meaning} → Grammar.Array Inner a ms → (r : List ℕ) →
      (xs : List Meaning) × (map (λ x. x) xs ≡ ms) × (enclosed_of inner 0x5B 0x5D (skip (a ++ r)) ≡ got xs (skip r))
  array_all o r =
      enclosed_all (λ x. x) Inner inner 0x5D (λ a m v r e. (m, refl, k.all a m v r e)) inner_shorter k.empty k.closing refl refl refl 0x5B refl o r

  flat_nested : (x : ℕ) (s r : List ℕ) (m : Meaning) → eqb x 0x7B ≡ false → eqb x 0x5B ≡ false → flat_of (x ∷ s) ≡ got m r → nested_of inner (x ∷ s) ≡ got m r
  unfolding nested_of
  flat_nested x s r m p q e = rw (p, q) e

  object_nested : (l t r : List ℕ) (xs : List Item) → l ≡ 0x7B ∷ t → enclosed_of (member_of inner) 0x7B 0x7D l ≡ got xs r → nested_of inner l ≡ got other r
  unfolding nested_of and_then
  object_nested l t r xs e g = ap (nested_of inner) e ∙ rw (sym (ap (enclosed_of (member_of inner) 0x7B 0x7D) e) ∙ g)

  array_nested : (l t r : List ℕ) (xs : List Meaning) → l ≡ 0x5B ∷ t → enclosed_of inner 0x5B 0x5D l ≡ got xs r → nested_of inner l ≡ got other r
  unfolding nested_of and_then
  array_nested l t r xs e g = ap (nested_of inner) e ∙ rw (sym (ap (enclosed_of inner 0x5B 0x5D) e) ∙ g)

  -- an enclosed part shows its opening character first
  opens : {X : Type 0} {P : List ℕ → X → Type 0} (opening closing : ℕ) → is_ws opening ≡ false → {a : List ℕ} {xs : List X} → Between opening closing P a xs → (r : List ℕ) →
      (t : List ℕ) × (skip (a ++ r) ≡ opening ∷ t)
  opens opening closing n (Grammar.empty {a = a} {b = b} o c) r =
      let s = structural_stands opening n o (b ++ r) in
      (s.tail, ap skip (append_assoc a b r) ∙ s.seen)
  opens opening closing n (Grammar.filled {a = a} {b = b} {c = c} o i c') r =
      let s = structural_stands opening n o ((b ++ c) ++ r) in
      (s.tail, ap skip (append_assoc a (b ++ c) r) ∙ s.seen)

  nested_all : (a : List ℕ) (m : Meaning) → Grammar.Nested Inner a m → (r : List ℕ) → stops r ≡ true → ReadAll (nested_of inner) a r m
  nested_all a m (Grammar.flat f) r e =
      let i = flat_first f in
      record {
        rest = r;
        reads = ap (nested_of inner) (flat_dark i r) ∙ flat_nested i.x (i.s ++ r) r m i.no_object i.no_array (ap flat_of (sym (flat_dark i r) ∙ flat_same i r) ∙ flat_all f r e);
        leaves = refl;
      }
  nested_all a m (Grammar.object o) r e =
      let (xs, n, g) = object_all o r in
      let (t, q) = opens 0x7B 0x7D refl o r in
      record { rest = skip r; reads = object_nested (skip (a ++ r)) t (skip r) xs q g; leaves = skip_twice r }
  nested_all a m (Grammar.array o) r e =
      let (xs, n, g) = array_all o r in
      let (t, q) = opens 0x5B 0x5D refl o r in
      record { rest = skip r; reads = array_nested (skip (a ++ r)) t (skip r) xs q g; leaves = skip_twice r }

flat_reads : (a : List ℕ) (m : Meaning) → Grammar.Flat a m → (r : List ℕ) → stops r ≡ true → ReadAll flat_of a r m
flat_reads a m f r e = record { rest = r; reads = ap flat_of (flat_same (flat_first f) r) ∙ flat_all f r e; leaves = refl }

no_closing : (depth : ℕ) (t : List ℕ) → value_of depth (0x5D ∷ t) ≡ bad
unfolding value_of flat_of nested_of json_number int past and_then
no_closing zero t = refl
no_closing (suc depth) t = refl

skip_empty : skip [] ≡ []
unfolding past_all
skip_empty = refl

reader : (depth : ℕ) → ((a : List ℕ) (m : Meaning) → Grammar.Value depth a m → (r : List ℕ) → stops r ≡ true → ReadAll (value_of depth) a r m) →
    Reader (Grammar.Value depth) (value_of depth)
reader depth all = record { all = all; took = value_took depth; empty = no_value depth; closing = no_closing depth }

pub value_all : (depth : ℕ) (a : List ℕ) (m : Meaning) → Grammar.Value depth a m → (r : List ℕ) → stops r ≡ true → ReadAll (value_of depth) a r m
unfolding value_of
value_all zero a m v r e = flat_reads a m v r e
value_all (suc depth) a m v r e = nested_all (Grammar.Value depth) (value_of depth) (reader depth (λ a m v r e. value_all depth a m v r e)) a m v r e

-- every JSON text within the depth is read, with its members
pub json_all : {s : List ℕ} {ms : List Named} → Grammar.JsonText s ms → (items : List Item) × (names items ≡ ms) × (members_of s ≡ got items [])
unfolding members_of
json_all (Grammar.json {a = a} {b = b} {c = c} w o v) =
    let (items, n, e) = object_all (Grammar.Value 126) (value_of 126) (reader 126 (value_all 126)) o c in
    let nothing : skip c ≡ [] = ap skip (sym (append-nil c)) ∙ skip_past v [] ∙ skip_empty in
    (items, n, ap all_read (ap (enclosed_of (member_of (value_of 126)) 0x7B 0x7D) (skip_past w (b ++ c)) ∙ e ∙ ap (got items) nothing))
