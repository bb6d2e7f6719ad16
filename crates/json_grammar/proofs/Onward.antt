-- What a reader of values finds at the head of a value, and of a member its name and its value. Assumes nothing.
use mathlib.Core.Path.{◌≡◌, refl, sym, ◌∙◌, ap}
use mathlib.Core.Bool.{Bool, true, false}
use mathlib.Core.List.{List, [], ◌∷◌, ◌++◌, append_assoc}
use Prim.Native.Nat.{ℕ, zero, suc}
use native.Mathlib.Omega.{arith}
use lib.Dec.{eqb}
use lib.ListN.{length}
use Rattle.ground.specs.Ascii.{ascii}
use Rattle.ground.specs.Choice.{pick}
use Rattle.ground.proofs.Cases.{clash}
use Rattle.text_places.specs.Places.{same}
use Rattle.json_grammar.specs.Grammar.{Meaning, other}
use Rattle.json_grammar.specs.Reader.{Out, got, bad, and_then, skip, structural, chars_from, string_of, past_word, json_number, as_text, as_other, flat_of, after_item, items_of, inside_of, enclosed_of, Item, item, member_of, nested_of, value_of, members_of, Found, missing, found, or_earlier, last_of}
use Rattle.json_grammar.specs.Onward.{Texted, EndsIn, Standing, Each, each_none, each_one}
use Rattle.json_grammar.proofs.Took.{Took, and_got, same_value, same_rest, never_bad, skip_took, structural_took}
use Rattle.json_grammar.proofs.StringsTook.{string_took}
use Rattle.json_grammar.proofs.ValuesTook.{word_took, value_took, all_read_lem}

-- A value that begins with a quotation mark is a string, and no other is.
as_text_lem : (l : List ℕ) {m : Meaning} {r : List ℕ} → as_text (chars_from 0 l) ≡ got m r → Texted l m r
as_text_lem l e =
    let t = and_got (chars_from 0 l) e in
    record { bytes = t.first; is = sym (same_value t.goes); chars = t.reads ∙ ap (got t.first) (same_rest t.goes) }

flat_text : (l : List ℕ) {m : Meaning} {r : List ℕ} → flat_of (0x22 ∷ l) ≡ got m r → Texted l m r
unfolding flat_of string_of
flat_text l e = as_text_lem l e

pub value_text : (depth : ℕ) (l : List ℕ) {m : Meaning} {r : List ℕ} → value_of depth (0x22 ∷ l) ≡ got m r → Texted l m r
unfolding value_of nested_of
value_text zero l e = flat_text l e
value_text (suc depth) l e = flat_text l e

as_other_lem : {A : Type 0} (o : Out A) {m : Meaning} {r : List ℕ} → as_other o ≡ got m r → m ≡ other
as_other_lem o e = let t = and_got o e in sym (same_value t.goes)

flat_other : (x : ℕ) (l : List ℕ) {m : Meaning} {r : List ℕ} → eqb x 0x22 ≡ false → flat_of (x ∷ l) ≡ got m r → m ≡ other
unfolding flat_of
flat_other x l {m} {r} n e = go (eqb x 0x22) n (eqb x 0x66) (eqb x 0x6E) (eqb x 0x74) e
  where
    s : List ℕ
    s = x ∷ l

    go : (q : Bool) → q ≡ false → (a b c : Bool) →
        pick q (as_text (string_of s)) (pick a (past_word (ascii "false") s) (pick b (past_word (ascii "null") s) (pick c (past_word (ascii "true") s) (as_other (json_number s))))) ≡ got m r → m ≡ other
    go true f a b c g = clash refl f
    go false f true b c g = sym (word_took (ascii "false") s g).1
    go false f false true c g = sym (word_took (ascii "null") s g).1
    go false f false false true g = sym (word_took (ascii "true") s g).1
    go false f false false false g = as_other_lem (json_number s) g

nested_other : (inner : List ℕ → Out Meaning) (x : ℕ) (l : List ℕ) {m : Meaning} {r : List ℕ} → eqb x 0x22 ≡ false → nested_of inner (x ∷ l) ≡ got m r → m ≡ other
unfolding nested_of
nested_other inner x l {m} {r} n e = go (eqb x 0x7B) (eqb x 0x5B) e
  where
    go : (a b : Bool) → pick a (as_other (enclosed_of (member_of inner) 0x7B 0x7D (x ∷ l))) (pick b (as_other (enclosed_of inner 0x5B 0x5D (x ∷ l))) (flat_of (x ∷ l))) ≡ got m r → m ≡ other
    go true b f = as_other_lem (enclosed_of (member_of inner) 0x7B 0x7D (x ∷ l)) f
    go false true f = as_other_lem (enclosed_of inner 0x5B 0x5D (x ∷ l)) f
    go false false f = flat_other x l n f

pub value_other : (depth x : ℕ) (l : List ℕ) {m : Meaning} {r : List ℕ} → eqb x 0x22 ≡ false → value_of depth (x ∷ l) ≡ got m r → m ≡ other
unfolding value_of
value_other zero x l n e = flat_other x l n e
value_other (suc depth) x l n e = nested_other (value_of depth) x l n e

pub no_value : (depth : ℕ) → value_of depth [] ≡ bad
unfolding value_of nested_of flat_of
no_value zero = refl
no_value (suc depth) = refl

-- A member's name and value.
pub record Parts (inner : List ℕ → Out Meaning) (l : List ℕ) (k : List ℕ) (m : Meaning) (onward r : List ℕ) : Type 0 where
  pub rest : List ℕ
  pub named : chars_from 0 l ≡ got k rest
  pub valued : inner onward ≡ got m r

string_chars : (x : ℕ) (l : List ℕ) {k q : List ℕ} → string_of (x ∷ l) ≡ got k q → chars_from 0 l ≡ got k q
unfolding string_of
string_chars x l {k} {q} e = go (eqb x 0x22) e
  where
    go : (b : Bool) → pick b (chars_from 0 l) bad ≡ got k q → chars_from 0 l ≡ got k q
    go true f = f
    go false f = never_bad f

pub member_parts : (inner : List ℕ → Out Meaning) (x : ℕ) (l : List ℕ) {i : Item} {r : List ℕ} → member_of inner (x ∷ l) ≡ got i r →
    Parts inner l i.named.key i.named.value i.onward r
unfolding member_of
member_parts inner x l {i} {r} e =
    let t = and_got (string_of (x ∷ l)) e in
    let u = and_got (structural 0x3A t.left_over) t.goes in
    let w = and_got (inner u.left_over) u.goes in
    let is : item t.first w.first u.left_over ≡ i = same_value w.goes in
    record {
      rest = t.left_over;
      named = string_chars x l t.reads ∙ ap (λ j. got j.named.key t.left_over) is;
      valued = ap (λ j. inner j.onward) (sym is) ∙ w.reads ∙ ap (λ j. got j.named.value w.left_over) is ∙ ap (got i.named.value) (same_rest w.goes);
    }

-- The last member with a name, where one more member comes.
earlier_again : (f g h : Found) → or_earlier (or_earlier f g) h ≡ or_earlier f (or_earlier g h)
earlier_again (found i) g h = refl
earlier_again missing g h = refl

or_missing : (f : Found) → or_earlier f missing ≡ f
or_missing (found i) = refl
or_missing missing = refl

pick_found : (b : Bool) (i : Item) (f : Found) → or_earlier (pick b (found i) missing) f ≡ pick b (found i) f
pick_found true i f = refl
pick_found false i f = refl

pub last_later : (k : List ℕ) (items : List Item) (i : Item) → last_of k (items ++ (i ∷ [])) ≡ pick (same i.named.key k) (found i) (last_of k items)
unfolding last_of
last_later k items i = after k items i ∙ pick_found (same i.named.key k) i (last_of k items)
  where
    after : (k : List ℕ) (items : List Item) (i : Item) → last_of k (items ++ (i ∷ [])) ≡ or_earlier (pick (same i.named.key k) (found i) missing) (last_of k items)
    after k [] i = sym (or_missing (pick (same i.named.key k) (found i) missing))
    after k (j ∷ items) i =
        ap (λ f. or_earlier f (pick (same j.named.key k) (found j) missing)) (after k items i)
        ∙ earlier_again (pick (same i.named.key k) (found i) missing) (last_of k items) (pick (same j.named.key k) (found j) missing)

-- Where a member's value stands in the whole text.
pub within_all : (s : List ℕ) → EndsIn s s
within_all s = record { front = []; cut = refl }

within_took : {A : List ℕ → Type 0} {s l r : List ℕ} → EndsIn s l → Took A l r → EndsIn s r
within_took {r = r} w t = record { front = w.front ++ t.part; cut = w.cut ∙ ap (λ x. w.front ++ x) t.cut ∙ sym (append_assoc w.front t.part r) }

module _ (depth : ℕ) (s : List ℕ) where
  standing_as : {i j : Item} → i ≡ j → Standing depth s i → Standing depth s j
  standing_as e t = rw e at t

  each_as : {a b : List Item} → a ≡ b → Each (Standing depth s) a → Each (Standing depth s) b
  each_as e t = rw e at t

  within_as : {a b : List ℕ} → a ≡ b → EndsIn s a → EndsIn s b
  within_as e t = rw e at t

  -- a member's value, and what is left after it
  member_stands : (l : List ℕ) (i : Item) (r : List ℕ) → EndsIn s l → member_of (value_of depth) l ≡ got i r → Standing depth s i × EndsIn s r
  unfolding member_of
  member_stands l i r w e =
      let t = and_got (string_of l) e in
      let u = and_got (structural 0x3A t.left_over) t.goes in
      let v = and_got (value_of depth u.left_over) u.goes in
      let named : EndsIn s t.left_over = within_took w (string_took l t.reads) in
      let onward : EndsIn s u.left_over = within_took named (structural_took 0x3A t.left_over u.reads) in
      let left : EndsIn s v.left_over = within_took onward (value_took depth u.left_over v.first v.left_over v.reads) in
      (standing_as (same_value v.goes) (record { within = onward; rest = v.left_over; valued = v.reads }), within_as (same_rest v.goes) left)

  skip_within : (l : List ℕ) → EndsIn s l → EndsIn s (skip l)
  skip_within l w = within_took w (skip_took l)

  tail_within : (x : ℕ) (l : List ℕ) → EndsIn s (x ∷ l) → EndsIn s l
  tail_within x l w = record { front = w.front ++ (x ∷ []); cut = w.cut ∙ sym (append_assoc w.front (x ∷ []) l) }

  after_stands : (i : Item) (more : List ℕ → Out (List Item)) (xs : List Item) (r l : List ℕ) → Standing depth s i → EndsIn s l →
      ((q : List ℕ) (ys : List Item) (t : List ℕ) → EndsIn s q → more q ≡ got ys t → Each (Standing depth s) ys) → after_item 0x7D i more l ≡ got xs r → Each (Standing depth s) xs
  unfolding after_item
  after_stands i more xs r [] t w again e = never_bad e
  after_stands i more xs r (y ∷ l) t w again e = go (eqb y 0x2C) (eqb y 0x7D) e
    where
      go : (a b : Bool) → pick a (and_then (more (skip l)) (λ ys z. got (i ∷ ys) z)) (pick b (got (i ∷ []) (skip l)) bad) ≡ got xs r → Each (Standing depth s) xs
      go true b f =
          let u = and_got (more (skip l)) f in
          each_as (same_value u.goes) (each_one t (again (skip l) u.first u.left_over (skip_within l (tail_within y l w)) u.reads))
      go false true f = each_as (same_value f) (each_one t each_none)
      go false false f = never_bad f

  items_stand : (n : ℕ) (l : List ℕ) (xs : List Item) (r : List ℕ) → EndsIn s l → items_of (member_of (value_of depth)) 0x7D n l ≡ got xs r → Each (Standing depth s) xs
  unfolding items_of
  items_stand zero l xs r w e = never_bad e
  items_stand (suc n) l xs r w e =
      let t = and_got (member_of (value_of depth) l) e in
      let (m, left) = member_stands l t.first t.left_over w t.reads in
      after_stands t.first (items_of (member_of (value_of depth)) 0x7D n) xs r (skip t.left_over) m (skip_within t.left_over left)
      (λ q ys z v f. items_stand n q ys z v f) t.goes

  inside_stands : (l : List ℕ) (xs : List Item) (r : List ℕ) → EndsIn s l → inside_of (member_of (value_of depth)) 0x7D l ≡ got xs r → Each (Standing depth s) xs
  unfolding inside_of
  inside_stands [] xs r w e = never_bad e
  inside_stands (y ∷ l) xs r w e = go (eqb y 0x7D) e
    where
      go : (b : Bool) → pick b (got [] (skip l)) (items_of (member_of (value_of depth)) 0x7D (length (y ∷ l)) (y ∷ l)) ≡ got xs r → Each (Standing depth s) xs
      go true f = each_as (same_value f) each_none
      go false f = items_stand (length (y ∷ l)) (y ∷ l) xs r w f

  object_stands : (l : List ℕ) (xs : List Item) (r : List ℕ) → EndsIn s l → enclosed_of (member_of (value_of depth)) 0x7B 0x7D l ≡ got xs r → Each (Standing depth s) xs
  unfolding enclosed_of
  object_stands [] xs r w e = never_bad e
  object_stands (y ∷ l) xs r w e = go (eqb y 0x7B) e
    where
      go : (b : Bool) → pick b (inside_of (member_of (value_of depth)) 0x7D (skip l)) bad ≡ got xs r → Each (Standing depth s) xs
      go true f = inside_stands (skip l) xs r (skip_within l (tail_within y l w)) f
      go false f = never_bad f

pub members_stand : (s : List ℕ) {items : List Item} {r : List ℕ} → members_of s ≡ got items r → Each (Standing 126 s) items
unfolding members_of
members_stand s {items} e =
    let (f, g) = all_read_lem (enclosed_of (member_of (value_of 126)) 0x7B 0x7D (skip s)) e in
    object_stands 126 s (skip s) items [] (within_took (within_all s) (skip_took s)) f

-- what is true of each item is true of the last with a name
pub each_last : {P : Item → Type 0} (k : List ℕ) (items : List Item) {j : Item} → Each P items → last_of k items ≡ found j → P j
unfolding last_of
each_last k [] each_none e = absurd (let z : ◌≡◌ {A = ℕ} 0 1 = cc in omega arith)
each_last {P} k (i ∷ items) {j} (each_one p ps) e = go (last_of k items) refl (same i.named.key k) (λ f. each_last k items ps f) e
  where
    go : (f : Found) → last_of k items ≡ f → (b : Bool) → (last_of k items ≡ found j → P j) → or_earlier f (pick b (found i) missing) ≡ found j → P j
    go (found x) q b again g = again (q ∙ g)
    go missing q true again g = let is : i ≡ j = cc in rw (← is) p
    go missing q false again g = absurd (let z : ◌≡◌ {A = ℕ} 0 1 = cc in omega arith)
