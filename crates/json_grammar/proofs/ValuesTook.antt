-- Sound: the values and members that the reader takes are those of the grammar. Assumes nothing.
use mathlib.Core.Path.{◌≡◌, refl, sym, ◌∙◌, ap}
use mathlib.Core.Bool.{Bool, true, false}
use mathlib.Core.List.{List, [], ◌∷◌, ◌++◌, append_assoc}
use Prim.Native.Nat.{ℕ, zero, suc}
use native.Mathlib.Omega.{arith}
use lib.Dec.{eqb}
use lib.ListN.{length}
use borrow.Author.Tests.{eqb-true}
use Rattle.ground.specs.Abnf.{Octet, Exactly, octet, left, right, exactly, none}
use Rattle.ground.specs.Ascii.{ascii}
use Rattle.ground.specs.Choice.{pick}
use Rattle.ground.proofs.Cases.{within_yes}
use Rattle.json_grammar.specs.Grammar
use Rattle.json_grammar.specs.Grammar.{Meaning, other}
use Rattle.json_grammar.specs.Reader.{past_all, Out, got, bad, and_then, is_ws, skip, structural, json_number, string_of, past_word, as_text, as_other, flat_of, after_item, items_of, inside_of, enclosed_of, Item, item, member_of, nested_of, value_of, all_read, members_of, names}
use Rattle.json_grammar.proofs.Took.{Took, took_as, took_to, took_cat, and_got, same_rest, same_value, never_bad, skip_took, structural_took, number_took}
use Rattle.json_grammar.proofs.All.{skip_none}
use Rattle.json_grammar.proofs.StringsTook.{string_took}

-- what was taken, under another name for what it means
meant_as : {X : Type 0} (A : List ℕ → X → Type 0) (s r : List ℕ) {m n : X} → m ≡ n → Took (λ a. A a m) s r → Took (λ a. A a n) s r
meant_as A s r e t = rw e at t

-- The values that nest nothing.
pub word_took : (w s : List ℕ) {m : Meaning} {r : List ℕ} → past_word w s ≡ got m r → (s ≡ w ++ r) × (other ≡ m)
unfolding past_word
word_took [] s e = (same_rest e, same_value e)
word_took (c ∷ w) [] e = never_bad e
word_took (c ∷ w) (x ∷ s) {m} {r} e = go (eqb x c) refl (λ f. word_took w s f) e
  where
    go : (b : Bool) → eqb x c ≡ b → (past_word w s ≡ got m r → (s ≡ w ++ r) × (other ≡ m)) → pick b (past_word w s) bad ≡ got m r → (x ∷ s ≡ c ∷ (w ++ r)) × (other ≡ m)
    go true q again f = let (g, h) = again f in let y = eqb-true x c q in (cc, h)
    go false q again f = never_bad f

literal_took : (w s : List ℕ) {m : Meaning} {r : List ℕ} → ((a : List ℕ) → Exactly w a → Grammar.LiteralName a) → past_word w s ≡ got m r → Took (λ a. Grammar.Flat a m) s r
literal_took w s {m} {r} f e =
    let (c, o) = word_took w s e in
    meant_as Grammar.Flat s r o (record { part = w; cut = c; is = Grammar.name (f w exactly) })

pub flat_took : (s : List ℕ) {m : Meaning} {r : List ℕ} → flat_of s ≡ got m r → Took (λ a. Grammar.Flat a m) s r
unfolding flat_of
flat_took [] e = never_bad e
flat_took (x ∷ s) {m} {r} e = go (eqb x 0x22) (eqb x 0x66) (eqb x 0x6E) (eqb x 0x74) e
  where
    l : List ℕ
    l = x ∷ s

    go : (a b c d : Bool) →
        pick a (as_text (string_of l)) (pick b (past_word (ascii "false") l) (pick c (past_word (ascii "null") l) (pick d (past_word (ascii "true") l) (as_other (json_number l))))) ≡ got m r →
        Took (λ a. Grammar.Flat a m) l r
    go true b c d f =
        let t = and_got (string_of l) f in
        meant_as Grammar.Flat l r (same_value t.goes) (took_to (same_rest t.goes) (took_as (λ a i. Grammar.string i) (string_took l t.reads)))
    go false true c d f = literal_took (ascii "false") l (λ a i. left i) f
    go false false true d f = literal_took (ascii "null") l (λ a i. right (left i)) f
    go false false false true f = literal_took (ascii "true") l (λ a i. right (right i)) f
    go false false false false f =
        let t = and_got (json_number l) f in
        meant_as Grammar.Flat l r (same_value t.goes) (took_to (same_rest t.goes) (took_as (λ a i. Grammar.number i) (number_took l t.reads)))

-- A structural character, where the reader has passed the ws before it.
structural_here : (x : ℕ) (q t : List ℕ) (y : ℕ) → skip q ≡ y ∷ t → eqb y x ≡ true → Took (Grammar.Structural x) q (skip t)
structural_here x q t y e f =
    let is = eqb-true y x f in
    let here : Octet x x (y ∷ []) = octet y (within_yes x x y (omega arith) (omega arith)) in
    took_cat (took_to e (skip_took q)) (took_cat (record { part = y ∷ []; cut = refl; is = here }) (skip_took t))

pub skip_twice : (s : List ℕ) → skip (skip s) ≡ skip s
unfolding past_all
skip_twice [] = refl
skip_twice (x ∷ s) = go (is_ws x) refl (skip_twice s)
  where
    go : (b : Bool) → is_ws x ≡ b → skip (skip s) ≡ skip s → skip (pick b (skip s) (x ∷ s)) ≡ pick b (skip s) (x ∷ s)
    go true e again = again
    go false e again = rw e

-- what stands between two structural characters, by their octets
abbrev pub Between : {X : Type 0} → ℕ → ℕ → (List ℕ → X → Type 0) → List ℕ → List X → Type 0
Between opening closing P = Grammar.Enclosed (Grammar.Structural opening) (Grammar.Structural closing) P

-- Items and what encloses them, over any reader of an item.
module _ {X : Type 0} (P : List ℕ → X → Type 0) (p : List ℕ → Out X) (item-took : (s : List ℕ) (x : X) (r : List ℕ) → p s ≡ got x r → Took (λ a. P a x) s r) (closing : ℕ) where
  record ItemsTook (s : List ℕ) (xs : List X) (r : List ℕ) : Type 0 where
    items : List ℕ
    close : List ℕ
    cut : s ≡ items ++ (close ++ r)
    are : Grammar.Separated P items xs
    closed : Grammar.Structural closing close

  items_as : (s : List ℕ) {xs ys : List X} {r q : List ℕ} → xs ≡ ys → r ≡ q → ItemsTook s xs r → ItemsTook s ys q
  items_as s {xs} {ys} {r} {q} e f t = rw f at (value t)
    where
      value : ItemsTook s xs r → ItemsTook s ys r
      value u = rw e at u

  last_item : (s m : List ℕ) (x : X) (r : List ℕ) → Took (λ a. P a x) s m → Took (Grammar.Structural closing) m r → ItemsTook s (x ∷ []) r
  last_item s m x r t c = record {
    items = t.part;
    close = c.part;
    cut = t.cut ∙ ap (λ l. t.part ++ l) c.cut;
    are = Grammar.one t.is;
    closed = c.is;
  }

  next_item : (s m n : List ℕ) (x : X) (xs : List X) (r : List ℕ) → Took (λ a. P a x) s m → Took Grammar.value_separator m n → ItemsTook n xs r → ItemsTook s (x ∷ xs) r
  next_item s m n x xs r t c i = record {
    items = t.part ++ (c.part ++ i.items);
    close = i.close;
    cut =
        t.cut ∙ ap (λ l. t.part ++ l) (c.cut ∙ ap (λ l. c.part ++ l) i.cut ∙ sym (append_assoc c.part i.items (i.close ++ r)))
        ∙ sym (append_assoc t.part (c.part ++ i.items) (i.close ++ r));
    are = Grammar.and t.is c.is i.are;
    closed = i.closed;
  }

  after_took : (s m : List ℕ) (x : X) (more : List ℕ → Out (List X)) (ys : List X) (r : List ℕ) → Took (λ a. P a x) s m →
      ((q : List ℕ) (xs : List X) (t : List ℕ) → more q ≡ got xs t → ItemsTook q xs t) →
      (l : List ℕ) → skip m ≡ l → after_item closing x more l ≡ got ys r → ItemsTook s ys r
  unfolding after_item
  after_took s m x more ys r t again [] q e = never_bad e
  after_took s m x more ys r t again (y ∷ l) q e = go (eqb y 0x2C) refl (eqb y closing) refl e
    where
      go : (a : Bool) → eqb y 0x2C ≡ a → (b : Bool) → eqb y closing ≡ b →
          pick a (and_then (more (skip l)) (λ xs z. got (x ∷ xs) z)) (pick b (got (x ∷ []) (skip l)) bad) ≡ got ys r → ItemsTook s ys r
      go true ea b eb f =
          let u = and_got (more (skip l)) f in
          items_as s (same_value u.goes) (same_rest u.goes)
          (next_item s m (skip l) x u.first u.left_over t (structural_here 0x2C m l y q ea) (again (skip l) u.first u.left_over u.reads))
      go false ea true eb f = items_as s (same_value f) (same_rest f) (last_item s m x (skip l) t (structural_here closing m l y q eb))
      go false ea false eb f = never_bad f

  items_took : (n : ℕ) (s : List ℕ) (xs : List X) (r : List ℕ) → items_of p closing n s ≡ got xs r → ItemsTook s xs r
  unfolding items_of
  items_took zero s xs r e = never_bad e
  items_took (suc n) s xs r e =
      let t = and_got (p s) e in
      after_took s t.left_over t.first (items_of p closing n) xs r (item-took s t.first t.left_over t.reads)
      (λ q ys z. items_took n q ys z) (skip t.left_over) refl t.goes

  module _ (opening : ℕ) where
    enclosed_as : (s : List ℕ) {xs ys : List X} {r q : List ℕ} → xs ≡ ys → r ≡ q →
        Took (λ a. Between opening closing P a xs) s r → Took (λ a. Between opening closing P a ys) s q
    enclosed_as s {r = r} e f t = took_to f (meant_as (Between opening closing P) s r e t)

    empty_took : (s m r : List ℕ) → Took (Grammar.Structural opening) s m → Took (Grammar.Structural closing) m r → Took (λ a. Between opening closing P a []) s r
    empty_took s m r o c = record {
      part = o.part ++ c.part;
      cut = o.cut ∙ ap (λ l. o.part ++ l) c.cut ∙ sym (append_assoc o.part c.part r);
      is = Grammar.empty o.is c.is;
    }

    filled_took : (s m : List ℕ) (xs : List X) (r : List ℕ) → Took (Grammar.Structural opening) s m → ItemsTook m xs r → Took (λ a. Between opening closing P a xs) s r
    filled_took s m xs r o i = record {
      part = o.part ++ (i.items ++ i.close);
      cut =
          o.cut ∙ ap (λ l. o.part ++ l) (i.cut ∙ sym (append_assoc i.items i.close r)) ∙ sym (append_assoc o.part (i.items ++ i.close) r);
      is = Grammar.filled o.is i.are i.closed;
    }

    inside_took : (s l : List ℕ) (xs : List X) (r : List ℕ) → Took (Grammar.Structural opening) s l → skip l ≡ l →
        inside_of p closing l ≡ got xs r → Took (λ a. Between opening closing P a xs) s r
    unfolding inside_of
    inside_took s [] xs r o k e = never_bad e
    inside_took s (y ∷ t) xs r o k e = go (eqb y closing) refl e
      where
        go : (b : Bool) → eqb y closing ≡ b → pick b (got [] (skip t)) (items_of p closing (length (y ∷ t)) (y ∷ t)) ≡ got xs r →
            Took (λ a. Between opening closing P a xs) s r
        go true q f = enclosed_as s (same_value f) (same_rest f) (empty_took s (y ∷ t) (skip t) o (structural_here closing (y ∷ t) t y k q))
        go false q f = filled_took s (y ∷ t) xs r o (items_took (length (y ∷ t)) (y ∷ t) xs r f)

    pub enclosed_took : (s : List ℕ) (xs : List X) (r : List ℕ) → skip s ≡ s → enclosed_of p opening closing s ≡ got xs r →
        Took (λ a. Between opening closing P a xs) s r
    unfolding enclosed_of
    enclosed_took [] xs r k e = never_bad e
    enclosed_took (x ∷ s) xs r k e = go (eqb x opening) refl e
      where
        go : (b : Bool) → eqb x opening ≡ b → pick b (inside_of p closing (skip s)) bad ≡ got xs r → Took (λ a. Between opening closing P a xs) (x ∷ s) r
        go true q f = inside_took (x ∷ s) (skip s) xs r (structural_here opening (x ∷ s) s x k q) (skip_twice s) f
        go false q f = never_bad f

-- Members.
pub member_took :
    (Inner : List ℕ → Meaning → Type 0) (inner : List ℕ → Out Meaning) → ((s : List ℕ) (m : Meaning) (r : List ℕ) → inner s ≡ got m r → Took (λ a. Inner a m) s r) →
    (s : List ℕ) (i : Item) (r : List ℕ) → member_of inner s ≡ got i r → Took (λ a. Grammar.Member Inner a i.named) s r
unfolding member_of
member_took Inner inner inner-took s i r e =
    let t = and_got (string_of s) e in
    let u = and_got (structural 0x3A t.left_over) t.goes in
    let w = and_got (inner u.left_over) u.goes in
    glue (string_took s t.reads) (structural_took 0x3A t.left_over u.reads) (inner-took u.left_over w.first w.left_over w.reads)
    (same_value w.goes) (same_rest w.goes)
  where
    glue : {k m n : List ℕ} {v : Meaning} {q l : List ℕ} → Took (λ a. Grammar.String a k) s m → Took Grammar.name_separator m n → Took (λ a. Inner a v) n q →
        item k v l ≡ i → q ≡ r → Took (λ a. Grammar.Member Inner a i.named) s r
    glue {k} {m} {n} {v} {q} {l} a b c f g =
        let whole : Took (λ x. Grammar.Member Inner x (item k v l).named) s q = record {
          part = a.part ++ (b.part ++ c.part);
          cut =
              a.cut ∙ ap (λ x. a.part ++ x) (b.cut ∙ ap (λ x. b.part ++ x) c.cut ∙ sym (append_assoc b.part c.part q))
              ∙ sym (append_assoc a.part (b.part ++ c.part) q);
          is = Grammar.member a.is b.is c.is;
        } in
        took_to g (meant_as (Grammar.Member Inner) s q (ap (λ j. j.named) f) whole)

-- The names and meanings of items are what the grammar speaks of.
named_items : {Inner : List ℕ → Meaning → Type 0} {a : List ℕ} {items : List Item} →
    Grammar.Separated (λ b i. Grammar.Member Inner b i.named) a items → Grammar.Separated (Grammar.Member Inner) a (names items)
named_items (Grammar.one m) = Grammar.one m
named_items (Grammar.and m c s) = Grammar.and m c (named_items s)

named_object : {Inner : List ℕ → Meaning → Type 0} {a : List ℕ} {items : List Item} →
    Between 0x7B 0x7D (λ b i. Grammar.Member Inner b i.named) a items → Grammar.Object Inner a (names items)
named_object (Grammar.empty o c) = Grammar.empty o c
named_object (Grammar.filled o s c) = Grammar.filled o (named_items s) c

-- where a character stands that is no ws, there is none to skip
no_ws : (x : ℕ) (s : List ℕ) (c : ℕ) → eqb x c ≡ true → is_ws c ≡ false → skip (x ∷ s) ≡ x ∷ s
no_ws x s c e f = skip_none x s (ap is_ws (eqb-true x c e) ∙ f)

-- Values, level by level.
nested_took :
    (Inner : List ℕ → Meaning → Type 0) (inner : List ℕ → Out Meaning) → ((s : List ℕ) (m : Meaning) (r : List ℕ) → inner s ≡ got m r → Took (λ a. Inner a m) s r) →
    (s : List ℕ) (m : Meaning) (r : List ℕ) → nested_of inner s ≡ got m r → Took (λ a. Grammar.Nested Inner a m) s r
unfolding nested_of
nested_took Inner inner inner-took [] m r e = never_bad e
nested_took Inner inner inner-took (x ∷ s) m r e = go (eqb x 0x7B) refl (eqb x 0x5B) refl e
  where
    l : List ℕ
    l = x ∷ s

    go : (a : Bool) → eqb x 0x7B ≡ a → (b : Bool) → eqb x 0x5B ≡ b → pick a (as_other (enclosed_of (member_of inner) 0x7B 0x7D l)) (pick b (as_other (enclosed_of inner 0x5B 0x5D l)) (flat_of l)) ≡ got m r →
        Took (λ a. Grammar.Nested Inner a m) l r
    go true p b q f =
        let t = and_got (enclosed_of (member_of inner) 0x7B 0x7D l) f in
        let o = enclosed_took (λ b i. Grammar.Member Inner b i.named) (member_of inner) (member_took Inner inner inner-took) 0x7D 0x7B l t.first t.left_over (no_ws x s 0x7B p refl) t.reads in
        meant_as (Grammar.Nested Inner) l r (same_value t.goes) (took_to (same_rest t.goes) (took_as (λ a i. Grammar.object (named_object i)) o))
    go false p true q f =
        let t = and_got (enclosed_of inner 0x5B 0x5D l) f in
        let o = enclosed_took Inner inner inner-took 0x5D 0x5B l t.first t.left_over (no_ws x s 0x5B q refl) t.reads in
        meant_as (Grammar.Nested Inner) l r (same_value t.goes) (took_to (same_rest t.goes) (took_as (λ a i. Grammar.array i) o))
    go false p false q f = took_as (λ a i. Grammar.flat i) (flat_took l f)

pub value_took : (depth : ℕ) (s : List ℕ) (m : Meaning) (r : List ℕ) → value_of depth s ≡ got m r → Took (λ a. Grammar.Value depth a m) s r
unfolding value_of
value_took zero s m r e = flat_took s e
value_took (suc depth) s m r e = nested_took (Grammar.Value depth) (value_of depth) (λ t n q. value_took depth t n q) s m r e

-- A whole text.
pub all_read_lem : (o : Out (List Item)) {items : List Item} {r : List ℕ} → all_read o ≡ got items r → (o ≡ got items []) × (r ≡ [])
all_read_lem (got xs []) e = (cc, sym (same_rest e))
all_read_lem (got xs (x ∷ q)) e = never_bad e
all_read_lem bad e = never_bad e

object_took : (s : List ℕ) (items : List Item) (r : List ℕ) → skip s ≡ s → enclosed_of (member_of (value_of 126)) 0x7B 0x7D s ≡ got items r →
    Took (λ a. Grammar.Object (Grammar.Value 126) a (names items)) s r
object_took s items r k e =
    took_as (λ a i. named_object i)
    (enclosed_took (λ b i. Grammar.Member (Grammar.Value 126) b i.named) (member_of (value_of 126)) (member_took (Grammar.Value 126) (value_of 126) (value_took 126)) 0x7D 0x7B s items r k e)

-- what is read is a JSON text with these members
pub json_took : (s : List ℕ) {items : List Item} {r : List ℕ} → members_of s ≡ got items r → Grammar.JsonText s (names items)
unfolding members_of
json_took s {items} {r} e =
    let (f, g) = all_read_lem (enclosed_of (member_of (value_of 126)) 0x7B 0x7D (skip s)) e in
    let w = skip_took s in
    let o = object_took (skip s) items [] (skip_twice s) f in
    rw (w.cut ∙ ap (λ l. w.part ++ l) o.cut) (Grammar.json w.is o.is none)
