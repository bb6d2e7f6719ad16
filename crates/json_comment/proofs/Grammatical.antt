-- The answer for a comment is what RFC 8259's grammar has: nobody has to believe a function. Assumes nothing.
use Rattle.std.specs.Prelude.{Some, None}
use mathlib.Core.Path.{◌≡◌, refl, sym, ◌∙◌, ap}
use mathlib.Core.Bool.{Bool, true, false}
use mathlib.Core.List.{List, [], ◌∷◌, ◌++◌}
use mathlib.Core.Logic.{◌↔◌}
use Prim.Native.Nat.{ℕ, ◌+◌, ◌-◌}
use native.Mathlib.Omega.{arith}
use lib.Dec.{eqb}
use lib.ListN.{length, drop, length-append}
use lib.Seq.{drop_at, drop-drop}
use borrow.Author.Tests.{eqb-true}
use Rattle.ground.specs.Ascii.{ascii}
use Rattle.text_utf8.specs.Grammar.{Utf8Octets}
use Rattle.json_grammar.specs.Grammar.{Meaning, text, other, Named, JsonText}
use Rattle.json_grammar.specs.Members.{Unnamed, Last}
use Rattle.json_grammar.specs.Reader.{Out, got, bad, chars_from, Item, value_of, members_of, names, Found, missing, found, last_of}
use Rattle.json_grammar.specs.Onward.{Standing}
use Rattle.json_grammar.proofs.Took.{never_bad, same_value}
use Rattle.json_grammar.proofs.ValuesTook.{json_took}
use Rattle.json_grammar.proofs.ValuesAll.{json_all}
use Rattle.json_grammar.proofs.Readable.{missing_unnamed, unnamed_missing, found_last, last_found}
use Rattle.json_grammar.proofs.Onward.{value_text, value_other, no_value, members_stand, each_last}
use Rattle.json_grammar.proofs.WellFormed.{reader_octets}
use Rattle.json_comment.specs.declared.answer.Stands.{Stands}
use Rattle.json_comment.specs.declared.answer.Stands.TheVariants.{Missing, Other, Text}
use Rattle.json_comment.specs.Answer.{stands_as, stands_in, comment_answer, comment_of, comment_with}
use Rattle.json_comment.specs.Says.{Told, Says}
use Rattle.json_comment.specs.declared.answer.Comment.{Comment}

-- A comment is unreadable exactly where it is no JSON text.
pub readable_text : (s : List ℕ) {x : Comment} → comment_of s ≡ Some x → (ms : List Named) × JsonText s ms
readable_text s {x} e = go (members_of s) refl e
  where
    go : (o : Out (List Item)) → members_of s ≡ o → comment_answer s o ≡ Some x → (ms : List Named) × JsonText s ms
    go (got items r) f h = (names items, json_took s f)
    go bad f h = absurd (let z : ◌≡◌ {A = ℕ} 0 1 = cc in omega arith)

pub unreadable_text : (s : List ℕ) → comment_of s ≡ None → (ms : List Named) → JsonText s ms → ⊥
unreadable_text s e ms j = let (items, n, f) = json_all j in let z : ◌≡◌ {A = ℕ} 0 1 = cc in omega arith

-- where a text starts in another
place_is : (s front l : List ℕ) → s ≡ front ++ l → length s - length l ≡ length front
place_is s front l e = let n : length s ≡ length front + length l = ap length e ∙ length-append front l in omega arith

past_quote : (s front l : List ℕ) → s ≡ front ++ (0x22 ∷ l) → drop (length s - length (0x22 ∷ l) + 1) s ≡ l
past_quote s front l e =
    ap (λ n. drop (n + 1) s) (place_is s front (0x22 ∷ l) e) ∙ sym (drop-drop 1 (length front) s)
    ∙ ap (drop 1) (ap (drop (length front)) e ∙ drop_at front (0x22 ∷ l) (length front) refl)

-- a value whose meaning is a string begins with a quotation mark
text_told : (s : List ℕ) (j : Item) {v : List ℕ} → Standing 126 s j → j.named.value ≡ text v → Told s (length s - length j.onward + 1) v
text_told s j {v} t e = go j.onward refl t.within.cut t.valued
  where
    by_head : (x : ℕ) (l : List ℕ) → j.onward ≡ x ∷ l → s ≡ t.within.front ++ (x ∷ l) → value_of 126 (x ∷ l) ≡ got j.named.value t.rest →
        (b : Bool) → eqb x 0x22 ≡ b → Told s (length s - length j.onward + 1) v
    by_head x l o c f true q =
        let is = eqb-true x 0x22 q in
        let w = value_text 126 l (ap (λ y. value_of 126 (y ∷ l)) (sym is) ∙ f) in
        let same_bytes : w.bytes ≡ v = let h : text w.bytes ≡ text v = sym w.is ∙ e in cc in
        let here : s ≡ t.within.front ++ (0x22 ∷ l) = c ∙ ap (λ y. t.within.front ++ (y ∷ l)) is in
        let at : drop (length s - length j.onward + 1) s ≡ l = ap (λ k. drop (length s - k + 1) s) (ap length o) ∙ past_quote s t.within.front l here in
        record {
          front = t.within.front;
          cut = here ∙ ap (λ k. t.within.front ++ (0x22 ∷ k)) (sym at);
          rest = t.rest;
          chars = ap (chars_from 0) at ∙ w.chars ∙ ap (λ k. got k t.rest) same_bytes;
        }
    by_head x l o c f false q = absurd (let h : other ≡ text v = sym (value_other 126 x l q f) ∙ e in let z : ◌≡◌ {A = ℕ} 0 1 = cc in omega arith)

    go : (l : List ℕ) → j.onward ≡ l → s ≡ t.within.front ++ j.onward → value_of 126 j.onward ≡ got j.named.value t.rest → Told s (length s - length j.onward + 1) v
    go [] o c f = never_bad (sym (no_value 126) ∙ ap (value_of 126) (sym o) ∙ f)
    go (x ∷ l) o c f = by_head x l o (c ∙ ap (λ k. t.within.front ++ k) o) (ap (value_of 126) (sym o) ∙ f) (eqb x 0x22) refl

last_as : {k : List ℕ} {m n : Meaning} {ms : List Named} → m ≡ n → Last k m ms → Last k n ms
last_as e l = rw e at l

-- What stands last under a name, in both directions.
module _ (s : List ℕ) {items : List Item} (e : members_of s ≡ got items []) (k : List ℕ) where
  pub stands_missing : (stands_in s (last_of k items) ≡ Missing) ↔ Unnamed k (names items)
  stands_missing = ((λ m. to (last_of k items) refl m), (λ u. ap (stands_in s) (unnamed_missing k items u)))
    where
      found_not : (m : Meaning) (p : ℕ) → stands_as m p ≡ Missing → ⊥
      found_not (text v) p h = let z : ◌≡◌ {A = ℕ} 0 1 = cc in omega arith
      found_not other p h = let z : ◌≡◌ {A = ℕ} 0 1 = cc in omega arith

      to : (f : Found) → last_of k items ≡ f → stands_in s f ≡ Missing → Unnamed k (names items)
      to missing q h = missing_unnamed k items q
      to (found j) q h = absurd (found_not j.named.value (length s - length j.onward) h)

  pub stands_other : (stands_in s (last_of k items) ≡ Other) ↔ Last k other (names items)
  stands_other = ((λ m. to (last_of k items) refl m), back)
    where
      is_other : (m : Meaning) (p : ℕ) → stands_as m p ≡ Other → m ≡ other
      is_other (text v) p h = absurd (let z : ◌≡◌ {A = ℕ} 0 1 = cc in omega arith)
      is_other other p h = refl

      to : (f : Found) → last_of k items ≡ f → stands_in s f ≡ Other → Last k other (names items)
      to missing q h = absurd (let z : ◌≡◌ {A = ℕ} 0 1 = cc in omega arith)
      to (found j) q h = last_as (is_other j.named.value (length s - length j.onward) h) (found_last k items q)

      back : Last k other (names items) → stands_in s (last_of k items) ≡ Other
      back l = let (j, q, v) = last_found k items l in ap (stands_in s) q ∙ ap (λ m. stands_as m (length s - length j.onward)) v

  is_text_lem : (m : Meaning) (q p : ℕ) → stands_as m q ≡ Text p → (w : List ℕ) × (m ≡ text w) × (q + 1 ≡ p)
  is_text_lem (text w) q p h = (w, refl, cc)
  is_text_lem other q p h = absurd (let z : ◌≡◌ {A = ℕ} 0 1 = cc in omega arith)

  told_as : {a b : ℕ} {w : List ℕ} → a ≡ b → Told s a w → Told s b w
  told_as q t = rw q at t

  -- the answer names a string: it is there, and it stands last
  pub named_text : {p : ℕ} → stands_in s (last_of k items) ≡ Text p → (v : List ℕ) × Last k (text v) (names items) × Told s p v
  named_text {p} h = go (last_of k items) refl h
    where
      go : (f : Found) → last_of k items ≡ f → stands_in s f ≡ Text p → (v : List ℕ) × Last k (text v) (names items) × Told s p v
      go missing q g = absurd (let z : ◌≡◌ {A = ℕ} 0 1 = cc in omega arith)
      go (found j) q g =
          let (w, is, at) = is_text_lem j.named.value (length s - length j.onward) p g in
          (w, last_as is (found_last k items q), told_as at (text_told s j (each_last k items (members_stand s e) q) is))

  -- and it stands for `v`
  pub stands_text : {v : List ℕ} → ((p : ℕ) × (stands_in s (last_of k items) ≡ Text p) × Told s p v) ↔ Last k (text v) (names items)
  stands_text {v} = ((λ (p, h, t). to p h t), back)
    where
      to : (p : ℕ) → stands_in s (last_of k items) ≡ Text p → Told s p v → Last k (text v) (names items)
      to p h t =
          let (w, l, u) = named_text h in
          let both : got w u.rest ≡ got v t.rest = sym u.chars ∙ t.chars in
          last_as (ap text (same_value both)) l

      back : Last k (text v) (names items) → (p : ℕ) × (stands_in s (last_of k items) ≡ Text p) × Told s p v
      back l =
          let (j, q, is) = last_found k items l in
          (length s - length j.onward + 1, ap (stands_in s) q ∙ ap (λ m. stands_as m (length s - length j.onward)) is, text_told s j (each_last k items (members_stand s e) q) is)

-- The same of the answer, over the grammar's own members.
says_as : {s : List ℕ} {ms ns : List Named} {k : List ℕ} {a b : Stands} → ms ≡ ns → a ≡ b → Says s ms k a → Says s ns k b
says_as e f t = rw (e, f) at t

-- the two parts of the answer, by the members that were read
pub answer_parts : (s : List ℕ) {items : List Item} → members_of s ≡ got items [] → {x : Comment} → comment_of s ≡ Some x →
    (stands_in s (last_of (ascii "id") items) ≡ x.id) × (stands_in s (last_of (ascii "signature") items) ≡ x.signature)
answer_parts s {items} f e =
    let both : Some (comment_with (stands_in s (last_of (ascii "id") items)) (stands_in s (last_of (ascii "signature") items))) ≡ Some (comment_with _ _) = sym (ap (comment_answer s) f) ∙ e in
    (same_id both, same_signature both)
  where
    same_id : {x : Comment} {a b : Stands} → Some (comment_with a b) ≡ Some x → a ≡ x.id
    same_id q = cc

    same_signature : {x : Comment} {a b : Stands} → Some (comment_with a b) ≡ Some x → b ≡ x.signature
    same_signature q = cc

-- what is answered for `id` and for `signature` is what stands last under them in the text
pub answer_says : (s : List ℕ) {ms : List Named} → JsonText s ms → {x : Comment} → comment_of s ≡ Some x → Says s ms (ascii "id") x.id × Says s ms (ascii "signature") x.signature
answer_says s {ms} j {x} e =
    let (items, n, f) = json_all j in
    let (p, q) = answer_parts s f e in
    (says_as n p (says items f (ascii "id")), says_as n q (says items f (ascii "signature")))
  where
    says : (items : List Item) → members_of s ≡ got items [] → (k : List ℕ) → Says s (names items) k (stands_in s (last_of k items))
    says items f k = record { if_missing = stands_missing s f k; if_other = stands_other s f k; if_text = λ v. stands_text s f k }

-- What such a string stands for is well-formed UTF-8 where the text is.
pub told_octets : (s : List ℕ) (p : ℕ) {v : List ℕ} → Told s p v → Utf8Octets s → Utf8Octets v
told_octets s p t o = reader_octets t.front (drop p s) t.chars (rw t.cut at o)
