-- The promises that are no plain equations leave one answer all the same. Assumes nothing.
use Rattle.std.specs.Prelude.{Option, Some, None}
use mathlib.Core.Path.{◌≡◌, refl, sym, ◌∙◌, ap}
use mathlib.Core.List.{List, [], ◌∷◌}
use Prim.Native.Nat.{ℕ, suc, ◌+◌, ◌≤◌}
use native.Mathlib.Omega.{arith}
use lib.ListN.{length, get_or, drop, length-drop}
use Rattle.json_grammar.specs.Encode.{utf8}
use Rattle.json_grammar.specs.Reader as Reader
use Rattle.json_grammar.specs.Reader.{Out}
use Rattle.json_grammar.proofs.Took.{same_rest, never_bad}
use Rattle.json_grammar.proofs.EncodeLaws.{by_form, utf8_once}
use Rattle.json_string.specs.declared.string.Piece.{Piece}
use Rattle.json_string.specs.declared.string.Piece.TheVariants.{Byte, Code, Closes, Wrong}
use Rattle.json_string.specs.Inner.Means.{Means}
use Rattle.json_string.specs.Inner.Pieces.{Stood, Coded, Closed, PieceMeans}

-- a place is known by what is left of the text
pub place_once : (s : List ℕ) (n m : ℕ) → n ≤ length s → m ≤ length s → drop n s ≡ drop m s → n ≡ m
place_once s n m i j e = let l = ap length e in omega (arith, length-drop n s, length-drop m s)

pub means_once : {A : Type 0} (s : List ℕ) (o : Out A) (r q : Option ℕ) → Means s r o → Means s q o → r ≡ q
means_once s o (Some n) (Some m) a b = ap Some (place_once s n m a.inside b.inside (same_rest (sym a.reads ∙ b.reads)))
means_once s o (Some n) None a b = never_bad (sym b ∙ a.reads)
means_once s o None (Some m) a b = never_bad (sym a ∙ b.reads)
means_once s o None None a b = refl

-- Chars. A code point above 7F has several octets
several : (c : ℕ) → 0x80 ≤ c → 2 ≤ length (utf8 c)
several c h = by_form (λ l. 2 ≤ length l) c (λ l. omega arith) (λ l u. omega arith) (λ l u. omega arith) (λ l. omega arith)

-- two chars that are one: where they end, and what they stand for
ends : {s : List ℕ} {base n m : ℕ} {v w : List ℕ} {p : Reader.Piece} → Stood s base n v p → Stood s base m w p → n ≡ m
ends {base = base} a b =
    let e : Reader.stands _ a.size ≡ Reader.stands _ b.size = sym a.is ∙ b.is in
    let z : a.size ≡ b.size = cc in
    a.next ∙ ap (λ k. base + suc k) z ∙ sym b.next

bytes : {s : List ℕ} {base n m : ℕ} {v w : List ℕ} {p : Reader.Piece} → Stood s base n v p → Stood s base m w p → v ≡ w
bytes a b = let e : Reader.stands _ a.size ≡ Reader.stands _ b.size = sym a.is ∙ b.is in cc

one_not_several : {s : List ℕ} {base n m b c : ℕ} {p : Reader.Piece} {A : Type 0} → Stood s base n (b ∷ []) p → Coded s base m c p → A
one_not_several {c = c} a k = absurd (let l = ap length (bytes a k.stood) in let h = several c k.several in omega arith)

never_closes : {s : List ℕ} {base n m : ℕ} {v : List ℕ} {p : Reader.Piece} {A : Type 0} → Stood s base n v p → Closed s base m p → A
never_closes a b = absurd (let e = sym a.is ∙ b.is in let z : ◌≡◌ {A = ℕ} 0 1 = cc in omega arith)

never_wrong : {s : List ℕ} {base n : ℕ} {v : List ℕ} {p : Reader.Piece} {A : Type 0} → Stood s base n v p → p ≡ Reader.wrong → A
never_wrong a b = absurd (let e = sym a.is ∙ b in let z : ◌≡◌ {A = ℕ} 0 1 = cc in omega arith)

close_not_wrong : {s : List ℕ} {base n : ℕ} {p : Reader.Piece} {A : Type 0} → Closed s base n p → p ≡ Reader.wrong → A
close_not_wrong a b = absurd (let e = sym a.is ∙ b in let z : ◌≡◌ {A = ℕ} 0 1 = cc in omega arith)

pub piece_once : (s : List ℕ) (base : ℕ) (p : Reader.Piece) (r q : Piece) → PieceMeans s base r p → PieceMeans s base q p → r ≡ q
piece_once s base p (Byte b n) (Byte c m) a k = let e = ends a k in let f : b ≡ c = ap (λ l. get_or l 0 0) (bytes a k) in cc
piece_once s base p (Byte b n) (Code c m) a k = one_not_several a k
piece_once s base p (Byte b n) (Closes m) a k = never_closes a k
piece_once s base p (Byte b n) Wrong a k = never_wrong a k
piece_once s base p (Code b n) (Byte c m) a k = one_not_several k a
piece_once s base p (Code b n) (Code c m) a k = let e = ends a.stood k.stood in let f = utf8_once b c (bytes a.stood k.stood) in cc
piece_once s base p (Code b n) (Closes m) a k = never_closes a.stood k
piece_once s base p (Code b n) Wrong a k = never_wrong a.stood k
piece_once s base p (Closes n) (Byte c m) a k = never_closes k a
piece_once s base p (Closes n) (Code c m) a k = never_closes k.stood a
piece_once s base p (Closes n) (Closes m) a k = ap Closes (a.next ∙ sym k.next)
piece_once s base p (Closes n) Wrong a k = close_not_wrong a k
piece_once s base p Wrong (Byte c m) a k = never_wrong k a
piece_once s base p Wrong (Code c m) a k = never_wrong k.stood a
piece_once s base p Wrong (Closes m) a k = close_not_wrong k a
piece_once s base p Wrong Wrong a k = refl
