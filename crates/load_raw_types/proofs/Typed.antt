-- The raw descriptor of a whole type. Assumes nothing.
use Rattle.std.specs.Prelude.{Option, None, Result, Ok, Err, IsErr}
use mathlib.Core.Path.{◌≡◌, refl, sym, ◌∙◌, ap}
use mathlib.Core.Bool.{Bool, true, false}
use mathlib.Core.List.{List, [], ◌∷◌, ◌++◌}
use Prim.Native.Nat.{ℕ, zero, suc, ◌+◌, ◌-◌, ◌≤◌, ◌<◌}
use native.Mathlib.Omega.{arith}
use lib.Dec.{eqb}
use lib.ListN.{length, get_or, take, replicate}
use lib.Seq.{take-suc, take-length}
use borrow.Author.Tests.{eqb-true}
use borrow.Author.Rules.{rules}
use Rattle.ground.specs.Ascii.{ascii}
use Rattle.ground.specs.Choice.{pick}
use Rattle.ground.proofs.Cases.{clash, both_left, both_right}
use Rattle.text_places.specs.Places.{first_from, first_where, starts, same}
use Rattle.descriptor.specs.declared.types.Base.{Base}
use Rattle.descriptor.specs.declared.types.Base.TheVariants.{Letter, Kept, Named}
use Rattle.descriptor.specs.declared.types.TypeShape.{TypeShape}
use Rattle.ground.specs.Put.{between}
use Rattle.descriptor.specs.Types.{word_letter, kept_text, base_of, base_bytes, shape_of, shape_bytes}
use Rattle.ground.specs.Look.{Look, look_or}
use Rattle.ground.specs.Join.{join}
use Rattle.table_rows.specs.Classes.{back}
use Rattle.descriptor.specs.Pieces.{parts_from, turn}
use Rattle.table_pool.specs.Inner.Wrote.{Written, WroteBy, no_room}
use Rattle.table_pool.proofs.Writes.{wrote_told, wrote_none, wrote_then, none_then, wrote_as}
use Rattle.descriptor.proofs.Typing.{type_order, type_inside}
use Rattle.tables.specs.Back.{read_back}
use Rattle.descriptor.specs.Raw.{raw_type_of}
use Rattle.table_pool.specs.Inner.Named.{class_piece}
use Rattle.table_pool.proofs.Naming.{name_plain}
use Rattle.load_raw_types.specs.Inner.Behind.{Indexed}
use Rattle.descriptor.proofs.Turning.{stays_step}
use Rattle.load_raw_types.proofs.Indexing.{indexed_put, read_back_put}
use Rattle.load_raw_types.proofs.Pieces.{piece_whole}
use Rattle.table_pool.specs.declared.write.NoRoom.{NoRoom}

-- None of the nine letters is an `L`.
pick_other : (b : Bool) (x y : ℕ) → eqb x 0x4C ≡ false → eqb y 0x4C ≡ false → eqb (pick b x y) 0x4C ≡ false
pick_other true x y e f = e
pick_other false x y e f = f

word_other : (s : List ℕ) → eqb (word_letter s) 0x4C ≡ false
word_other s =
    pick_other (same s (ascii "void")) 0x56 _ refl (pick_other (same s (ascii "boolean")) 0x5A _ refl (pick_other (same s (ascii "byte")) 0x42 _ refl
    (pick_other (same s (ascii "char")) 0x43 _ refl (pick_other (same s (ascii "short")) 0x53 _ refl (pick_other (same s (ascii "int")) 0x49 _ refl
    (pick_other (same s (ascii "long")) 0x4A _ refl (pick_other (same s (ascii "float")) 0x46 _ refl (pick_other (same s (ascii "double")) 0x44 0 refl refl))))))))

base_letter_lem : (s : List ℕ) {x : ℕ} → Letter x ≡ base_of s → word_letter s ≡ x
base_letter_lem s {x} e = go (eqb (word_letter s) 0) (kept_text s) e
  where
    go : (a b : Bool) → Letter x ≡ pick a (pick b Kept Named) (Letter (word_letter s)) → word_letter s ≡ x
    go true true f = absurd (let z : ◌≡◌ {A = ℕ} 0 1 = cc in omega arith)
    go true false f = absurd (let z : ◌≡◌ {A = ℕ} 0 1 = cc in omega arith)
    go false b f = cc

base_kept : (s : List ℕ) → Kept ≡ base_of s → kept_text s ≡ true
base_kept s e = go (eqb (word_letter s) 0) (kept_text s) refl e
  where
    go : (a b : Bool) → kept_text s ≡ b → Kept ≡ pick a (pick b Kept Named) (Letter (word_letter s)) → kept_text s ≡ true
    go true true k f = k
    go true false k f = absurd (let z : ◌≡◌ {A = ℕ} 0 1 = cc in omega arith)
    go false b k f = absurd (let z : ◌≡◌ {A = ℕ} 0 1 = cc in omega arith)

one_nowhere : (x : ℕ) → eqb x 0x4C ≡ false → first_where (starts 0x4C) (x ∷ []) ≡ None
unfolding first_from
one_nowhere x e = rw e

turn_letter : (look : List ℕ → Look) (x : ℕ) → eqb x 0x4C ≡ false → turn look (x ∷ []) ≡ x ∷ []
turn_letter look x e = stays_step look (x ∷ []) (one_nowhere x e)

-- A text that is kept is a piece.
kept_long : (s : List ℕ) → kept_text s ≡ true → 2 ≤ length s
kept_long [] e = clash e refl
kept_long (x ∷ []) e =
    let a = eqb-true x 0x4C (both_left (eqb x 0x4C) (eqb x 0x3B) e) in
    let b = eqb-true x 0x3B (both_right (eqb x 0x4C) (eqb x 0x3B) e) in
    absurd (omega arith)
kept_long (x ∷ (y ∷ s)) e = omega arith

kept_piece : (s : List ℕ) → kept_text s ≡ true → class_piece false (between s 1 (length s - 1)) ≡ s
kept_piece s e = go s e (kept_long s e)
  where
    go : (l : List ℕ) → kept_text l ≡ true → 2 ≤ length l → class_piece false (between l 1 (length l - 1)) ≡ l
    go [] f h = absurd (omega arith)
    go (x ∷ []) f h = absurd (omega arith)
    go (x ∷ (y ∷ l)) f h =
        let a : x ≡ 0x4C = eqb-true x 0x4C (both_left (eqb x 0x4C) (eqb (get_or (x ∷ (y ∷ l)) (length (y ∷ l)) 0) 0x3B) f) in
        let b : get_or (y ∷ l) (length l) 0 ≡ 0x3B = eqb-true (get_or (y ∷ l) (length l) 0) 0x3B (both_right (eqb x 0x4C) (eqb (get_or (y ∷ l) (length l) 0) 0x3B) f) in
        let n : length (x ∷ (y ∷ l)) - 1 - 1 ≡ length l = omega arith in
        let c : y ∷ l ≡ take (length l) (y ∷ l) ++ (0x3B ∷ []) = sym (take-length (y ∷ l)) ∙ take-suc (y ∷ l) (length l) 0 (omega arith) ∙ rw b in
        rw (n, name_plain (take (length l) (y ∷ l)), ← c, a)

-- A class name that is one piece.
module _ (look : List ℕ → Look) (name : List ℕ) (r : Result ℕ NoRoom) (d : List ℕ) (at : ℕ) (d₁ : List ℕ) where
  pub name_whole : {p : Option ℕ} → p ≡ first_where (starts 0x3B) name → p ≡ None →
      WroteBy r d at (look_or (class_piece true name) (look (class_piece true name))) d₁ → WroteBy r d at (turn look (class_piece true name)) d₁
  name_whole e f w = wrote_as r d at d₁ (sym (piece_whole look true name (sym e ∙ f))) w

pub ruleset raw_names = (name_whole, rules)

-- The type without its `[]`s.
module _ (look : List ℕ → Look) (text : List ℕ) {base : Base} (e : base ≡ base_of text) (r : Result ℕ NoRoom) (d : List ℕ) (at : ℕ) (d₁ : List ℕ) where
  pub base_letter_turned : {x : ℕ} → base ≡ Letter x → WroteBy r d at (replicate 1 x) d₁ → WroteBy r d at (turn look (base_bytes base text)) d₁
  base_letter_turned {x} f w =
      let g : eqb x 0x4C ≡ false = ap (λ y. eqb y 0x4C) (sym (base_letter_lem text (sym f ∙ e))) ∙ word_other text in
      rw f (wrote_as r d at d₁ (sym (turn_letter look x g)) w)

  pub base_kept_turned : base ≡ Kept → WroteBy r d at (turn look (class_piece false (between text 1 (length text - 1)))) d₁ → WroteBy r d at (turn look (base_bytes base text)) d₁
  base_kept_turned f w = rw f (wrote_as r d at d₁ (ap (turn look) (kept_piece text (base_kept text (sym f ∙ e)))) w)

  pub base_named_turned : base ≡ Named → WroteBy r d at (turn look (class_piece true text)) d₁ → WroteBy r d at (turn look (base_bytes base text)) d₁
  base_named_turned f w = rw f w

module _ (text : List ℕ) {base : Base} (e : base ≡ base_of text) (f : base ≡ Kept) where
  pub kept_one : 1 ≤ length text
  kept_one = let h = kept_long text (base_kept text (sym f ∙ e)) in omega arith

  pub kept_end : 1 ≤ length text - 1
  kept_end = let h = kept_long text (base_kept text (sym f ∙ e)) in omega arith

pub ruleset base_turns = (base_letter_turned, base_kept_turned, base_named_turned, kept_one, kept_end, rules)

-- Brackets stay.
turn_bracket : (look : List ℕ → Look) (l : List ℕ) → turn look (0x5B ∷ l) ≡ 0x5B ∷ turn look l
unfolding parts_from join
turn_bracket look l = refl

turn_brackets : (look : List ℕ → Look) (n : ℕ) (l : List ℕ) → turn look (replicate n 0x5B ++ l) ≡ replicate n 0x5B ++ turn look l
turn_brackets look zero l = refl
turn_brackets look (suc n) l = turn_bracket look (replicate n 0x5B ++ l) ∙ ap (λ k. 0x5B ∷ k) (turn_brackets look n l)

module _ (text : List ℕ) {t : TypeShape} (e : t ≡ shape_of text) where
  pub shape_base : t.base ≡ base_of (between text t.start t.«end»)
  shape_base = rw e

module _ {rows : List (List ℕ)} {pool index : List ℕ} {at : ℕ} (x : Indexed rows pool index at) (text : List ℕ) {t : TypeShape} (e : t ≡ shape_of text) (r : Result ℕ NoRoom) (d : List ℕ) (w : WroteBy r pool at (replicate t.brackets 0x5B) d) where
  whole : raw_type_of (read_back rows pool) text ≡ replicate t.brackets 0x5B ++ turn (back (read_back rows pool)) (base_bytes t.base (between text t.start t.«end»))
  whole = ap (λ s. turn (back (read_back rows pool)) (shape_bytes s text)) (sym e) ∙ turn_brackets (back (read_back rows pool)) t.brackets (base_bytes t.base (between text t.start t.«end»))

  pub raw_no_room : r ≡ Err no_room → length pool < at + length (raw_type_of (read_back rows pool) text)
  raw_no_room f =
      rw whole (none_then pool at (replicate t.brackets 0x5B) (turn (back (read_back rows pool)) (base_bytes t.base (between text t.start t.«end»)))
      (wrote_none r pool at (replicate t.brackets 0x5B) d w f))

  module _ {q : ℕ} (f : r ≡ Ok q) where
    bracketed : Written q pool at (replicate t.brackets 0x5B) d
    bracketed = wrote_told r pool at (replicate t.brackets 0x5B) d w f

    pub raw_indexed : Indexed rows d index q
    raw_indexed = indexed_put x bracketed

    module _ (v : Result ℕ NoRoom) (d₁ : List ℕ) (u : WroteBy v d q (turn (back (read_back rows d)) (base_bytes t.base (between text t.start t.«end»))) d₁) where
      put : WroteBy v pool at (raw_type_of (read_back rows pool) text) d₁
      put =
          let b : List ℕ = turn (back (read_back rows pool)) (base_bytes t.base (between text t.start t.«end»)) in
          let same : WroteBy v d q b d₁ = rw (read_back_put x bracketed) at u in
          wrote_as v pool at d₁ (sym whole) (wrote_then v b d₁ bracketed same)

      pub raw_none : v ≡ Err no_room → length pool < at + length (raw_type_of (read_back rows pool) text)
      raw_none g = wrote_none v pool at (raw_type_of (read_back rows pool) text) d₁ put g

      pub raw_done : {z : ℕ} → v ≡ Ok z → Written z pool at (raw_type_of (read_back rows pool) text) d₁
      raw_done g = wrote_told v pool at (raw_type_of (read_back rows pool) text) d₁ put g

-- What `?` hands on where there is no room.
pub wrote_err : (r : Result ℕ NoRoom) (d : List ℕ) (at : ℕ) (b d₁ : List ℕ) → IsErr r → length d < at + length b → WroteBy r d at b d₁
wrote_err (Ok q) d at b d₁ e h = absurd (let z : ◌≡◌ {A = ℕ} 0 1 = cc in omega arith)
wrote_err (Err _) d at b d₁ e h = h

pub ruleset raw_types = (wrote_err, type_order, type_inside, shape_base, raw_no_room, raw_indexed, raw_none, raw_done, rules)
