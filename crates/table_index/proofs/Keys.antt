-- The descriptor of a row. Assumes nothing.
use mathlib.Core.Path.{◌≡◌, refl, sym, ◌∙◌, ap}
use mathlib.Core.List.{List, [], ◌∷◌, map}
use Prim.Native.Nat.{ℕ, suc, ◌<◌}
use native.Mathlib.Omega.{arith}
use lib.ListN.{length, get_or, get_or-map}
use borrow.Author.Rules.{rules}
use Rattle.table_rows.specs.declared.rows.Text.{Text}
use Rattle.table_rows.specs.declared.rows.Class.{Class}
use Rattle.table_rows.specs.Rows.{unpack_class}
use Rattle.tables.specs.declared.search.Side.{Side}
use Rattle.tables.specs.declared.search.Side.TheVariants.{Raw, Display}
use Rattle.tables.specs.Back.{text_in}
use Rattle.tables.specs.Search.{text_on}
use Rattle.table_index.specs.Inner.Keys.{keys_of}
use Rattle.table_index.specs.Inner.Index.{IndexBy}

-- past the rows there is no text
empty_text : (side : Side) (pool : List ℕ) → text_in pool (text_on side (unpack_class [])) ≡ []
empty_text Raw pool = refl
empty_text Display pool = refl

pub key_is : (side : Side) (rows : List (List ℕ)) (pool : List ℕ) (r : ℕ) →
    get_or (keys_of side rows pool) r [] ≡ text_in pool (text_on side (unpack_class (get_or rows r [])))
unfolding keys_of
key_is side rows pool r =
    ap (get_or (keys_of side rows pool) r) (sym (empty_text side pool))
    ∙ get_or-map (λ row. text_in pool (text_on side (unpack_class row))) rows r []

pub text_told : (side : Side) (rows : List (List ℕ)) (pool : List ℕ) (r : ℕ) {c : Class} → c ≡ unpack_class (get_or rows r []) →
    {t : Text} → t ≡ text_on side c → {s : List ℕ} → s ≡ text_in pool t → s ≡ get_or (keys_of side rows pool) r []
text_told side rows pool r e f g =
    g ∙ ap (text_in pool) f ∙ ap (λ x. text_in pool (text_on side x)) e ∙ sym (key_is side rows pool r)

pub ruleset row_texts = (text_told, rules)

-- Only the descriptors count: a pool that holds the same ones at the same places has the same index.
texts_alike : (f g : List ℕ → List ℕ) (rows : List (List ℕ)) →
    ((i : ℕ) → i < length rows → f (get_or rows i []) ≡ g (get_or rows i [])) →
    map f rows ≡ map g rows
texts_alike f g [] e = refl
texts_alike f g (row ∷ rows) e =
    ap (λ x. x ∷ map f rows) (e 0 (omega arith)) ∙ ap (λ l. g row ∷ l) (texts_alike f g rows (λ i h. e (suc i) (omega arith)))

pub keys_alike : (side : Side) (rows : List (List ℕ)) (pool pool₁ : List ℕ) →
    ((i : ℕ) → i < length rows →
    text_in pool₁ (text_on side (unpack_class (get_or rows i []))) ≡ text_in pool (text_on side (unpack_class (get_or rows i [])))) →
    keys_of side rows pool₁ ≡ keys_of side rows pool
unfolding keys_of
keys_alike side rows pool pool₁ e =
    texts_alike (λ row. text_in pool₁ (text_on side (unpack_class row))) (λ row. text_in pool (text_on side (unpack_class row))) rows e

pub index_kept : (side : Side) (rows : List (List ℕ)) (pool pool₁ index : List ℕ) →
    keys_of side rows pool₁ ≡ keys_of side rows pool →
    IndexBy side rows pool index → IndexBy side rows pool₁ index
index_kept side rows pool pool₁ index e x = record { shelved = λ z. rw e (x.shelved z) }
