-- Document 01 "Descriptors": types.
use Rattle.std.specs.Prelude.{Bool, false, List, [], ◌∷◌, ◌++◌, ℕ, zero, suc, ◌+◌, eqb, length, get_or, replicate}
use Rattle.ground.specs.Ascii.{ascii}
use Rattle.ground.specs.Choice.{pick, both}
use Rattle.ground.specs.Put.{between}
use Rattle.text_places.specs.Places.{same}
use Rattle.text_places.specs.declared.spans.Span.{Span}
use Rattle.text_white.specs.Trim.{trim_both}
use Rattle.descriptor.specs.declared.types.Stripped.{Stripped}
use Rattle.descriptor.specs.declared.types.Base.{Base}
use Rattle.descriptor.specs.declared.types.Base.TheVariants.{Letter, Kept, Named}
use Rattle.descriptor.specs.declared.types.TypeShape.{TypeShape}
use Rattle.table_pool.specs.Names.{class_descriptor}

-- "each `[]` at its end": whether one stands before the place two after `e`
abbrev pub brackets_at : List ℕ → ℕ → Bool
brackets_at s e = both (eqb (get_or s e 0) 0x5B) (eqb (get_or s (suc e) 0) 0x5D)

-- where the first `e` bytes of a text end without them
unfoldable pub base_end : List ℕ → ℕ → ℕ
base_end s zero = zero
base_end s (suc zero) = suc zero
base_end s (suc (suc e)) =
    let earlier = base_end s e in
    pick (brackets_at s e) earlier (suc (suc e))

-- and how many they are
unfoldable pub bracket_count : List ℕ → ℕ → ℕ
bracket_count s zero = zero
bracket_count s (suc zero) = zero
bracket_count s (suc (suc e)) =
    let more = suc (bracket_count s e) in
    pick (brackets_at s e) more zero

abbrev pub stripped_of : List ℕ → Stripped
stripped_of s = record { «end» = base_end s (length s); brackets = bracket_count s (length s) }

-- "The nine Java words give V Z B C S I J F D"; 0 where it is none of them
abbrev pub word_letter : List ℕ → ℕ
word_letter s =
    pick (same s (ascii "void")) 0x56 (pick (same s (ascii "boolean")) 0x5A (pick (same s (ascii "byte")) 0x42
    (pick (same s (ascii "char")) 0x43 (pick (same s (ascii "short")) 0x53 (pick (same s (ascii "int")) 0x49
    (pick (same s (ascii "long")) 0x4A (pick (same s (ascii "float")) 0x46 (pick (same s (ascii "double")) 0x44 0))))))))

-- "text starting `L` and ending `;` is kept"
abbrev pub kept_text : List ℕ → Bool
kept_text [] = false
kept_text (x ∷ s) = both (eqb x 0x4C) (eqb (get_or (x ∷ s) (length s) 0) 0x3B)

-- "the rest is a class name"
abbrev pub base_of : List ℕ → Base
base_of s = pick (eqb (word_letter s) 0) (pick (kept_text s) Kept Named) (Letter (word_letter s))

abbrev pub base_bytes : Base → List ℕ → List ℕ
base_bytes (Letter x) s = x ∷ []
base_bytes Kept s = s
base_bytes Named s = class_descriptor s

-- "A type is trimmed, then each `[]` at its end becomes a leading `[`; no second trim": `b` is the trimmed text, and `e` the place at
-- which it ends without its `[]`s
abbrev pub shape_in : List ℕ → Span → TypeShape
shape_in s p =
    let b : List ℕ = between s p.start p.«end» in
    let e : ℕ = p.start + base_end b (length b) in
    record { brackets = bracket_count b (length b); start = p.start; «end» = e; base = base_of (between s p.start e) }

abbrev pub shape_of : List ℕ → TypeShape
shape_of s = shape_in s (trim_both s)

abbrev pub shape_bytes : TypeShape → List ℕ → List ℕ
shape_bytes t s = replicate t.brackets 0x5B ++ base_bytes t.base (between s t.start t.«end»)

abbrev pub type_descriptor : List ℕ → List ℕ
type_descriptor s = shape_bytes (shape_of s) s
