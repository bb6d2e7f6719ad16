-- Document 01 "Descriptors": raw signatures.
use Rattle.std.specs.Prelude.{Bool, false, List, [], ◌∷◌, ◌++◌, ℕ, ◌+◌, eqb, take, drop, Option, Some, None}
use Rattle.ground.specs.Choice.{pick, either}
use Rattle.text_places.specs.Places.{last_where, starts}
use Rattle.table_pool.specs.Names.{class_descriptor}
use Rattle.descriptor.specs.Types.{kept_text}

-- "one of the nine letters"
abbrev pub is_letter : ℕ → Bool
is_letter x =
    either (eqb x 0x56) (either (eqb x 0x5A) (either (eqb x 0x42) (either (eqb x 0x43) (either (eqb x 0x53)
    (either (eqb x 0x49) (either (eqb x 0x4A) (either (eqb x 0x46) (eqb x 0x44))))))))

abbrev pub one_letter : List ℕ → Bool
one_letter [] = false
one_letter (x ∷ []) = is_letter x
one_letter (x ∷ (y ∷ s)) = false

-- "Raw field signatures that start `[`, or are `L..;`, or one of the nine letters are kept"
abbrev pub raw_kept : List ℕ → Bool
raw_kept s = either (starts 0x5B s) (either (one_letter s) (kept_text s))

-- "others become classes"
abbrev pub raw_type : List ℕ → List ℕ
raw_type s = pick (raw_kept s) s (class_descriptor s)

-- "for methods this holds for what follows the last `)`; with no `)` the text is kept"
abbrev pub after_close : List ℕ → Option ℕ → List ℕ
after_close s None = s
after_close s (Some i) = take (i + 1) s ++ raw_type (drop (i + 1) s)

abbrev pub raw_signature : Bool → List ℕ → List ℕ
raw_signature method s = pick method (after_close s (last_where (starts 0x29) s)) (raw_type s)
