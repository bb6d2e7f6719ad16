-- Worked examples of raw descriptors, computed from the rules.
use Rattle.std.specs.Prelude.{◌≡◌, refl, List, [], ◌∷◌}
use Rattle.ground.specs.Ascii.{ascii}
use Rattle.ground.specs.Join.{join}
use Rattle.text_places.specs.Places.{first_from, last_from, same}
use Rattle.text_utf8.specs.Utf8.{lead_of, tails, after_lead, sequence_of, pieces_from}
use Rattle.text_white.specs.White.{white_ranges, in_ranges, is_white}
use Rattle.text_white.specs.Trim.{run_of, all_white, trim_end}
use Rattle.table_rows.specs.Classes.{Pair, shown}
use Rattle.descriptor.specs.Types.{base_end, bracket_count}
use Rattle.descriptor.specs.Pieces.{parts_from}
use Rattle.descriptor.specs.Raw.{raw_type_of}

-- three classes, of which two have the same display name
abbrev classes : List Pair
classes =
    record { raw = ascii "Lx;"; display = ascii "La/Main;" }
    ∷ (record { raw = ascii "Ly;"; display = ascii "Lb;" }
    ∷ (record { raw = ascii "Lz;"; display = ascii "La/Main;" } ∷ []))

examples :
    -- the last class with the display name answers
    (raw_type_of classes (ascii "a.Main[]") ≡ ascii "[Lz;")
    × (raw_type_of classes (ascii " b ") ≡ ascii "Ly;")
    -- a class that is not known stays, and so does a word
    × (raw_type_of classes (ascii "a.Other") ≡ ascii "La/Other;")
    × (raw_type_of classes (ascii "int[][]") ≡ ascii "[[I")
    × (raw_type_of classes (ascii "int []") ≡ ascii "[Lint ;")
    -- text that is kept has its dots as they are
    × (raw_type_of classes (ascii "La/Main;[]") ≡ ascii "[Lz;")
    × (raw_type_of classes (ascii "La.Main;") ≡ ascii "La.Main;")
    -- a `;` inside a name ends a piece: from the next `L` on there is another
    × (raw_type_of classes (ascii "b;cLb") ≡ ascii "Ly;cLy;")
    × (raw_type_of classes (ascii "a.Main;c.d") ≡ ascii "Lz;c/d;")
unfolding ascii first_from last_from same base_end bracket_count run_of trim_end all_white pieces_from sequence_of after_lead lead_of tails is_white in_ranges white_ranges parts_from join shown
examples = (refl, refl, refl, refl, refl, refl, refl, refl, refl)
