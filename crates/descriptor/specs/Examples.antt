-- Worked examples of descriptors, computed from the rules.
use Rattle.std.specs.Prelude.{◌≡◌, refl, true, false}
use Rattle.ground.specs.Ascii.{ascii}
use Rattle.text_places.specs.Places.{first_from, last_from, same}
use Rattle.text_utf8.specs.Utf8.{lead_of, tails, after_lead, sequence_of, pieces_from}
use Rattle.text_white.specs.White.{white_ranges, in_ranges, is_white}
use Rattle.text_white.specs.Trim.{run_of, all_white, trim_end}
use Rattle.table_pool.specs.Names.{class_descriptor}
use Rattle.descriptor.specs.Types.{base_end, bracket_count, type_descriptor}
use Rattle.descriptor.specs.Signatures.{raw_signature}

examples :
    (class_descriptor (ascii "a.b.C") ≡ ascii "La/b/C;")
    -- a type is trimmed once, and its brackets go to the front
    × (type_descriptor (ascii " int[][] ") ≡ ascii "[[I")
    × (type_descriptor (ascii "a.B[]") ≡ ascii "[La/B;")
    × (type_descriptor (ascii "[]") ≡ ascii "[L;")
    × (type_descriptor (ascii "") ≡ ascii "L;")
    × (type_descriptor (ascii "La.b;") ≡ ascii "La.b;")
    × (type_descriptor (ascii "voids") ≡ ascii "Lvoids;")
    -- raw signatures of fields
    × (raw_signature false (ascii "[a.b") ≡ ascii "[a.b")
    × (raw_signature false (ascii "Lx;") ≡ ascii "Lx;")
    × (raw_signature false (ascii "I") ≡ ascii "I")
    × (raw_signature false (ascii "int") ≡ ascii "Lint;")
    -- and of methods: what follows the last `)`
    × (raw_signature true (ascii "(I)a.b") ≡ ascii "(I)La/b;")
    × (raw_signature true (ascii "()") ≡ ascii "()L;")
    × (raw_signature true (ascii "a.b") ≡ ascii "a.b")
unfolding ascii first_from last_from same base_end bracket_count run_of trim_end all_white pieces_from sequence_of after_lead lead_of tails is_white in_ranges white_ranges
examples = (refl, refl, refl, refl, refl, refl, refl, refl, refl, refl, refl, refl, refl, refl)
