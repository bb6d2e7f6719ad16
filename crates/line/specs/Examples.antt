-- Worked examples of what a line is, computed from the rules. Places count from the line's first byte.
use Rattle.std.specs.Prelude.{◌≡◌, refl, true, false, [], ◌∷◌, Some, None}
use Rattle.ground.specs.Ascii.{ascii}
use Rattle.text_places.specs.Places.{first_from, last_from}
use Rattle.text_utf8.specs.Utf8.{lead_of, tails, after_lead, sequence_of, pieces_from}
use Rattle.text_white.specs.White.{white_ranges, in_ranges, is_white}
use Rattle.text_white.specs.Trim.{run_of, all_white, trim_end}
use Rattle.number.specs.Numbers.{digits_from, plain, number_of}
use Rattle.line_parts.specs.declared.signature.Qualified.TheVariants.{Owned, Plain}
use Rattle.line.specs.declared.line.Refusal.TheVariants as refusal
use Rattle.line.specs.declared.line.Line.TheVariants.{Blank, Comment, Class, Field, Method, Refused}
use Rattle.line_parts.specs.Arguments.{comma_parts, filled, arguments_of}
use Rattle.line.specs.Kinds.{line_of}
use Rattle.text_places.specs.Spans.{span}
use Rattle.line_parts.specs.Methods.{from_to}

examples :
    -- the five lines of document 01's example
    (line_of (ascii "a.Main -> x:") ≡ Class (span 0 6) (span 10 11))
    × (line_of (ascii "    int n -> b") ≡ Field (span 4 7) (span 8 9) (span 13 14))
    × (line_of (ascii "  1:3:void run(a.Main):10:12 -> c")
    ≡ Method (record {
      returned = span 6 10;
      named = Plain (span 11 14);
      arguments = span 15 21;
      raw = Some (from_to 1 3);
      display = Some (from_to 10 12);
      short = false;
    }) (span 32 33))
    × (line_of (ascii "# {\"id\":1}") ≡ Comment (Some 2))
    × (line_of (ascii "") ≡ Blank)
    -- "`1:4: void run()`: empty return type, name `void run`"
    × (line_of (ascii " 1:4: void run() -> c")
    ≡ Method (record {
      returned = span 5 5;
      named = Plain (span 6 14);
      arguments = span 15 15;
      raw = Some (from_to 1 4);
      display = Some (from_to 1 4);
      short = false;
    }) (span 20 21))
    -- an owner, a second part that does not read, and no raw range
    × (line_of (ascii " int a.b.c(int):7:x -> d")
    ≡ Method (record {
      returned = span 1 4;
      named = Owned (span 5 8) (span 9 10);
      arguments = span 11 14;
      raw = None;
      display = Some (from_to 7 7);
      short = true;
    }) (span 23 24))
    -- a comment with no brace, and the refusals
    × (line_of (ascii " # compiler: R8") ≡ Comment None)
    × (line_of (ascii "a -> b") ≡ Refused refusal.Class)
    × (line_of (ascii " int n b") ≡ Refused refusal.Member)
    × (line_of (ascii " int run) -> (") ≡ Field (span 1 4) (span 5 9) (span 13 14))
    × (line_of (ascii " int )( -> b") ≡ Refused refusal.Method)
    × (line_of (ascii " n -> b") ≡ Refused refusal.Field)
    -- a line opened by U+00A0 is a member line
    × (line_of (0xC2 ∷ 0xA0 ∷ ascii "n -> b") ≡ Refused refusal.Field)
    -- blank arguments go
    × (arguments_of (ascii " int, ,a.B ,") ≡ ascii "int" ∷ ascii "a.B" ∷ [])
unfolding ascii first_from last_from digits_from plain number_of run_of trim_end all_white pieces_from sequence_of after_lead lead_of tails
    is_white in_ranges white_ranges comma_parts filled
examples = (refl, refl, refl, refl, refl, refl, refl, refl, refl, refl, refl, refl, refl, refl, refl)
