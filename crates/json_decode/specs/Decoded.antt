-- What a string stands for, in terms of RFC 8259's reader on lists: its length, whether it is a given text, and its bytes in a lent slice.
use Rattle.std.specs.Prelude.{Bool, false, List, [], ℕ, ◌+◌, leb, length, Option, Some, None, Result, Ok, Err}
use Rattle.ground.specs.Choice.{pick}
use Rattle.ground.specs.Put.{put}
use Rattle.text_places.specs.Places.{same}
use Rattle.json_grammar.specs.Reader.{Out, got, bad}
use Rattle.json_decode.specs.declared.write.WriteError.{WriteError}
use Rattle.json_decode.specs.declared.write.WriteError.TheVariants.{NoRoom, NoString}

-- how many bytes a string stands for
abbrev pub decoded_length : Out (List ℕ) → Option ℕ
decoded_length (got v r) = Some (length v)
decoded_length bad = None

-- whether it stands for the bytes `w`
abbrev pub decoded_is : List ℕ → Out (List ℕ) → Bool
decoded_is w (got v r) = same v w
decoded_is w bad = false

-- the bytes themselves, none where there is no string
abbrev pub decoded : Out (List ℕ) → List ℕ
decoded (got v r) = v
decoded bad = []

-- they are written at a place, where the room has so many bytes
abbrev pub written_of : Out (List ℕ) → ℕ → ℕ → Result ℕ WriteError
written_of (got v r) at n = pick (leb (at + length v) n) (Ok (at + length v)) (Err NoRoom)
written_of bad at n = Err NoString

-- the room afterwards; as it was where they do not fit
abbrev pub room_of : Out (List ℕ) → ℕ → List ℕ → List ℕ
room_of (got v r) at d = pick (leb (at + length v) (length d)) (put d at v) d
room_of bad at d = d
